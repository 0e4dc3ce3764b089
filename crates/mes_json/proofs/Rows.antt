-- Examples of objects and arrays, each run through the state machine by computation.
use Rattle.std.proofs.Common.{◌≡◌, ℕ, zero, suc, List, [], ◌∷◌, Some, None, refl}
use Rattle.mes_json.specs.Tree.Tree.{null, number, string, array, object}
use Rattle.mes_json.specs.Tree.Items.{no_items, item}
use Rattle.mes_json.specs.Tree.Members.{no_members, member}
use Rattle.mes_json.specs.Machine.{Frame, start, run, ends}
use Rattle.mes_json.specs.Machine.State.{state}
use Rattle.mes_json.specs.Machine.Frame.{frame, array_frame}
use Rattle.mes_json.specs.Machine.ReaderState.{value, first_item, name}

-- {"type":"HEARTBEAT"}
heartbeat : ends 1 start (123 ∷ 34 ∷ 116 ∷ 121 ∷ 112 ∷ 101 ∷ 34 ∷ 58 ∷ 34 ∷ 72 ∷ 69 ∷ 65 ∷ 82 ∷ 84 ∷ 66 ∷ 69 ∷ 65 ∷ 84 ∷ 34 ∷ 125 ∷ [])
    ≡ Some (object (member (116 ∷ 121 ∷ 112 ∷ 101 ∷ []) (string (72 ∷ 69 ∷ 65 ∷ 82 ∷ 84 ∷ 66 ∷ 69 ∷ 65 ∷ 84 ∷ [])) no_members))
unfolding run
heartbeat = refl

-- a repeated name is in the tree twice, in order:  {"a":"b","a":{}}
repeated : ends 2 start (32 ∷ 123 ∷ 34 ∷ 97 ∷ 34 ∷ 58 ∷ 34 ∷ 98 ∷ 34 ∷ 44 ∷ 32 ∷ 34 ∷ 97 ∷ 34 ∷ 9 ∷ 58 ∷ 123 ∷ 125 ∷ 13 ∷ 125 ∷ 10 ∷ [])
    ≡ Some (object (member (97 ∷ []) (string (98 ∷ [])) (member (97 ∷ []) (object no_members) no_members)))
unfolding run
repeated = refl

-- after {"a": a value is expected, and the object is on the stack
value_is_due : run 64 start (123 ∷ 34 ∷ 97 ∷ 34 ∷ 58 ∷ []) ≡ Some (state (frame no_members (97 ∷ []) ∷ []) value)
unfolding run
value_is_due = refl

-- {"a":"b",} is refused at the brace
comma_then_end : run 64 start (123 ∷ 34 ∷ 97 ∷ 34 ∷ 58 ∷ 34 ∷ 98 ∷ 34 ∷ 44 ∷ 125 ∷ []) ≡ None
unfolding run
comma_then_end = refl

-- {}x and {}{} are refused at the byte after the object, a byte order mark at its first byte
behind_text : run 64 start (123 ∷ 125 ∷ 120 ∷ []) ≡ None
unfolding run
behind_text = refl

two_texts : run 64 start (123 ∷ 125 ∷ 123 ∷ []) ≡ None
unfolding run
two_texts = refl

mark : run 64 start (0xEF ∷ []) ≡ None
unfolding run
mark = refl

-- no bytes, white space alone and an open object are no whole text
nothing : ends 64 start [] ≡ None
unfolding run
nothing = refl

blanks : ends 64 start (32 ∷ 9 ∷ 10 ∷ 13 ∷ []) ≡ None
unfolding run
blanks = refl

open_object : ends 64 start (123 ∷ []) ≡ None
unfolding run
open_object = refl

-- an object in an object needs two levels of nesting
one_level : run 1 start (123 ∷ 34 ∷ 34 ∷ 58 ∷ 123 ∷ []) ≡ None
unfolding run
one_level = refl

two_levels : run 2 start (123 ∷ 34 ∷ 34 ∷ 58 ∷ 123 ∷ []) ≡ Some (state (frame no_members [] ∷ []) (name no_members))
unfolding run
two_levels = refl

-- ---- arrays
-- [null,-0.5e+1]
null_and_number : ends 64 start (91 ∷ 110 ∷ 117 ∷ 108 ∷ 108 ∷ 44 ∷ 45 ∷ 48 ∷ 46 ∷ 53 ∷ 101 ∷ 43 ∷ 49 ∷ 93 ∷ []) ≡ Some (array (item null (item (number (45 ∷ 48 ∷ 46 ∷ 53 ∷ 101 ∷ 43 ∷ 49 ∷ [])) no_items)))
unfolding run
null_and_number = refl

-- [ ] is empty; refused are [1,] at its end, [,] at the comma, [} and {] at the second byte
empty_array : ends 1 start (91 ∷ 32 ∷ 93 ∷ []) ≡ Some (array no_items)
unfolding run
empty_array = refl

comma_then_end_of_array : run 64 start (91 ∷ 49 ∷ 44 ∷ 93 ∷ []) ≡ None
unfolding run
comma_then_end_of_array = refl

before_end_of_array : run 64 start (91 ∷ 49 ∷ 44 ∷ []) ≡ Some (state (array_frame (item (number (49 ∷ [])) no_items) ∷ []) value)
unfolding run
before_end_of_array = refl

comma_first : run 64 start (91 ∷ 44 ∷ []) ≡ None
unfolding run
comma_first = refl

array_then_brace : run 64 start (91 ∷ 125 ∷ []) ≡ None
unfolding run
array_then_brace = refl

object_then_bracket : run 64 start (123 ∷ 93 ∷ []) ≡ None
unfolding run
object_then_bracket = refl

item_then_brace : run 64 start (91 ∷ 49 ∷ 125 ∷ []) ≡ None
unfolding run
item_then_brace = refl

member_then_bracket : run 64 start (123 ∷ 34 ∷ 34 ∷ 58 ∷ 49 ∷ 93 ∷ []) ≡ None
unfolding run
member_then_bracket = refl

-- the items of an array stay in order
order_of_items : ends 64 start (91 ∷ 49 ∷ 44 ∷ 32 ∷ 50 ∷ 32 ∷ 44 ∷ 51 ∷ 93 ∷ []) ≡ Some (array (item (number (49 ∷ [])) (item (number (50 ∷ [])) (item (number (51 ∷ [])) no_items))))
unfolding run
order_of_items = refl

-- {"a":[{}]} needs three levels of nesting
mixed : ends 3 start (123 ∷ 34 ∷ 97 ∷ 34 ∷ 58 ∷ 91 ∷ 123 ∷ 125 ∷ 93 ∷ 125 ∷ []) ≡ Some (object (member (97 ∷ []) (array (item (object no_members) no_items)) no_members))
unfolding run
mixed = refl

mixed_too_deep : run 2 start (123 ∷ 34 ∷ 97 ∷ 34 ∷ 58 ∷ 91 ∷ 123 ∷ []) ≡ None
unfolding run
mixed_too_deep = refl

-- n open arrays, for as many as the limit and one more
opened : ℕ → List ℕ
opened zero = []
opened (suc n) = 91 ∷ opened n

frames : ℕ → List Frame
frames zero = []
frames (suc n) = array_frame no_items ∷ frames n

deepest : run 64 start (opened 64) ≡ Some (state (frames 63) first_item)
unfolding run opened frames
deepest = refl

too_deep : run 64 start (opened 65) ≡ None
unfolding run opened
too_deep = refl
