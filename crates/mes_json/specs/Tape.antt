-- The state of `Machine` that a tape represents: the state after all nodes of the tape, with their
-- texts from the buffer. Cited by private clauses only.
use Rattle.std.specs.Prelude.{◌≡◌, ℕ, ◌+◌, ◌-◌, ◌≤◌, ◌⊎◌, List, [], ◌∷◌, length, take, drop}
use Rattle.std.specs.List.{AllByRecursion}
use Rattle.std.specs.Str.{IsUtf8}
use Rattle.mes_fixed.specs.Number.{IsNumber}
use Rattle.mes_json.specs.Tree.{Tree, Items, Members}
use Rattle.mes_json.specs.Tree.Tree.{null, boolean, number, string, array, object}
use Rattle.mes_json.specs.Tree.Items.{no_items}
use Rattle.mes_json.specs.Tree.Members.{no_members}
use Rattle.mes_json.specs.Machine.{Frame, ReaderState, State, with_item, with_member, start}
use Rattle.mes_json.specs.Machine.Frame.{frame, array_frame}
use Rattle.mes_json.specs.Machine.ReaderState.{value, first_item, name, quoted, named, token, after}
use Rattle.mes_json.specs.Machine.State.{state}
use Rattle.mes_json.specs.declared.tape.Node.{Node}
use Rattle.mes_json.specs.declared.tape.Node.TheVariants.{Null, Bool, Number, Text, Name, List as list, Map, End}

-- the bytes of the buffer of texts between two offsets
abbrev pub span : List ℕ → ℕ → ℕ → List ℕ
span texts from to = take (to - from) (drop from texts)

-- the state after the value t and a comma, if t is an item of the innermost array
abbrev pub item_joined : List Frame → Tree → State
item_joined [] t = state [] (after t)
item_joined (frame ms k ∷ fs) t = state (frame ms k ∷ fs) (after t)
item_joined (array_frame ts ∷ fs) t = state (array_frame (with_item ts t) ∷ fs) value

-- the state in which a next value is read: the open object or array is pushed onto the stack
abbrev pub value_due : State → State
value_due (state fs value) = state fs value
value_due (state fs first_item) = state (array_frame no_items ∷ fs) value
value_due (state fs (name ms)) = state fs (name ms)
value_due (state fs (quoted p m s)) = state fs (quoted p m s)
value_due (state fs (named ms k)) = state (frame ms k ∷ fs) value
value_due (state fs (token x)) = state fs (token x)
value_due (state fs (after t)) = item_joined fs t

-- the state after the value t and a comma, if t is a member's value
abbrev pub member_joined : List Frame → Tree → State
member_joined [] t = state [] (after t)
member_joined (frame ms k ∷ fs) t = state fs (name (with_member ms k t))
member_joined (array_frame ts ∷ fs) t = state (array_frame ts ∷ fs) (after t)

-- the state in which a next name is read, if a member's value has ended
abbrev pub name_due : State → State
name_due (state fs value) = state fs value
name_due (state fs first_item) = state fs first_item
name_due (state fs (name ms)) = state fs (name ms)
name_due (state fs (quoted p m s)) = state fs (quoted p m s)
name_due (state fs (named ms k)) = state fs (named ms k)
name_due (state fs (token x)) = state fs (token x)
name_due (state fs (after t)) = member_joined fs t

-- the state, replaced by a if it is one that expects a value
abbrev pub valued : ReaderState → State → State
valued a (state fs value) = state fs a
valued a (state fs first_item) = state fs first_item
valued a (state fs (name ms)) = state fs (name ms)
valued a (state fs (quoted p m s)) = state fs (quoted p m s)
valued a (state fs (named ms k)) = state fs (named ms k)
valued a (state fs (token x)) = state fs (token x)
valued a (state fs (after t)) = state fs (after t)

-- the state, replaced by f of the members so far if it is one that expects a name
abbrev pub in_object : (Members → ReaderState) → State → State
in_object f (state fs value) = state fs value
in_object f (state fs first_item) = state fs first_item
in_object f (state fs (name ms)) = state fs (f ms)
in_object f (state fs (quoted p m s)) = state fs (quoted p m s)
in_object f (state fs (named ms k)) = state fs (named ms k)
in_object f (state fs (token x)) = state fs (token x)
in_object f (state fs (after t)) = state fs (after t)

-- the state after the end of the innermost object or array, whose last value is t
abbrev pub ended_after : List Frame → Tree → State
ended_after [] t = state [] (after t)
ended_after (frame ms k ∷ fs) t = state fs (after (object (with_member ms k t)))
ended_after (array_frame ts ∷ fs) t = state fs (after (array (with_item ts t)))

-- the state after the end of the innermost object or array
abbrev pub ended : State → State
ended (state fs value) = state fs value
ended (state fs first_item) = state fs (after (array no_items))
ended (state fs (name ms)) = state fs (after (object ms))
ended (state fs (quoted p m s)) = state fs (quoted p m s)
ended (state fs (named ms k)) = state fs (named ms k)
ended (state fs (token x)) = state fs (token x)
ended (state fs (after t)) = ended_after fs t

-- the state s after one more node of the tape
abbrev pub apply : List ℕ → Node → State → State
apply texts Null s = valued (after null) (value_due s)
apply texts (Bool x) s = valued (after (boolean x)) (value_due s)
apply texts (Number from to) s = valued (after (number (span texts from to))) (value_due s)
apply texts (Text from to) s = valued (after (string (span texts from to))) (value_due s)
apply texts (Name from to) s = in_object (λ ms. named ms (span texts from to)) (name_due s)
apply texts (list n) s = valued first_item (value_due s)
apply texts (Map n) s = valued (name no_members) (value_due s)
apply texts End s = ended s

-- the state s after more nodes of the tape
abbrev pub spelled_from : List ℕ → State → List Node → State
spelled_from texts s [] = s
spelled_from texts s (x ∷ xs) = spelled_from texts (apply texts x s) xs

abbrev pub spelled : List ℕ → List Node → State
spelled texts xs = spelled_from texts start xs

-- the offsets are within the buffer of texts, and the text between them is UTF-8
pub record IsSpan (texts : List ℕ) (from to : ℕ) : Type 0 where
  pub forward : from ≤ to
  pub inside : to ≤ length texts
  pub utf8 : IsUtf8 (span texts from to)

-- the text between the offsets is a number
pub record IsNumberSpan (texts : List ℕ) (from to : ℕ) : Type 0 where
  pub span_is : IsSpan texts from to
  pub number_is : IsNumber (span texts from to)

-- the number of bytes of a node's text
abbrev pub span_length : Node → ℕ
span_length Null = 0
span_length (Bool x) = 0
span_length (Number from to) = to - from
span_length (Text from to) = to - from
span_length (Name from to) = to - from
span_length (list n) = 0
span_length (Map n) = 0
span_length End = 0

abbrev pub spanned : List Node → ℕ
spanned [] = 0
spanned (x ∷ xs) = span_length x + spanned xs

-- the text of a node, if it has one, is valid
abbrev pub HasSpan : List ℕ → Node → Type 0
HasSpan texts Null = Unit {0}
HasSpan texts (Bool x) = Unit {0}
HasSpan texts (Number from to) = IsNumberSpan texts from to
HasSpan texts (Text from to) = IsSpan texts from to
HasSpan texts (Name from to) = IsSpan texts from to
HasSpan texts (list n) = Unit {0}
HasSpan texts (Map n) = Unit {0}
HasSpan texts End = Unit {0}

abbrev pub TakesValue : State → Type 0
TakesValue s = (fs : List Frame) × (value_due s ≡ state fs value)

abbrev pub TakesName : State → Type 0
TakesName s = (fs : List Frame) × (ms : Members) × (name_due s ≡ state fs (name ms))

-- an array may end in the state: its first item is expected, or an item has ended
abbrev pub EndsItems : State → Type 0
EndsItems s =
    ((fs : List Frame) × (s ≡ state fs first_item)) ⊎ ((ts : Items) × (fs : List Frame) × (t : Tree) × (s ≡ state (array_frame ts ∷ fs) (after t)))

-- the node may come next in the state s
abbrev pub Takes : State → Node → Type 0
Takes s Null = TakesValue s
Takes s (Bool x) = TakesValue s
Takes s (Number from to) = TakesValue s
Takes s (Text from to) = TakesValue s
Takes s (Name from to) = TakesName s
Takes s (list n) = TakesValue s
Takes s (Map n) = TakesValue s
Takes s End = TakesName s ⊎ EndsItems s

abbrev pub ArePlaced : List ℕ → State → List Node → Type 0
ArePlaced texts s [] = Unit {0}
ArePlaced texts s (x ∷ xs) = Takes s x × ArePlaced texts (apply texts x s) xs

-- the texts of the nodes are valid, and each node is allowed in the state before it
pub record IsTape (texts : List ℕ) (xs : List Node) : Type 0 where
  pub spans : AllByRecursion (HasSpan texts) xs
  pub placed : ArePlaced texts start xs
