-- The state machine that reads JSON one byte at a time. Cited by private clauses only: the state
-- machine is proved to accept exactly the grammar.
use Rattle.std.specs.Prelude.{ℕ, zero, suc, ◌&&◌, ◌||◌, Bool, true, false, List, [], ◌∷◌, ◌++◌, length, Option, Some, None, option_and_then, if◌then◌else◌, ◌==◌, nat_lt, nat_le, encode_utf8}
use Rattle.mes_fixed.specs.Automaton.{letter_of, number_next, is_final}
use Rattle.mes_fixed.specs.declared.automaton.NumberState.{NumberState}
use Rattle.mes_fixed.specs.declared.automaton.NumberState.TheVariants.{AtStart}
use Rattle.mes_json.specs.Tree.{Tree, Items, Members}
use Rattle.mes_json.specs.Tree.Tree.{null, boolean, number, string, array, object}
use Rattle.mes_json.specs.Tree.Items.{no_items, item}
use Rattle.mes_json.specs.Tree.Members.{no_members, member}
use Rattle.mes_json.specs.Escape.{Escape, Move, escape_step}
use Rattle.mes_json.specs.Escape.Escape.{backslash}
use Rattle.mes_json.specs.Escape.Move.{on, makes, refused}

-- in a literal: the next byte, the bytes after it, and the literal's value; in a number: its state
-- and bytes so far
pub data Token : Type 0 where
  literal : ℕ → List ℕ → Tree → Token
  digits : NumberState → List ℕ → Token

-- the class of a byte outside strings
pub data ByteClass : Type 0 where
  blank quote opening closing opening_array closing_array colon comma other : ByteClass
  begins : Token → ByteClass

-- the class of the byte c; the second argument is the state of a number after c, if c begins one
abbrev pub kind_unless : ℕ → Option NumberState → ByteClass
kind_unless c (Some part) = begins (digits part (c ∷ []))
kind_unless c None =
    if c == 34 then quote
    else if c == 32 || c == 9 || c == 10 || c == 13 then blank
    else if c == 123 then opening
    else if c == 125 then closing
    else if c == 91 then opening_array
    else if c == 93 then closing_array
    else if c == 58 then colon
    else if c == 44 then comma
    else if c == 0x6E then begins (literal 0x75 (0x6C ∷ 0x6C ∷ []) null)
    else if c == 0x74 then begins (literal 0x72 (0x75 ∷ 0x65 ∷ []) (boolean true))
    else if c == 0x66 then begins (literal 0x61 (0x6C ∷ 0x73 ∷ 0x65 ∷ []) (boolean false))
    else other

abbrev pub kind_of : ℕ → ByteClass
kind_of c = kind_unless c (number_next AtStart (letter_of c))

-- in a string: between characters, in a character (RFC 3629 section 4), or in an escape
pub data Utf8State : Type 0 where
  between : Utf8State
  within : ℕ → ℕ → ℕ → Utf8State
  escape : Escape → Utf8State

-- an open object, with its members so far and the name of the member in progress; or an open array
pub data Frame : Type 0 where
  frame : Members → List ℕ → Frame
  array_frame : Items → Frame

-- a string is a name that follows the given members, or a value
pub data Purpose : Type 0 where
  for_name : Members → Purpose
  for_value : Purpose

-- the part of a text that is expected next
pub data ReaderState : Type 0 where
  value : ReaderState
  first_item : ReaderState
  name : Members → ReaderState
  quoted : Purpose → Utf8State → List ℕ → ReaderState
  named : Members → List ℕ → ReaderState
  token : Token → ReaderState
  after : Tree → ReaderState

-- the open objects and arrays, the innermost first, and the part that is expected next
pub data State : Type 0 where
  state : List Frame → ReaderState → State

abbrev pub with_item : Items → Tree → Items
with_item no_items t = item t no_items
with_item (item u ts) t = item u (with_item ts t)

abbrev pub with_member : Members → List ℕ → Tree → Members
with_member no_members k t = member k t no_members
with_member (member j u ms) k t = member j u (with_member ms k t)

abbrev pub start : State
start = state [] value

-- the state after the first byte of a character (RFC 3629 section 4), if c is such a byte
abbrev pub lead : ℕ → Option Utf8State
lead c =
    if nat_lt c 0x80 then Some between
    else if nat_lt c 0xC2 then None
    else if nat_lt c 0xE0 then Some (within 1 0x80 0xBF)
    else if c == 0xE0 then Some (within 2 0xA0 0xBF)
    else if c == 0xED then Some (within 2 0x80 0x9F)
    else if nat_lt c 0xF0 then Some (within 2 0x80 0xBF)
    else if c == 0xF0 then Some (within 3 0x90 0xBF)
    else if nat_lt c 0xF4 then Some (within 3 0x80 0xBF)
    else if c == 0xF4 then Some (within 3 0x80 0x8F)
    else None

-- the state after a further byte of a character, if n bytes were expected before that byte
abbrev pub after_byte : ℕ → Utf8State
after_byte zero = between
after_byte (suc zero) = between
after_byte (suc (suc n)) = within (suc n) 0x80 0xBF

abbrev pub on_value : ℕ → List Frame → ByteClass → Option State
on_value d fs blank = Some (state fs value)
on_value d fs quote = Some (state fs (quoted for_value between []))
on_value d fs opening = if nat_lt (length fs) d then Some (state fs (name no_members)) else None
on_value d fs closing = None
on_value d fs opening_array = if nat_lt (length fs) d then Some (state fs first_item) else None
on_value d fs closing_array = None
on_value d fs colon = None
on_value d fs comma = None
on_value d fs other = None
on_value d fs (begins x) = Some (state fs (token x))

-- the step at the first item or the end of an array; an item pushes the array onto the stack
abbrev pub on_first_item : ℕ → List Frame → ByteClass → Option State
on_first_item d fs blank = Some (state fs first_item)
on_first_item d fs quote = on_value d (array_frame no_items ∷ fs) quote
on_first_item d fs opening = on_value d (array_frame no_items ∷ fs) opening
on_first_item d fs closing = None
on_first_item d fs opening_array = on_value d (array_frame no_items ∷ fs) opening_array
on_first_item d fs closing_array = Some (state fs (after (array no_items)))
on_first_item d fs colon = None
on_first_item d fs comma = None
on_first_item d fs other = None
on_first_item d fs (begins x) = on_value d (array_frame no_items ∷ fs) (begins x)

-- the step at end-object in place of a name: allowed only before the first member
abbrev pub close_empty : List Frame → Members → Option State
close_empty fs no_members = Some (state fs (after (object no_members)))
close_empty fs (member k t ms) = None

abbrev pub on_name : List Frame → Members → ByteClass → Option State
on_name fs ms blank = Some (state fs (name ms))
on_name fs ms quote = Some (state fs (quoted (for_name ms) between []))
on_name fs ms opening = None
on_name fs ms closing = close_empty fs ms
on_name fs ms opening_array = None
on_name fs ms closing_array = None
on_name fs ms colon = None
on_name fs ms comma = None
on_name fs ms other = None
on_name fs ms (begins x) = None

-- the step after the name of a member; the colon pushes the object onto the stack
abbrev pub on_named : List Frame → Members → List ℕ → ByteClass → Option State
on_named fs ms k blank = Some (state fs (named ms k))
on_named fs ms k quote = None
on_named fs ms k opening = None
on_named fs ms k closing = None
on_named fs ms k opening_array = None
on_named fs ms k closing_array = None
on_named fs ms k colon = Some (state (frame ms k ∷ fs) value)
on_named fs ms k comma = None
on_named fs ms k other = None
on_named fs ms k (begins x) = None

-- the step at end-object: t is the value of the last member
abbrev pub close_object : List Frame → Tree → Option State
close_object [] t = None
close_object (frame ms k ∷ fs) t = Some (state fs (after (object (with_member ms k t))))
close_object (array_frame ts ∷ fs) t = None

-- the step at end-array: t is the last item
abbrev pub close_array : List Frame → Tree → Option State
close_array [] t = None
close_array (frame ms k ∷ fs) t = None
close_array (array_frame ts ∷ fs) t = Some (state fs (after (array (with_item ts t))))

-- the step at value-separator: t is a member's value or an item, and another one follows
abbrev pub next_of : List Frame → Tree → Option State
next_of [] t = None
next_of (frame ms k ∷ fs) t = Some (state fs (name (with_member ms k t)))
next_of (array_frame ts ∷ fs) t = Some (state (array_frame (with_item ts t) ∷ fs) value)

abbrev pub on_after : List Frame → Tree → ByteClass → Option State
on_after fs t blank = Some (state fs (after t))
on_after fs t quote = None
on_after fs t opening = None
on_after fs t closing = close_object fs t
on_after fs t opening_array = None
on_after fs t closing_array = close_array fs t
on_after fs t colon = None
on_after fs t comma = next_of fs t
on_after fs t other = None
on_after fs t (begins x) = None

-- the state after a byte of a literal, by the bytes of the literal that are left
abbrev pub due : List ℕ → Tree → ReaderState
due [] t = after t
due (e ∷ rest) t = token (literal e rest t)

-- the step in a number: c continues the number, or is the byte after a whole number
abbrev pub on_digits : List Frame → NumberState → List ℕ → ℕ → Option NumberState → Option State
on_digits fs part n c (Some next) = Some (state fs (token (digits next (n ++ c ∷ []))))
on_digits fs part n c None = if is_final part then on_after fs (number n) (kind_of c) else None

abbrev pub on_token : List Frame → Token → ℕ → Option State
on_token fs (literal e rest t) c = if c == e then Some (state fs (due rest t)) else None
on_token fs (digits part n) c = on_digits fs part n c (number_next part (letter_of c))

-- the state after the closing quotation mark of a string
abbrev pub end_string : List Frame → Purpose → List ℕ → State
end_string fs (for_name ms) s = state fs (named ms s)
end_string fs for_value s = state fs (after (string s))

-- the step in a string at a byte of a character, by the state after that byte
abbrev pub in_string : List Frame → Purpose → List ℕ → ℕ → Option Utf8State → Option State
in_string fs p s c None = None
in_string fs p s c (Some m) = Some (state fs (quoted p m (s ++ c ∷ [])))

-- the step in a string at a byte of an escape, by the effect of that byte
abbrev pub in_escape : List Frame → Purpose → List ℕ → Move → Option State
in_escape fs p s (on e) = Some (state fs (quoted p (escape e) s))
in_escape fs p s (makes c) = Some (state fs (quoted p between (s ++ encode_utf8 c)))
in_escape fs p s refused = None

abbrev pub on_quoted : List Frame → Purpose → Utf8State → List ℕ → ℕ → Option State
on_quoted fs p between s c =
    if c == 34 then Some (end_string fs p s)
    else if c == 92 then Some (state fs (quoted p (escape backslash) s))
    else if nat_lt c 32 then None
    else in_string fs p s c (lead c)
on_quoted fs p (within n least most) s c =
    if nat_le least c && nat_le c most then Some (state fs (quoted p (after_byte n) (s ++ c ∷ []))) else None
on_quoted fs p (escape e) s c = in_escape fs p s (escape_step e c)

-- the state after the byte c, or None if c is refused; d is the nesting limit
abbrev pub step : ℕ → State → ℕ → Option State
step d (state fs value) c = on_value d fs (kind_of c)
step d (state fs first_item) c = on_first_item d fs (kind_of c)
step d (state fs (name ms)) c = on_name fs ms (kind_of c)
step d (state fs (quoted p m s)) c = on_quoted fs p m s c
step d (state fs (named ms k)) c = on_named fs ms k (kind_of c)
step d (state fs (token x)) c = on_token fs x c
step d (state fs (after t)) c = on_after fs t (kind_of c)

unfoldable pub run : ℕ → State → List ℕ → Option State
run d s [] = Some s
run d s (c ∷ q) = option_and_then (λ next. run d next q) (step d s c)

-- the tree of the number n, if the flag says that the number may end
abbrev pub finish_number : Bool → List ℕ → Option Tree
finish_number true n = Some (number n)
finish_number false n = None

-- the tree of the text, if the text may end in the state
abbrev pub finish : State → Option Tree
finish (state [] (after t)) = Some t
finish (state [] (token (digits part n))) = finish_number (is_final part) n
finish (state [] value) = None
finish (state [] first_item) = None
finish (state [] (name ms)) = None
finish (state [] (quoted p m s)) = None
finish (state [] (named ms k)) = None
finish (state [] (token (literal e rest t))) = None
finish (state (f ∷ fs) a) = None

-- the tree of the text, if the bytes q complete the text from the state s on
abbrev pub ends : ℕ → State → List ℕ → Option Tree
ends d s q = option_and_then finish (run d s q)
