-- The state of `Machine` that a reader represents. Cited by private clauses only.
use Rattle.std.specs.Prelude.{◌≡◌, ◌≢◌, ℕ, ◌+◌, ◌-◌, ◌<◌, ◌≤◌, ◌⊎◌, Bool, true, false, List, [], ◌∷◌, ◌++◌, length, take, drop, Option, Some, None, option_and_then, Result, Ok, Err, slice_get}
use Rattle.mes_fixed.specs.Automaton.{nought, digit, letter_of, number_next}
use Rattle.mes_fixed.specs.declared.automaton.NumberState.{NumberState}
use Rattle.mes_json.specs.Tree.{Tree, Members}
use Rattle.mes_json.specs.Tree.Tree.{null, boolean}
use Rattle.mes_json.specs.Tree.Members.{no_members, member}
use Rattle.mes_json.specs.Machine as m
use Rattle.mes_json.specs.Machine.{Frame, Token, State, step, run, start}
use Rattle.mes_json.specs.Machine.Frame.{frame, array_frame}
use Rattle.mes_json.specs.Machine.Token.{literal, digits}
use Rattle.mes_json.specs.Machine.State.{state}
use Rattle.mes_json.specs.Refusal.{Refuses}
use Rattle.mes_json.specs.Tape.{spelled, spanned, value_due, name_due, valued, in_object, IsTape}
use Rattle.mes_json.specs.EscapeView.{escape_view}
use Rattle.mes_json.specs.declared.limits.TheConstants.{MAX_NESTING}
use Rattle.mes_json.specs.declared.fault.TextFaultKind.TheVariants.{Depth}
use Rattle.mes_json.specs.declared.byte_class.ByteClass as kind
use Rattle.mes_json.specs.declared.utf8.Utf8State as mid
use Rattle.mes_json.specs.declared.literal.LiteralState as word
use Rattle.mes_json.specs.declared.literal.LiteralStep as said
use Rattle.mes_json.specs.declared.nesting.Open.{Open}
use Rattle.mes_json.specs.declared.nesting.Open.TheVariants.{Object, Array}
use Rattle.mes_json.specs.declared.reader_state.Purpose as purpose
use Rattle.mes_json.specs.declared.reader_state.ReaderState as at
use Rattle.mes_json.specs.declared.push_error.PushError.{PushError}
use Rattle.mes_json.specs.declared.push_error.PushError.TheVariants.{Refused, NoMemory}
use Rattle.mes_json.specs.declared.reader.Reader.{Reader}
use Rattle.mes_json.specs.declared.tape.Node as node

-- the state of a literal as a token: the bytes of the literal that are left, and its value
abbrev pub word_view : word.LiteralState → Token
word_view word.TheVariants.N = literal 0x75 (0x6C ∷ 0x6C ∷ []) null
word_view word.TheVariants.Nu = literal 0x6C (0x6C ∷ []) null
word_view word.TheVariants.Nul = literal 0x6C [] null
word_view word.TheVariants.T = literal 0x72 (0x75 ∷ 0x65 ∷ []) (boolean true)
word_view word.TheVariants.Tr = literal 0x75 (0x65 ∷ []) (boolean true)
word_view word.TheVariants.Tru = literal 0x65 [] (boolean true)
word_view word.TheVariants.F = literal 0x61 (0x6C ∷ 0x73 ∷ 0x65 ∷ []) (boolean false)
word_view word.TheVariants.Fa = literal 0x6C (0x73 ∷ 0x65 ∷ []) (boolean false)
word_view word.TheVariants.Fal = literal 0x73 (0x65 ∷ []) (boolean false)
word_view word.TheVariants.Fals = literal 0x65 [] (boolean false)

abbrev pub said_view : said.LiteralStep → m.ReaderState
said_view (said.TheVariants.More w) = m.ReaderState.token (word_view w)
said_view said.TheVariants.Null = m.ReaderState.after null
said_view (said.TheVariants.Bool x) = m.ReaderState.after (boolean x)

-- the class in `Machine` of the byte c, whose class in the code is given
abbrev pub kind_view : ℕ → kind.ByteClass → m.ByteClass
kind_view c kind.TheVariants.Blank = m.ByteClass.blank
kind_view c kind.TheVariants.Quote = m.ByteClass.quote
kind_view c kind.TheVariants.Opening = m.ByteClass.opening
kind_view c kind.TheVariants.Closing = m.ByteClass.closing
kind_view c kind.TheVariants.OpeningArray = m.ByteClass.opening_array
kind_view c kind.TheVariants.ClosingArray = m.ByteClass.closing_array
kind_view c kind.TheVariants.Colon = m.ByteClass.colon
kind_view c kind.TheVariants.Comma = m.ByteClass.comma
kind_view c (kind.TheVariants.Literal w) = m.ByteClass.begins (word_view w)
kind_view c (kind.TheVariants.Digits part) = m.ByteClass.begins (digits part (c ∷ []))
kind_view c kind.TheVariants.Other = m.ByteClass.other

abbrev pub mid_view : mid.Utf8State → m.Utf8State
mid_view mid.TheVariants.Between = m.Utf8State.between
mid_view (mid.TheVariants.Within more least most) = m.Utf8State.within more least most
mid_view (mid.TheVariants.Escape e) = m.Utf8State.escape (escape_view e)

-- the tape's state s, changed by the comma or colon that the reader's state implies
abbrev pub due_at : at.ReaderState → State → State
due_at at.TheVariants.Value s = value_due s
due_at at.TheVariants.FirstItem s = s
due_at at.TheVariants.FirstName s = s
due_at at.TheVariants.Name s = name_due s
due_at at.TheVariants.Colon s = s
due_at at.TheVariants.After s = s
due_at (at.TheVariants.Quoted purpose.TheVariants.Name mid) s = name_due s
due_at (at.TheVariants.Quoted purpose.TheVariants.Value mid) s = value_due s
due_at (at.TheVariants.Literal w) s = value_due s
due_at (at.TheVariants.Digits part) s = value_due s

-- the state s, changed by the bytes b read so far of a string, a literal or a number
abbrev pub with_read : at.ReaderState → List ℕ → State → State
with_read at.TheVariants.Value b s = s
with_read at.TheVariants.FirstItem b s = s
with_read at.TheVariants.FirstName b s = s
with_read at.TheVariants.Name b s = s
with_read at.TheVariants.Colon b s = s
with_read at.TheVariants.After b s = s
with_read (at.TheVariants.Quoted purpose.TheVariants.Name mid) b s =
    in_object (λ ms. m.ReaderState.quoted (m.Purpose.for_name ms) (mid_view mid) b) s
with_read (at.TheVariants.Quoted purpose.TheVariants.Value mid) b s =
    valued (m.ReaderState.quoted m.Purpose.for_value (mid_view mid) b) s
with_read (at.TheVariants.Literal w) b s = valued (m.ReaderState.token (word_view w)) s
with_read (at.TheVariants.Digits part) b s = valued (m.ReaderState.token (digits part b)) s

-- the state of the state machine that the reader represents
abbrev pub state_view : Reader → State
state_view r = with_read r.at (drop r.start r.text.items) (due_at r.at (spelled r.text.items r.nodes.items))

-- there is a member before the next name, so a comma comes before that name
abbrev pub IsFull : Members → Type 0
IsFull no_members = ⊥
IsFull (member k t ms) = Unit {0}

-- the open objects and arrays of the frames, the innermost last
abbrev pub opens : List Frame → List Open
opens [] = []
opens (frame ms k ∷ fs) = opens fs ++ Object ∷ []
opens (array_frame ts ∷ fs) = opens fs ++ Array ∷ []

-- the innermost open object or array
abbrev pub innermost : List Open → Option Open
innermost xs = slice_get xs (length xs - 1)

-- all open objects and arrays but the innermost one
abbrev pub outer : List Open → List Open
outer xs = take (length xs - 1) xs

pub record AtValue (nesting : List Open) (s : State) : Type 0 where
  pub frames : List Frame
  pub is : s ≡ state frames m.ReaderState.value
  pub are_open : nesting ≡ opens frames

pub record AtFirstItem (nesting : List Open) (s : State) : Type 0 where
  pub frames : List Frame
  pub is : s ≡ state frames m.ReaderState.first_item
  pub are_open : nesting ≡ opens frames ++ Array ∷ []

pub record AtFirstName (nesting : List Open) (s : State) : Type 0 where
  pub frames : List Frame
  pub is : s ≡ state frames (m.ReaderState.name no_members)
  pub are_open : nesting ≡ opens frames ++ Object ∷ []

pub record AtName (Allowed : Members → Type 0) (nesting : List Open) (s : State) : Type 0 where
  pub frames : List Frame
  pub members : Members
  pub is : s ≡ state frames (m.ReaderState.name members)
  pub are_open : nesting ≡ opens frames ++ Object ∷ []
  pub allowed : Allowed members

pub record AtColon (nesting : List Open) (s : State) : Type 0 where
  pub frames : List Frame
  pub members : Members
  pub name : List ℕ
  pub is : s ≡ state frames (m.ReaderState.named members name)
  pub are_open : nesting ≡ opens frames ++ Object ∷ []

pub record AfterValue (nesting : List Open) (s : State) : Type 0 where
  pub frames : List Frame
  pub tree : Tree
  pub is : s ≡ state frames (m.ReaderState.after tree)
  pub are_open : nesting ≡ opens frames

-- the form of the state s of the state machine, for each state of the reader
abbrev pub IsAt : at.ReaderState → List Open → State → Type 0
IsAt at.TheVariants.Value nesting s = AtValue nesting s
IsAt at.TheVariants.FirstItem nesting s = AtFirstItem nesting s
IsAt at.TheVariants.FirstName nesting s = AtFirstName nesting s
IsAt at.TheVariants.Name nesting s = AtName IsFull nesting s
IsAt at.TheVariants.Colon nesting s = AtColon nesting s
IsAt at.TheVariants.After nesting s = AfterValue nesting s
IsAt (at.TheVariants.Quoted purpose.TheVariants.Name mid) nesting s = AtName (λ _. Unit {0}) nesting s
IsAt (at.TheVariants.Quoted purpose.TheVariants.Value mid) nesting s = AtValue nesting s
IsAt (at.TheVariants.Literal w) nesting s = AtValue nesting s
IsAt (at.TheVariants.Digits part) nesting s = AtValue nesting s

-- the offset of the string or number that is being read, otherwise the end of the buffer of texts
abbrev pub read_from : at.ReaderState → ℕ → ℕ → ℕ
read_from at.TheVariants.Value first end = end
read_from at.TheVariants.FirstItem first end = end
read_from at.TheVariants.FirstName first end = end
read_from at.TheVariants.Name first end = end
read_from at.TheVariants.Colon first end = end
read_from at.TheVariants.After first end = end
read_from (at.TheVariants.Quoted purpose mid) first end = first
read_from (at.TheVariants.Literal w) first end = end
read_from (at.TheVariants.Digits part) first end = first

-- the reader's fields are consistent; the nodes' spans cover all texts but the one being read
pub record Fits (r : Reader) : Type 0 where
  pub at : IsAt r.at r.nesting.items (due_at r.at (spelled r.text.items r.nodes.items))
  pub tape : IsTape r.text.items r.nodes.items
  pub start : r.start ≤ length r.text.items
  pub covered : read_from r.at r.start (length r.text.items) ≤ spanned r.nodes.items

-- some bytes lead from the start to the state that the reader represents
abbrev pub Reached : Reader → Type 0
Reached r = (p : List ℕ) × (run MAX_NESTING start p ≡ Some (state_view r))

-- some text goes on with the byte c after the state s
abbrev pub IsRead : State → ℕ → Type 0
IsRead s c = (next : State) × (step MAX_NESTING s c ≡ Some next)

-- the meaning of an error for the byte c, which was not read in the state s
abbrev pub Stops : PushError → State → ℕ → Type 0
Stops (Refused why) s c = Refuses MAX_NESTING why s c
Stops NoMemory s c = IsRead s c

-- the text may end in the state s
abbrev pub IsWhole : State → Type 0
IsWhole s = (t : Tree) × (m.finish s ≡ Some t)

-- on success, the byte c leads from the state s to `next`; on error, `Stops` holds
abbrev pub Gives : {A : Type 0} → Result A PushError → State → ℕ → State → Type 0
Gives (Ok _) s c next = step MAX_NESTING s c ≡ Some next
Gives (Err stop) s c next = Stops stop s c

-- if the bytes of b before `from` lead to the reader `old`, those before `to` lead to `new`
pub record RunsTo (old : Reader) (b : List ℕ) (from to : ℕ) (new : Reader) : Type 0 where
  pub forward : from ≤ to
  pub inside : to ≤ length b
  pub fits : Fits new
  pub runs : (s : State) → run MAX_NESTING s (take from b) ≡ Some (state_view old) → run MAX_NESTING s (take to b) ≡ Some (state_view new)
  pub reached : Reached old → Reached new

-- c is a character of one byte that stands in a string without an escape
abbrev pub IsPlain : ℕ → Type 0
IsPlain c = (32 ≤ c) × (c < 128) × (c ≢ 34) × (c ≢ 92)

-- after a whole character of a string, the bytes q are added unchanged and lead to the state `to`
pub record LeadsTo (q : List ℕ) (to : m.Utf8State) : Type 0 where
  pub runs : (fs : List Frame) (p : m.Purpose) (b : List ℕ) → run MAX_NESTING (state fs (m.ReaderState.quoted p m.Utf8State.between b)) q ≡ Some (state fs (m.ReaderState.quoted p to (b ++ q)))

-- q is whole characters that stand in a string without an escape
abbrev pub StandAlone : List ℕ → Type 0
StandAlone q = LeadsTo q m.Utf8State.between

-- c is a DIGIT
abbrev pub IsDigit : ℕ → Type 0
IsDigit c = (48 ≤ c) × (c ≤ 57)

-- the state of a number after the bytes, or None if one of them does not continue the number
abbrev pub part_after : NumberState → List ℕ → Option NumberState
part_after x [] = Some x
part_after x (c ∷ q) = option_and_then (λ next. part_after next q) (number_next x (letter_of c))

-- c is a byte of ws (white space)
abbrev pub IsBlank : ℕ → Type 0
IsBlank c = (c ≡ 0x20) ⊎ ((c ≡ 0x09) ⊎ ((c ≡ 0x0A) ⊎ (c ≡ 0x0D)))

-- a DIGIT leaves a number in the state x
abbrev pub KeepsOn : NumberState → Type 0
KeepsOn x = (number_next x nought ≡ Some x) × (number_next x digit ≡ Some x)

-- `new` is `old` with one more node x, the state `place`, and the given open objects and arrays
pub record Puts (old : Reader) (nesting : List Open) (x : node.Node) (place : at.ReaderState) (new : Reader) : Type 0 where
  pub at : new.at ≡ place
  pub nodes : new.nodes.items ≡ old.nodes.items ++ x ∷ []
  pub text : new.text.items ≡ old.text.items
  pub nesting_is : new.nesting.items ≡ nesting
  pub start : new.start ≡ old.start

-- the reader r after a value that consists of the node x
abbrev pub with_value : node.Node → Reader → Reader
with_value x r = record r { at = at.TheVariants.After; nodes = record { items = r.nodes.items ++ x ∷ []; room = r.nodes.room } }

-- the reader r in a string that it has begun, after the bytes q of the string
abbrev pub within_string : purpose.Purpose → List ℕ → Reader → Reader
within_string p q r = record r {
  at = at.TheVariants.Quoted p mid.TheVariants.Between;
  start = length r.text.items;
  text = record { items = r.text.items ++ q; room = r.text.room };
}

-- the reader has capacity for 16 more bytes of text and one more node
pub record HasRoom (r : Reader) : Type 0 where
  pub texts : length r.text.items + 16 ≤ r.text.room
  pub nodes : length r.nodes.items < r.nodes.room

-- `new` is `old`, except for the capacity
pub record Stays (old new : Reader) : Type 0 where
  pub at : new.at ≡ old.at
  pub text : new.text.items ≡ old.text.items
  pub nodes : new.nodes.items ≡ old.nodes.items
  pub nesting : new.nesting.items ≡ old.nesting.items
  pub start : new.start ≡ old.start

-- `new` is `old` with the bytes b added to the string or number, and the state `place`
pub record Keeps (old : Reader) (b : List ℕ) (place : at.ReaderState) (new : Reader) : Type 0 where
  pub at : new.at ≡ place
  pub text : new.text.items ≡ old.text.items ++ b
  pub nodes : new.nodes.items ≡ old.nodes.items
  pub nesting : new.nesting.items ≡ old.nesting.items
  pub start : new.start ≡ old.start

-- `new` is `old` with a string or number begun by the bytes b, and the state `place`
pub record Begins (old : Reader) (b : List ℕ) (place : at.ReaderState) (new : Reader) : Type 0 where
  pub at : new.at ≡ place
  pub text : new.text.items ≡ old.text.items ++ b
  pub nodes : new.nodes.items ≡ old.nodes.items
  pub nesting : new.nesting.items ≡ old.nesting.items
  pub start : new.start ≡ length old.text.items

-- the meaning of an error for an object or array that was not opened
abbrev pub NotEntered : PushError → List Open → Type 0
NotEntered (Refused why) nesting = (why ≡ Depth) × (length nesting ≡ MAX_NESTING)
NotEntered NoMemory nesting = length nesting < MAX_NESTING

-- on success, an object or array is opened; on error, `NotEntered` holds
abbrev pub Enters : {A : Type 0} → Result A PushError → Reader → Open → node.Node → at.ReaderState → Reader → Type 0
Enters (Ok _) old open_one x place new = (length old.nesting.items < MAX_NESTING) × Puts old (old.nesting.items ++ open_one ∷ []) x place new
Enters (Err stop) old open_one x place new = NotEntered stop old.nesting.items

-- true: there is a tree, and the tape has exactly this tree; false: the bytes are no whole text
abbrev pub EndsWhole : Bool → Option Tree → Reader → Type 0
EndsWhole true found r =
    (t : Tree) × (found ≡ Some t) × (spelled r.text.items r.nodes.items ≡ state [] (m.ReaderState.after t)) × IsTape r.text.items r.nodes.items
EndsWhole false found r = found ≡ None

-- the node of the name or string that is being read
abbrev pub string_node : purpose.Purpose → Reader → node.Node
string_node purpose.TheVariants.Name r = node.TheVariants.Name r.start (length r.text.items)
string_node purpose.TheVariants.Value r = node.TheVariants.Text r.start (length r.text.items)

abbrev pub following_string : purpose.Purpose → at.ReaderState
following_string purpose.TheVariants.Name = at.TheVariants.Colon
following_string purpose.TheVariants.Value = at.TheVariants.After
