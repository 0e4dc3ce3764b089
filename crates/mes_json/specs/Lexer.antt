-- The bytes that a lexer represents, and the lexer's results.
use Rattle.std.specs.Prelude.{◌≡◌, ℕ, ◌-◌, ◌^◌, ◌≤◌, List, length, min, Some, Result, Ok, Err}
use Rattle.mes_json.specs.Machine.{start, run}
use Rattle.mes_json.specs.Place.{IsFault}
use Rattle.mes_json.specs.Reader.{Fits, state_view}
use Rattle.mes_json.specs.Read.{Stuck}
use Rattle.mes_json.specs.Inner.{inner}
use Rattle.mes_json.specs.declared.limits.TheConstants.{MAX_NESTING}
use Rattle.mes_json.specs.declared.fault.TextFault.{TextFault}
use Rattle.mes_json.specs.declared.fault.ReadFault as fault
use Rattle.mes_json.specs.declared.reader.Reader.{Reader}
use Rattle.mes_json.specs.declared.lexer.LexerState.{LexerState}
use Rattle.mes_json.specs.declared.lexer.LexerState.TheVariants.{Reading, Faulty, OutOfMemory}
use Rattle.mes_json.specs.declared.lexer.Lexer.{Lexer}

-- a number of bytes, capped at 2^64 - 1
abbrev pub counted : ℕ → ℕ
counted n = min n (2 ^ 64 - 1)

-- f is the fault `exact`, with the offset capped at 2^64 - 1
pub record Rounds (exact f : TextFault) : Type 0 where
  pub byte : f.byte ≡ counted exact.byte
  pub why : f.why ≡ exact.why

-- f is the first fault of the bytes b, with the offset capped at 2^64 - 1
pub record IsCountedFault (d : ℕ) (b : List ℕ) (f : TextFault) : Type 0 where
  pub exact : TextFault
  pub is_fault : IsFault d b exact
  pub rounds : Rounds exact f

-- the meaning of an error that is returned for the bytes b
abbrev pub IsLexFault : ℕ → List ℕ → fault.ReadFault → Type 0
IsLexFault d b (fault.TheVariants.Text f) = IsCountedFault d b f
IsLexFault d b fault.TheVariants.NoMemory = Unit {0}

-- the reader r has read the bytes p; n is their number, capped
pub record IsReading (n : ℕ) (r : Reader) (p : List ℕ) : Type 0 where
  pub count : n ≡ counted (length p)
  pub fits : Fits r
  pub reached : run MAX_NESTING start p ≡ Some (state_view r)

-- the state machine refuses the byte of p at the offset of the fault f
pub record IsFaulty (f : TextFault) (p : List ℕ) : Type 0 where
  pub exact : TextFault
  pub stuck : Stuck start p exact
  pub rounds : Rounds exact f

-- a lexer with the given count and state has received the bytes p
abbrev pub Represents : ℕ → LexerState → List ℕ → Type 0
Represents n (Reading r) p = IsReading n r p
Represents n (Faulty f) p = IsFaulty f p
Represents n OutOfMemory p = Unit {0}

-- p is all bytes pushed to the lexer, in runs of any lengths
unfoldable pub HasLexed : Lexer → List ℕ → Type 0
HasLexed l p = Represents l.0 l.1 p

-- some pushed bytes lead to the given count and state of a lexer
abbrev pub IsPossible : ℕ × LexerState → Type 0
IsPossible l = (p : List ℕ) × Represents l.0 l.1 p

abbrev pub HasNoMemory : LexerState → Type 0
HasNoMemory (Reading r) = ⊥
HasNoMemory (Faulty f) = ⊥
HasNoMemory OutOfMemory = Unit {0}

-- an allocation failed in a push to the lexer
unfoldable pub IsOutOfMemory : Lexer → Type 0
IsOutOfMemory l = HasNoMemory l.1

-- the result of a push is an error if and only if an allocation fails now or failed before
abbrev pub Reports : {A E : Type 0} → Result A E → Lexer → Type 0
Reports (Ok _) l = IsOutOfMemory l → ⊥
Reports (Err _) l = IsOutOfMemory l

-- the number of buffered bytes of strings and numbers
abbrev pub text_of : LexerState → ℕ
text_of (Reading r) = length r.text.items
text_of (Faulty f) = 0
text_of OutOfMemory = 0

abbrev pub nodes_of : LexerState → ℕ
nodes_of (Reading r) = length r.nodes.items
nodes_of (Faulty f) = 0
nodes_of OutOfMemory = 0

-- the number of buffered bytes of strings and numbers: the length of their buffer
unfoldable pub held : Lexer → ℕ
held l = text_of l.1

unfoldable pub nodes_held : Lexer → ℕ
nodes_held l = nodes_of l.1

-- the lexer buffers at most the bytes of p inside strings and numbers, and at most one node a byte
pub record IsBounded (l : Lexer) (p : List ℕ) : Type 0 where
  pub texts : held l ≤ inner p
  pub nodes : nodes_held l ≤ length p

pub record HoldsNothing (l : Lexer) : Type 0 where
  pub texts : held l ≡ 0
  pub nodes : nodes_held l ≡ 0
