-- The number of the line with a byte, and the counter that finds it.
use Rattle.std.specs.Prelude.{◌≡◌, ◌==◌, ℕ, ◌+◌, ◌-◌, ◌^◌, ◌<◌, ◌≤◌, Bool, true, false, if◌then◌else◌, Option, None, Some, List, [], ◌∷◌, ◌++◌, length, take, codes, decimal}
use Rattle.mes_msg.specs.ShowLines.{spaced}
use Rattle.mes_stream.specs.LineRecord.{line_feeds_in}
use Rattle.mes_stream.specs.Lines.{fault_text}
use Rattle.mes_stream.specs.Stream.{saturated}
use Rattle.mes_stream.specs.declared.fault.Fault.{Fault}
use Rattle.mes_stream.specs.declared.fault.Fault.TheVariants.{Frame, EndsInsideChunks, EndsInsideRecord, Text, Field, NoMemory, Read, ReadsSpent, BadEntry}
use Rattle.mes_stream.specs.declared.fault.Stop.{Stop}
use Rattle.mes_stream.specs.declared.stream_reader.Framing.{Framing}
use Rattle.mes_stream.specs.declared.stream_reader.Framing.TheVariants.{Plain, Chunked, Lines}
use Rattle.mesosev_stream.specs.declared.line_number.LineCounter.{LineCounter}

-- the number, from 1, of the line of w with its byte `used`, counted from 1
abbrev pub line_number : ℕ → List ℕ → ℕ
line_number used w = line_feeds_in (take (used - 1) w) + 1

-- the number of the line of w with its byte `used`, if w is JSON Lines
abbrev pub line_in : Framing → ℕ → List ℕ → Option ℕ
line_in Plain used w = None
line_in Chunked used w = None
line_in Lines used w = Some (line_number used w)

-- the words for the number of a line, unless that is the number of the record too
abbrev pub line_words : ℕ → ℕ → List (List ℕ)
line_words record_number line = if record_number == line then [] else codes "line" ∷ decimal line ∷ []

-- the words for the number of the line, if there is one and the error is in a record
abbrev pub place_words : Option ℕ → Fault → List (List ℕ)
place_words None f = []
place_words (Some line) (Frame f) = []
place_words (Some line) EndsInsideChunks = []
place_words (Some line) EndsInsideRecord = []
place_words (Some line) (Text at_record byte why) = line_words at_record line
place_words (Some line) (Field at_record path why) = line_words at_record line
place_words (Some line) NoMemory = []
place_words (Some line) Read = []
place_words (Some line) ReadsSpent = []
place_words (Some line) (BadEntry at_record) = line_words at_record line

-- the line of an error, such as `fault F12 Field record 2 type LeftOut after 117 line 4`
abbrev pub stop_text : Option ℕ → Stop → List ℕ
stop_text line stop = fault_text stop.fault stop.used ++ spaced (place_words line stop.fault)

-- true for JSON Lines
abbrev pub is_lines : Framing → Bool
is_lines Plain = false
is_lines Chunked = false
is_lines Lines = true

-- the counter counts lines, and has not consumed any byte
pub record IsFreshCounter {C : Type 0} (d : LineCounter C) : Type 0 where
  pub counts : d.counts ≡ true
  pub line_feeds : d.line_feeds ≡ 0
  pub start : d.start ≡ 0
  pub last : d.last.items ≡ []

-- The counter counts lines, and has consumed w: `front`, whose line feeds it has counted, and then the
-- last piece.
pub record CountsLines {C : Type 0} (d : LineCounter C) (w : List ℕ) : Type 0 where
  pub front : List ℕ
  pub is : w ≡ front ++ d.last.items
  pub counts : d.counts ≡ true
  pub line_feeds : d.line_feeds ≡ saturated (line_feeds_in front)
  pub start : d.start ≡ saturated (length front)
  -- the last piece has a byte, unless no byte was consumed
  pub some : length front ≤ length w - 1

-- `line` is the number of the line with the byte `used`, if that byte is in the last piece. If no
-- byte was consumed and `used` is 0, it is 1.
abbrev pub FindsLine : {C : Type 0} → LineCounter C → ℕ → ℕ → Type 0
FindsLine d used line =
    (w : List ℕ) → CountsLines d w → length w < 2 ^ 64 → d.start ≤ used - 1 → used ≤ length w → line ≡ line_number used w

-- `FindsLine` for a line of JSON Lines; other framings have no lines
abbrev pub FindsLineOf : {C : Type 0} → Framing → LineCounter C → ℕ → Option ℕ → Type 0
FindsLineOf Plain d used line = line ≡ None
FindsLineOf Chunked d used line = line ≡ None
FindsLineOf Lines d used line = (number : ℕ) × (line ≡ Some number) × FindsLine d used number

-- `CountsLines` for a counter that has not consumed any byte; `Starts` holds for its inner consumer
abbrev pub CountsFrom : {C : Type 0} → (C → Type 0) → LineCounter C → LineCounter C → List ℕ → Type 0
CountsFrom Starts first d w = Starts first.inner → IsFreshCounter first → CountsLines d w

-- `CountsFrom` for a consumer that stopped in the piece after w
abbrev pub StopsCounting : {C : Type 0} → (C → Type 0) → LineCounter C → LineCounter C → List ℕ → List ℕ → Type 0
StopsCounting Starts first d w piece = Starts first.inner → IsFreshCounter first → CountsLines d (w ++ piece) × (d.last.items ≡ piece)
