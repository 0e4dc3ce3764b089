-- The result of reading a stream of events from a device.
use Rattle.std.specs.Prelude.{◌≡◌, ◌≢◌, ℕ, List, ◌++◌, Option, None, Some, Result, Ok, Err}
use Rattle.std.specs.Io.KnownBytes.{Consumes}
use Rattle.mes_frame.specs.declared.counts.Counts.{Counts}
use Rattle.mes_msg.specs.Event.{Event}
use Rattle.mes_msg.specs.Events.{Spells}
use Rattle.mes_stream.specs.Reading.{EndsReading}
use Rattle.mes_stream.specs.Refusals.{IsEventRefusal}
use Rattle.mes_stream.specs.declared.fault.Fault.TheVariants.{NoMemory, Read, ReadsSpent}
use Rattle.mes_stream.specs.declared.fault.Report.{Report}
use Rattle.mes_stream.specs.declared.fault.Stop.{Stop}
use Rattle.mes_stream.specs.declared.stream_reader.Framing.{Framing}
use Rattle.mes_stream.specs.declared.stream_reader.Framing.TheVariants.{Plain, Chunked, Lines}

-- reading a device with the bytes w, at most `reads` times, gave the events and the outcome
pub record AnswersIn (framing : Framing) (limit : ℕ) (w : List ℕ) (events : List Event) (outcome : Result Report Stop) : Type 0 where
  pub reads : ℕ
  pub old : Counts
  pub new : Counts
  pub left : Option (List ℕ)
  pub taken : List ℕ
  pub consumes : Consumes (Some w) left taken
  pub ends : EndsReading framing Spells IsEventRefusal limit reads old new left taken events outcome

-- `AnswersIn` for `read_stream`, for `read_plain`, and for JSON Lines
abbrev pub AnswersStream : ℕ → List ℕ → List Event → Result Report Stop → Type 0
AnswersStream limit w events outcome = AnswersIn Chunked limit w events outcome

abbrev pub AnswersPlain : ℕ → List ℕ → List Event → Result Report Stop → Type 0
AnswersPlain limit w events outcome = AnswersIn Plain limit w events outcome

abbrev pub AnswersLines : ℕ → List ℕ → List Event → Result Report Stop → Type 0
AnswersLines limit w events outcome = AnswersIn Lines limit w events outcome

-- the bytes decided the result: no read and no allocation failed, and the reads sufficed
abbrev pub IsDecidedByBytes : Result Report Stop → Type 0
IsDecidedByBytes (Ok report) = Unit {0}
IsDecidedByBytes (Err stop) = (stop.fault ≢ NoMemory) × (stop.fault ≢ Read) × (stop.fault ≢ ReadsSpent)

-- both outcomes are the end of the stream, or both are the same error
abbrev pub EndsAlike : Result Report Stop → Result Report Stop → Type 0
EndsAlike (Ok report) (Ok other) = Unit {0}
EndsAlike (Ok report) (Err stop) = ⊥
EndsAlike (Err stop) (Ok report) = ⊥
EndsAlike (Err stop) (Err other) = stop.fault ≡ other.fault

-- the bytes after the end of the stream: those in the report, then those left in the device
abbrev pub bytes_after : Report → Option (List ℕ) → List ℕ
bytes_after report None = report.rest.items
bytes_after report (Some left) = report.rest.items ++ left

-- Both streams ended after the same number of bytes, with the same bytes after the end; or both
-- stopped with the same error after the same number of bytes. `left` and `more` are the bytes left
-- in the devices.
abbrev pub IsSameOutcome : Option (List ℕ) → Option (List ℕ) → Result Report Stop → Result Report Stop → Type 0
IsSameOutcome left more (Ok report) (Ok other) = (report.used ≡ other.used) × (bytes_after report left ≡ bytes_after other more)
IsSameOutcome left more (Ok report) (Err stop) = ⊥
IsSameOutcome left more (Err stop) (Ok report) = ⊥
IsSameOutcome left more (Err stop) (Err other) = stop ≡ other
