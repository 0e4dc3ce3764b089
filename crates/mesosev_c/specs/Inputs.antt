-- The outcome of decoding a whole input.
use Rattle.std.specs.Prelude.{◌≡◌, ℕ, ◌⊎◌, ◌≤◌, List, length, take, Result, Ok, Err}
use Rattle.mes_msg.specs.Event.{Event}
use Rattle.mes_msg.specs.Events.{Spells}
use Rattle.mes_stream.specs.Framings.{EndsIn, InputEnds, StopsWithin}
use Rattle.mes_stream.specs.Lines.{count_text, fault_text}
use Rattle.mes_stream.specs.Refusals.{IsEventRefusal}
use Rattle.mes_stream.specs.Stream.{saturated}
use Rattle.mes_stream.specs.declared.fault.Stop.{Stop}
use Rattle.mes_stream.specs.declared.stream_reader.Framing.{Framing}
use Rattle.mesosev_c.specs.Numbers.{number_of_fault}
use Rattle.mesosev_c.specs.Rooms.{with_text}
use Rattle.mesosev_c.specs.declared.exports.Counts.{Counts}

-- the outcome if all bytes of the input w were used, and then the input ended
abbrev pub EndsAll : Framing → ℕ → List ℕ → List Event → ℕ → Result ℕ Stop → Type 0
EndsAll framing limit w events used (Ok n) = InputEnds {T = Unit {0}} framing Spells limit w events (Ok tt) × (n ≡ used)
EndsAll framing limit w events used (Err stop) = InputEnds {T = Unit {0}} framing Spells limit w events (Err stop.fault) × (stop.used ≡ used)

-- the stream ends, or its first error is detected, at the last used byte of w
abbrev pub StopsAmid : Framing → ℕ → List ℕ → List Event → Result ℕ Stop → Type 0
StopsAmid framing limit w events (Ok n) = (n ≤ length w) × EndsIn framing Spells limit (take n w) events
StopsAmid framing limit w events (Err stop) = StopsWithin framing Spells IsEventRefusal 0 limit w events stop.fault stop.used

-- the whole input w has these events and this outcome
abbrev pub IsInput : Framing → ℕ → List ℕ → List Event → Result ℕ Stop → Type 0
IsInput framing limit w events outcome = EndsAll framing limit w events (length w) outcome ⊎ StopsAmid framing limit w events outcome

-- the line that `mesosev check` prints for the input
abbrev pub line_of : ℕ → Result ℕ Stop → List ℕ
line_of events (Ok used) = count_text events used
line_of events (Err stop) = fault_text stop.fault stop.used

-- the status: 0, or the number of the error
abbrev pub status_of : Result ℕ Stop → ℕ
status_of (Ok used) = 0
status_of (Err stop) = number_of_fault stop.fault

-- the number of bytes of the input that were used
abbrev pub used_of : Result ℕ Stop → ℕ
used_of (Ok used) = used
used_of (Err stop) = stop.used

-- the report on the whole input w: its counts, its line in the caller's buffer, and its status
pub record ReportsInput (framing : Framing) (limit : ℕ) (w : List ℕ) (counts : Counts) (before room : List ℕ) (status : ℕ) : Type 0 where
  pub events : List Event
  pub outcome : Result ℕ Stop
  pub is : IsInput framing limit w events outcome
  pub count : counts.events ≡ saturated (length events)
  pub used : counts.used ≡ used_of outcome
  pub size : counts.line ≡ length (line_of counts.events outcome)
  pub line : room ≡ with_text before (line_of counts.events outcome)
  pub answer : status ≡ status_of outcome
