-- The session to which a log in memory leads.
use Rattle.std.specs.Prelude.{◌≡◌, ℕ, ◌-◌, ◌^◌, List, length, Option, Some, Result, Ok, Err}
use Rattle.std.specs.Io.KnownBytes.{Consumes}
use Rattle.mes_frame.specs.declared.counts.Counts.{Counts}
use Rattle.mes_msg.specs.declared.entry.Entry.{Entry}
use Rattle.mes_session.specs.History.{IsLegal, Represents, StopsAt}
use Rattle.mes_session_log.specs.Logs.{EndsLog}
use Rattle.mes_stream.specs.declared.fault.Report.{Report}
use Rattle.mes_stream.specs.declared.fault.Stop.{Stop}
use Rattle.mesosev_session.specs.declared.text_stop.TextStop.{TextStop}
use Rattle.mesosev_session.specs.declared.text_stop.TextStop.TheVariants.{Fault, Refused}
use Rattle.mesosev_session.specs.declared.text_session.TextSession.{TextSession}

-- reading the bytes as a log gave the entries and the result; `left` was not read
pub record ReadsLogBytes (limit : ℕ) (bytes : List ℕ) (entries : List Entry) (outcome : Result Report Stop) : Type 0 where
  pub old : Counts
  pub new : Counts
  pub left : Option (List ℕ)
  pub taken : List ℕ
  pub consumes : Consumes (Some bytes) left taken
  pub ends : EndsLog limit (2 ^ 64 - 1) old new left taken entries outcome

-- the entries lead to the session; or one of them is refused
abbrev pub ReplaysTo : List Entry → Result TextSession TextStop → Type 0
ReplaysTo entries (Ok session) = IsLegal entries × Represents entries session.session × (session.entries ≡ length entries)
ReplaysTo entries (Err (Fault stop)) = ⊥
ReplaysTo entries (Err (Refused before refusal)) = StopsAt entries before refusal

-- the entries that were read were replayed, if the log ended; otherwise the fault is returned
abbrev pub ReplaysRead : List Entry → Result Report Stop → Result TextSession TextStop → Type 0
ReplaysRead entries (Ok report) result = ReplaysTo entries result
ReplaysRead entries (Err stop) result = result ≡ Err (Fault stop)

abbrev pub Replays : ℕ → List ℕ → Result TextSession TextStop → Type 0
Replays limit bytes result = (entries : List Entry) × (outcome : Result Report Stop) × ReadsLogBytes limit bytes entries outcome × ReplaysRead entries outcome result
