-- The last events that were sent, and the last calls that were answered.
use Rattle.std.specs.Prelude.{◌≡◌, ℕ, ◌-◌, List, [], ◌∷◌, ◌++◌, length, drop}
use Rattle.mes_msg.specs.Call.{Call}
use Rattle.mes_msg.specs.Event.{Event}
use Rattle.mes_double_master.specs.Names.{call_name, event_name}
use Rattle.mes_double_live.specs.declared.run_log.LogEntry.{LogEntry}
use Rattle.mes_double_live.specs.declared.run_log.LogEntry.TheVariants.{Sent, Answered}
use Rattle.mes_double_live.specs.declared.run_log.TheConstants.{MAX_LOG}

-- an event was sent
abbrev pub event_sent : Event → LogEntry
event_sent event = Sent (event_name event)

-- a call was answered with this status
abbrev pub call_answered : Call → ℕ → LogEntry
call_answered call status = Answered (call_name call) status

-- the log after one more entry: at most the last `MAX_LOG` entries, oldest first
abbrev pub logged : LogEntry → List LogEntry → List LogEntry
logged entry log = drop (length log - (MAX_LOG - 1)) log ++ entry ∷ []

-- the entry is the last one of the log
abbrev pub IsLogged : LogEntry → List LogEntry → Type 0
IsLogged entry log = (before : List LogEntry) × (log ≡ logged entry before)
