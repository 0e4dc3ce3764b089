-- The state of a live test master, and its responses.
use Rattle.std.specs.Prelude.{◌≡◌, ℕ, ◌+◌, ◌-◌, ◌^◌, ◌==◌, Bool, true, false, List, [], ◌∷◌, ◌++◌, length, map, max, min, Option, None, Some, if◌then◌else◌}
use Rattle.mes_frame.specs.Frames.{record_bytes}
use Rattle.mes_model.specs.Offer.{Offer}
use Rattle.mes_model.specs.OwedKey.{OwedKey}
use Rattle.mes_model.specs.TaskStatus.{TaskStatus}
use Rattle.mes_model.specs.Owed.{owed_key_of}
use Rattle.mes_msg.specs.Call.{Call}
use Rattle.mes_msg.specs.Canon.{canonical_text}
use Rattle.mes_msg.specs.Event.{Event}
use Rattle.mes_double_cluster.specs.Clusters.{ClusterState, empty as empty_cluster, with_offers}
use Rattle.mes_double_cluster.specs.Stock.{stocked, returned}
use Rattle.mes_double_cluster.specs.Times.{saturated_sum}
use Rattle.mes_double_cluster.specs.declared.sent_updates.SentUpdate.{SentUpdate}
use Rattle.mes_double_faults.specs.Plans.{call_fault}
use Rattle.mes_double_faults.specs.declared.fault.Fault.{Fault}
use Rattle.mes_double_faults.specs.declared.fault.Fault.TheVariants as planned
use Rattle.mes_double_faults.specs.declared.fault.CallFault.{CallFault}
use Rattle.mes_double_faults.specs.declared.fault.CallFault.TheVariants.{Busy, Unanswered, Slow, Gone, Reset}
use Rattle.mes_double_master.specs.Masters.{MasterState, handled, stream_broke}
use Rattle.mes_double_live.specs.Bodies.{BodyState, cleared, flows, Sends}
use Rattle.mes_double_live.specs.Logs.{event_sent, logged}
use Rattle.mes_double_live.specs.declared.run_log.LogEntry.{LogEntry}

pub record LiveState : Type 0 where
  pub master : MasterState
  pub cluster : ClusterState
  -- when each unacknowledged update was sent last, in the order of their first sending
  pub sent : List SentUpdate
  -- the body of the current stream, and the planned faults
  pub out : BodyState
  -- the events from outside that are not sent yet, oldest first
  pub waiting : List Event
  -- the number of calls that are to be answered with 503, as standard input demands
  pub busy : ℕ
  -- the number of calls of the run
  pub calls : ℕ
  -- the latest time that was passed, in milliseconds
  pub time : ℕ
  -- the number of planned faults that happened and were taken
  pub taken : ℕ
  -- the last events sent and calls answered, oldest first
  pub log : List LogEntry

-- a new live test master, whose tasks finish after running for `finish_after`
abbrev pub new_live : MasterState → Option ℕ → BodyState → LiveState
new_live master finish_after out =
    record { master = master; cluster = empty_cluster finish_after; sent = []; out = out; waiting = []; busy = 0; calls = 0; time = 0; taken = 0; log = [] }

-- after the current stream was disconnected
abbrev pub broke : LiveState → LiveState
broke live = record live { master = stream_broke live.master; cluster = with_offers (returned live.time) live.cluster; out = cleared live.out }

-- after the time `now` was passed; a time before the latest one counts as that one
abbrev pub at_time : ℕ → LiveState → LiveState
at_time now live = record live { time = max live.time now }

-- after offers joined the stock
abbrev pub with_stock : List Offer → LiveState → LiveState
with_stock offers live = record live { cluster = record live.cluster { stock = live.cluster.stock ++ map stocked offers } }

-- ---- events that wait

-- before the event was taken from the front of those that wait, if it was
abbrev pub with_first : Event → LiveState → LiveState
with_first event live = record live { waiting = event ∷ live.waiting }

abbrev pub with_taken : Option Event → LiveState → LiveState
with_taken None live = live
with_taken (Some event) live = with_first event live

-- after the event joined those that wait
abbrev pub with_last : Event → LiveState → LiveState
with_last event live = record live { waiting = live.waiting ++ event ∷ [] }

-- one more call is to be answered with 503
abbrev pub one_more_busy : LiveState → LiveState
one_more_busy live = record live { busy = saturated_sum live.busy 1 }

-- ---- planned faults

-- the number of planned faults that happened in the run; it stops at 2^64 - 1
abbrev pub faults : LiveState → ℕ
faults live = saturated_sum live.taken (length live.out.happened)

-- after the planned faults that happened were taken
abbrev pub faults_taken : LiveState → LiveState
faults_taken live = record live { taken = faults live; out = record live.out { happened = [] } }

-- ---- events

-- the record of an event
abbrev pub record_of : Event → List ℕ
record_of event = record_bytes (canonical_text event)

-- Relates a state to that after an event was sent. Its record was appended to the body, and its type
-- to the log; or it is lost, because the stream is muted or broken.
pub record Pushes (event : Event) (old new : LiveState) : Type 0 where
  pub body : Sends old.time old.out (record_of event) new.out
  pub rest : new ≡ record old { out = new.out; log = if flows old.out.delivery then logged (event_sent event) old.log else old.log }

abbrev pub sent_by : Option OwedKey → ℕ → List SentUpdate → List SentUpdate
sent_by None now sent = sent
sent_by (Some key) now sent = sent ++ record { key = key; at = now } ∷ []

-- after an update was sent for the first time, if it requires an acknowledgement
abbrev pub update_sent : TaskStatus → LiveState → LiveState
update_sent status live = record live { sent = sent_by (owed_key_of status) live.time live.sent }

-- ---- calls

-- the number of the next call; it stops at 2^32 - 1
abbrev pub next_call : LiveState → ℕ
next_call live = min (live.calls + 1) (2 ^ 32 - 1)

-- the planned fault of the next call
abbrev pub planned_fault : LiveState → Option CallFault
planned_fault live = call_fault live.out.plan (next_call live)

-- the fault of the next call: 503, if standard input demands it; or else the planned one
abbrev pub reply_fault : LiveState → Option CallFault
reply_fault live = if live.busy == 0 then planned_fault live else Some Busy

abbrev pub noted_by : Option CallFault → ℕ → List Fault → List Fault
noted_by None number happened = happened
noted_by (Some fault) number happened = happened ++ planned.Call number fault ∷ []

-- the planned fault is noted
abbrev pub noted : LiveState → BodyState
noted live = record live.out { happened = noted_by (planned_fault live) (next_call live) live.out.happened }

-- once the next call was counted
abbrev pub call_counted : LiveState → LiveState
call_counted live = record live {
  calls = next_call live;
  busy = live.busy - 1;
  out = if live.busy == 0 then noted live else live.out;
}

abbrev pub status_by : Option CallFault → ℕ → ℕ
status_by None status = status
status_by (Some Busy) status = 503
status_by (Some Unanswered) status = status
status_by (Some (Slow seconds)) status = status
status_by (Some Gone) status = 403
status_by (Some Reset) status = 503

-- the connection of a call with this fault is reset
abbrev pub resets : Option CallFault → Bool
resets None = false
resets (Some Busy) = false
resets (Some Unanswered) = false
resets (Some (Slow seconds)) = false
resets (Some Gone) = false
resets (Some Reset) = true

-- the status of the response to a call: that of the test master's response, or that of its fault
abbrev pub call_status : LiveState → Call → Option (List ℕ) → ℕ
call_status live c stream = status_by (reply_fault live) (handled live.master c stream).status
