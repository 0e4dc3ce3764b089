-- A live test master as a desk: how it changes, and how it responds.
use Rattle.std.specs.Prelude.{◌≡◌, ◌≢◌, ◌⊎◌, ℕ, ◌*◌, ◌&&◌, List, Option, None, Some, option_map, if◌then◌else◌, nat_le}
use Rattle.std.specs.Int.{to_be_bytes, w128}
use Rattle.mes_msg.specs.Call.{Call}
use Rattle.mes_msg.specs.Calls.{call}
use Rattle.mes_msg.specs.Event.{Event}
use Rattle.mes_msg.specs.Events.{event}
use Rattle.mes_msg.specs.Texts.{IsTextOf, IsFaultOf}
use Rattle.mes_msg.specs.RecordFault.{RecordFault}
use Rattle.mes_msg.specs.RecordFault.TheVariants as record_fault
use Rattle.mes_double_http.specs.declared.request.Request.{Request}
use Rattle.mes_double_master.specs.Masters.{handled}
use Rattle.mes_double_master.specs.Runs.{master_with}
use Rattle.mes_double_live.specs.Bodies.{empty}
use Rattle.mes_frame.specs.declared.limits.TheConstants.{MIN_CHUNK, MAX_CHUNK}
use Rattle.mes_double_faults.specs.Plans.{Plan}
use Rattle.mes_double_live.specs.Arriving.{arriving}
use Rattle.mes_double_live.specs.Calling.{opened_by, responding}
use Rattle.mes_double_live.specs.Lives.{LiveState, new_live, call_counted, call_status, reply_fault}
use Rattle.mes_double_live.specs.Moving.{Moves, IsSafe}
use Rattle.mes_double_live.specs.Steps.{BeginsWith, IsDelivering, IsOfCall}
use Rattle.mes_double_live.specs.declared.reply.Reply.{Reply}
use Rattle.mesosev_net.specs.Given.{test_framework}
use Rattle.mesosev_net.specs.StreamIds.{ids_from}
use Rattle.mesosev_live.specs.declared.limits.TheConstants.{MAX_STREAMS}
use Rattle.mesosev_live.specs.declared.live_master.TheConstants.{FIRST_STREAM}

-- deeds of the test master lead from one state to the other, and what each of them launches fits
abbrev pub MovesTo : LiveState → LiveState → Type 0
MovesTo first now = Moves first.master now.master

-- the bytes of the current stream that are not written
abbrev pub pending_of : LiveState → List ℕ
pending_of live = live.out.pending

-- the bytes are no text of a call
abbrev pub IsNoCall : List ℕ → Type 0
IsNoCall body = (fault : RecordFault) × IsFaultOf call body fault × (fault ≢ record_fault.NoMemory)

-- the bytes are no text of an event
abbrev pub IsNoEvent : List ℕ → Type 0
IsNoEvent body = (fault : RecordFault) × IsFaultOf event body fault × (fault ≢ record_fault.NoMemory)

-- The body of a request to `/fault` is an event, the event is taken as one from outside, and the
-- response has status 202; or it is none, the status is 400, and nothing is changed.
abbrev pub TakesEvent : LiveState → List ℕ → LiveState → ℕ → Type 0
TakesEvent old body new status =
    ((e : Event) × IsTextOf event body e × Moves old.master new.master × BeginsWith IsDelivering (arriving e) old new × (status ≡ 202))
    ⊎ (IsNoEvent body × (new ≡ old) × (status ≡ 400))

-- The response to a call has the status of the test master's response, or that of the call's fault,
-- which says what happens to the connection. Once the call was counted, the steps are first those that
-- it and its fault demand. A response with status 200 opens the stream of the test master.
pub record RespondsToCall (old : LiveState) (c : Call) (stream : Option (List ℕ)) (new : LiveState) (reply : Reply) : Type 0 where
  pub status : reply.status ≡ call_status old c stream
  pub fault : reply.fault ≡ reply_fault old
  pub steps : BeginsWith (IsOfCall c) (responding (reply_fault old) (call_counted old) c stream) (call_counted old) new
  pub opened : reply.opened ≡ opened_by reply.status (handled old.master c stream).master

-- The response to a request is that to the call in its body; or the body is no call, the status is
-- 400, no stream is opened, and nothing is changed.
abbrev pub RespondsTo : LiveState → Request → LiveState → Reply → Type 0
RespondsTo old request new reply =
    ((c : Call) × IsTextOf call request.body.items c × RespondsToCall old c request.stream new reply)
    ⊎ (IsNoCall request.body.items × (reply.status ≡ 400) × (reply.fault ≡ None) × (reply.opened ≡ None) × (new ≡ old))

-- the ids of the streams of one run
abbrev pub run_ids : List (List ℕ)
run_ids = ids_from (to_be_bytes w128 FIRST_STREAM) MAX_STREAMS

-- the chunk size that a fault sets, if it is in its range; or else `most`
abbrev pub size_by : Option ℕ → ℕ → ℕ
size_by None most = most
size_by (Some size) most = if nat_le MIN_CHUNK size && nat_le size MAX_CHUNK then size else most

-- the time for which a task runs in milliseconds, from seconds; `None` is for ever
abbrev pub finish_time : Option ℕ → Option ℕ
finish_time seconds = option_map (λ s. s * 1000) seconds

-- a new test master of the framework `F1`, with this number of seconds between two HEARTBEATs, tasks
-- that finish after this number of seconds, chunks of at most `most` bytes, and these planned faults
abbrev pub started : ℕ → Option ℕ → ℕ → Plan → LiveState
started heartbeat finish_after most plan =
    new_live (master_with test_framework run_ids (Some (heartbeat * 1000000))) (finish_time finish_after) (empty most plan)

-- What the test master promises after a run, whatever clients, sockets, input and time did: it is
-- what deeds of the new one lead to. No task was launched twice, no offer was taken twice, and the
-- tasks that each call launched fit the offers that the call took.
abbrev pub KeepsPromises : ℕ → LiveState → Type 0
KeepsPromises heartbeat live = IsSafe test_framework run_ids (Some (heartbeat * 1000000)) live.master
