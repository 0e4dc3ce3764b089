-- The response to a request, and its effect on the test master.
use Rattle.std.specs.Prelude.{◌≡◌, ℕ, ◌⊎◌, ◌==◌, if◌then◌else◌, List, ◌++◌, Option, None, Some}
use Rattle.mes_msg.specs.Event.{Event}
use Rattle.mes_double_http.specs.declared.fault.HeadFault.{HeadFault}
use Rattle.mes_double_http.specs.declared.fault.HeadFault.TheVariants as fault
use Rattle.mes_double_master.specs.Masters.{MasterState, MasterAnswer, handled}
use Rattle.mes_double_master.specs.Memory.{MayWantMemory}
use Rattle.mes_msg.specs.RecordFault.{RecordFault}
use Rattle.mes_msg.specs.RecordFault.TheVariants as unread
use Rattle.mesosev_serve.specs.Opening.{Streamed, and_all_given, opening}
use Rattle.mesosev_serve.specs.declared.request.ParsedRequest.{ParsedRequest}
use Rattle.mesosev_serve.specs.declared.request.ParsedRequest.TheVariants.{NoRequest, NoCall, Calls}
use Rattle.mesosev_serve.specs.declared.response.Reply.{Reply}
use Rattle.mesosev_serve.specs.declared.response.Reply.TheVariants.{Nothing, Status, Stream}

-- the response to an invalid request: status 404, 405 or 400; no response if the reader or an
-- allocation failed
abbrev pub reply_to_fault : HeadFault → Reply
reply_to_fault fault.WrongPath = Status 404
reply_to_fault fault.WrongMethod = Status 405
reply_to_fault fault.Read = Nothing
reply_to_fault fault.ShortBody = Nothing
reply_to_fault fault.NoMemory = Nothing
reply_to_fault _ = Status 400

-- the response to a body that is not a call
abbrev pub reply_to_text : RecordFault → Reply
reply_to_text unread.NoMemory = Nothing
reply_to_text _ = Status 400

-- the response to a request, and the state of the master after the response
pub record Service : Type 0 where
  pub reply : Reply
  pub master : MasterState

-- `reply` is the response of s, and `later` is the state of the master after the response
abbrev pub IsService : Service → Reply → MasterState → Type 0
IsService s reply later = (reply ≡ s.reply) × (later ≡ s.master)

-- the response with the events of s on the given stream; no response without a stream
abbrev pub streamed : Option (List ℕ) → Streamed → Service
streamed None s = record { reply = Nothing; master = s.master }
streamed (Some id) s = record { reply = Stream id s.events; master = s.master }

-- the response to a call. Status 200: a stream of the master's own events and the given events that
-- are sent. Any other status: no events.
abbrev pub service : MasterAnswer → List Event → Service
service answer given =
    if answer.status == 200 then streamed answer.master.stream (and_all_given (opening answer) given)
    else record { reply = Status answer.status; master = answer.master }

-- an allocation failed: the master is unchanged, or its state is that after a prefix of the given
-- events
abbrev pub Lacks : MasterState → MasterAnswer → List Event → MasterState → Type 0
Lacks before answer given later =
    (later ≡ before)
    ⊎ ((answer.status ≡ 200) × ((front : List Event) × (rest : List Event) × (given ≡ front ++ rest) × (later ≡ (and_all_given (opening answer) front).master)))

-- The response to a request, and the master's state after the response. There is no response if an
-- allocation failed that the call needs.
abbrev pub Replies : MasterState → List Event → ParsedRequest → Reply → MasterState → Type 0
Replies before given (NoRequest fault) reply later = (reply ≡ reply_to_fault fault) × (later ≡ before)
Replies before given (NoCall fault) reply later = (reply ≡ reply_to_text fault) × (later ≡ before)
Replies before given (Calls stream c) reply later =
    IsService (service (handled before c stream) given) reply later ⊎ ((reply ≡ Nothing) × MayWantMemory before c stream × Lacks before (handled before c stream) given later)
