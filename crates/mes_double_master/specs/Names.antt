-- The names of the types of calls and events (scheduler.proto, `Call.Type` and `Event.Type`).
use Rattle.std.specs.Prelude.{ℕ, List, codes}
use Rattle.mes_msg.specs.Call.{Call}
use Rattle.mes_msg.specs.Call.TheVariants as of
use Rattle.mes_msg.specs.Event.{Event}
use Rattle.mes_msg.specs.Event.TheVariants as event

-- the name of the call's type
abbrev pub call_name : Call → List ℕ
call_name (of.Subscribe framework body) = codes "SUBSCRIBE"
call_name (of.Accept framework body) = codes "ACCEPT"
call_name (of.Decline framework body) = codes "DECLINE"
call_name (of.Revive framework) = codes "REVIVE"
call_name (of.Kill framework body) = codes "KILL"
call_name (of.Acknowledge framework body) = codes "ACKNOWLEDGE"
call_name (of.Reconcile framework body) = codes "RECONCILE"
call_name (of.Teardown framework) = codes "TEARDOWN"
call_name (of.Suppress framework) = codes "SUPPRESS"
call_name (of.Shutdown framework body) = codes "SHUTDOWN"
call_name (of.Message framework body) = codes "MESSAGE"

-- the name of the event's type
abbrev pub event_name : Event → List ℕ
event_name (event.Subscribed body) = codes "SUBSCRIBED"
event_name (event.Offers offers) = codes "OFFERS"
event_name (event.Rescind body) = codes "RESCIND"
event_name (event.Update body) = codes "UPDATE"
event_name (event.Message body) = codes "MESSAGE"
event_name (event.Failure body) = codes "FAILURE"
event_name (event.Error body) = codes "ERROR"
event_name event.Heartbeat = codes "HEARTBEAT"
event_name (event.Other name) = name
