-- The stream that a SUBSCRIBE opens: which of the given events are sent.
use Rattle.std.specs.Prelude.{List, [], ◌∷◌, ◌++◌, fold, Ok, Err}
use Rattle.mes_msg.specs.Event.{Event}
use Rattle.mes_msg.specs.Event.TheVariants as event
use Rattle.mes_double_master.specs.Masters.{MasterState, MasterAnswer}
use Rattle.mes_double_master.specs.Sending.{Sends, offers_sent, rescind_sent, update_sent}

-- the events of a stream so far, and the state of the master
pub record Streamed : Type 0 where
  pub events : List Event
  pub master : MasterState

abbrev pub so_far : List Event → MasterState → Streamed
so_far events m = record { events = events; master = m }

-- an event that the master sends is appended; an event that the master refuses is skipped
abbrev pub and_sent : Streamed → Sends → Streamed
and_sent s (Ok sent) = so_far (s.events ++ sent.0 ∷ []) sent.1
and_sent s (Err why) = s

-- OFFERS, RESCIND and UPDATE go through the master, SUBSCRIBED is skipped, any other event is
-- appended
abbrev pub and_given : Streamed → Event → Streamed
and_given s (event.Subscribed body) = s
and_given s (event.Offers offers) = and_sent s (offers_sent s.master offers)
and_given s (event.Rescind body) = and_sent s (rescind_sent s.master body.offer_id.value)
and_given s (event.Update body) = and_sent s (update_sent s.master body.status)
and_given s given = so_far (s.events ++ given ∷ []) s.master

-- `and_given` for several events, in order
abbrev pub and_all_given : Streamed → List Event → Streamed
and_all_given s given = fold and_given s given

-- a stream begins with the master's own events
abbrev pub opening : MasterAnswer → Streamed
opening answer = so_far answer.events answer.master
