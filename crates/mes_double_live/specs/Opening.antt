-- How a new stream begins: the one before ends, and before any other event on it are SUBSCRIBED, a
-- HEARTBEAT, and the unacknowledged updates.
use Rattle.std.specs.Prelude.{◌≡◌, ℕ, Bool, true, false, List, [], ◌∷◌, ◌++◌, map, slice_get, Option, None, Some, codes}
use Rattle.mes_model.specs.OwedKey.{OwedKey}
use Rattle.mes_model.specs.TaskStatus.{TaskStatus}
use Rattle.mes_msg.specs.Event.{Event}
use Rattle.mes_msg.specs.Event.TheVariants.{Error}
use Rattle.mes_double_master.specs.Masters.{MasterState, subscribed_event, update_event}
use Rattle.mes_double_master.specs.Sending.{waiting}
use Rattle.mes_double_live.specs.Lives.{LiveState}
use Rattle.mes_double_live.specs.Steps.{Step, Leads}
use Rattle.mes_double_live.specs.Steps.Step.{sends, resends, beats, clears}

-- the state changes by these steps, and the time is the same
pub record ChangesBy (steps : List Step) (old new : LiveState) : Type 0 where
  pub leads : Leads old steps new
  pub time : new.time ≡ old.time

-- these events are sent at this time, in order
abbrev pub sending : ℕ → List Event → List Step
sending now events = map (sends now) events

-- the UPDATEs that require an acknowledgement and have none, in the order of their first sending
abbrev pub unacknowledged : MasterState → List Event
unacknowledged m = map (λ (e : OwedKey × TaskStatus). update_event e.1) (waiting m.owing m.acked)

-- the unacknowledged update at an index was sent again; or there is none
abbrev pub Resends : ℕ → Bool → LiveState → LiveState → Type 0
Resends index true old new = (event : Event) × (slice_get (unacknowledged old.master) index ≡ Some event) × ChangesBy (resends old.time event ∷ []) old new
Resends index false old new = (slice_get (unacknowledged old.master) index ≡ None) × ChangesBy [] old new

-- a new stream has no bytes of the one before, which is ended by an ERROR, if there is one
abbrev pub replacing : ℕ → Option (List ℕ) → List Step
replacing now None = clears ∷ []
replacing now (Some id) = sends now (Error (record { message = codes "Framework failed over" })) ∷ clears ∷ []

-- these updates are sent again at this time, in order
abbrev pub resending : ℕ → List Event → List Step
resending now updates = map (resends now) updates

-- a new stream begins with these events
abbrev pub beginning : ℕ → List Event → List Event → List Step
beginning now events updates = sending now events ++ beats ∷ resending now updates

-- the stream that replaces the current one begins with SUBSCRIBED, a HEARTBEAT, and the
-- unacknowledged updates
abbrev pub opening : LiveState → List Step
opening live = replacing live.time live.master.stream
    ++ beginning live.time (subscribed_event live.master.framework live.master.interval ∷ []) (unacknowledged live.master)
