-- How a world of `mes_double` shows what happened between a session and a live test master.
use Rattle.std.specs.Prelude.{◌≡◌, ◌⊎◌, ◌<◌, ◌==◌, ℕ, Bool, true, false, List, [], filter, is_some, length, map}
use Rattle.std.specs.List.{list_any}
use Rattle.mes_model.specs.OwedKey.{OwedKey}
use Rattle.mes_model.specs.Owed.{owed_key_of}
use Rattle.mes_msg.specs.Event.{Event}
use Rattle.mes_msg.specs.Event.TheVariants.{Offers, Rescind, Subscribed, Update}
use Rattle.mes_msg.specs.declared.entry.Entry.TheVariants.{Broken, Heard}
use Rattle.mes_session_state.specs.Held.{Held, is_owed}
use Rattle.mes_session.specs.History.{after, owed_by}
use Rattle.mes_double_master.specs.Masters.{MasterState, stream_broke}
use Rattle.mes_double.specs.Courses.{Arrival, Course}
use Rattle.mes_double_live_worlds.specs.LiveWorlds.{LiveWorld}

-- true for an event that may change a session: SUBSCRIBED, OFFERS, RESCIND, or an UPDATE that requires
-- an acknowledgement
abbrev pub is_noted : Event → Bool
is_noted (Subscribed body) = true
is_noted (Offers list) = true
is_noted (Rescind body) = true
is_noted (Update body) = is_some (owed_key_of body.status)
is_noted event = false

abbrev pub noted : List Event → List Event
noted events = filter is_noted events

-- the live test master has the master of the world; or that one, once its stream was disconnected
abbrev pub IsOf : MasterState → MasterState → Type 0
IsOf master live = (live ≡ master) ⊎ (live ≡ stream_broke master)

-- the session is that of the world, or that one, once its stream was disconnected
abbrev pub SessionIs : Bool → Held → Held → Type 0
SessionIs true session shown = session ≡ shown
SessionIs false session shown = session ≡ after shown Broken

-- the indexes of the calls that arrived with status 202, in order
abbrev pub carried_in : List Arrival → List ℕ
carried_in arrivals = map (λ (a : Arrival). a.index) (filter (λ (a : Arrival). a.status == 202) arrivals)

-- The course of a world shows this: the same calls were carried out, and but for events that change no session, the same events were
-- received, and the same ones wait.
pub record Shows (c : Course) (w : LiveWorld) : Type 0 where
  pub master : IsOf c.world.master w.live.master
  pub session : SessionIs w.reads w.session c.world.session
  pub heard : noted w.heard ≡ noted c.heard
  pub waiting : w.reads ≡ true → noted w.waiting ≡ noted c.world.waiting
  pub sent : w.sent ≡ c.world.sent
  pub carried : w.carried ≡ carried_in c.arrivals

-- each acknowledged key is that of an UPDATE that the session received
abbrev pub AckedWereHeard : LiveWorld → Type 0
AckedWereHeard w = (key : OwedKey) → is_owed key w.live.master.acked ≡ true → list_any (λ (e : Event). is_owed key (owed_by (Heard e))) w.heard ≡ true

-- On a current stream that the session reads, once no event waits that changes it and all its calls were
-- carried out, it has the outstanding offers.
abbrev pub AllAgrees : LiveWorld → Type 0
AllAgrees w = w.reads ≡ true → is_some w.live.master.stream ≡ true → noted w.waiting ≡ []
    → ((i : ℕ) → i < length w.sent → list_any (λ (j : ℕ). j == i) w.carried ≡ true) → w.session.hand ≡ w.live.master.outstanding
