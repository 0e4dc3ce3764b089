-- `Joined`: the invariant of session, master and messages that holds on every course.
use Rattle.std.proofs.Common.{◌≡◌, ℕ, ◌+◌, ◌≤◌, true, false, ◌&&◌, not, map, length, slice_get, List, [], ◌∷◌, ◌++◌, Option, Some, None, refl, ap, ◌∙◌}
use Rattle.std.specs.List.{list_any}
use Rattle.std.specs.Str.{bytes_eq}
use Rattle.std.proofs.lemmas.Grind.{flat_map-append}
use Rattle.mes_model.specs.Id.{Id}
use Rattle.mes_model.specs.Offer.{Offer}
use Rattle.mes_model.specs.TaskStatus.{TaskStatus}
use Rattle.mes_msg.specs.Event.{Event}
use Rattle.mes_msg.specs.declared.entry.Entry.TheVariants.{Heard}
use Rattle.mes_session_state.specs.Held.{name_of, names}
use Rattle.mes_session_state.specs.Calls.{framework_of, named_by}
use Rattle.mes_session.specs.History.{offers_of, subscribed_by}
use Rattle.mes_double_master.specs.Masters.{agrees, reconciled_event}
use Rattle.mes_double_master.proofs.RunLemmas.{times, Once}
use Rattle.mes_double.specs.declared.sent.Sent.{Sent}
use Rattle.mes_double.specs.Courses.{Arrival, Course}
use Rattle.mes_double.specs.Promises.{has_arrived, not_arrived, is_under_way, HandAgrees}
use Rattle.mes_double.proofs.CountLemmas.{count, count-append}
use Rattle.mes_double.proofs.HandLemmas.{brought}

-- the call was sent on the current stream, by the master's framework, and has not arrived
pub record IsLive (stream : Option (List ℕ)) (framework : Id) (arrivals : List Arrival) (i : ℕ) (p : Sent) : Type 0 where
  pub current : stream ≡ Some p.stream
  pub own : agrees framework (framework_of p.call) ≡ true
  pub pending : has_arrived arrivals i ≡ false

-- each SUBSCRIBED in the list of events is for the framework
abbrev pub Own : Id → List Event → Type 0
Own framework [] = Unit {0}
Own framework (e ∷ events) = ((other : Id) → subscribed_by (Heard e) ≡ Some other → other ≡ framework) × Own framework events

pub own-append : (framework : Id) (front events : List Event) → Own framework front → Own framework events → Own framework (front ++ events)
own-append framework [] events f g = g
own-append framework (e ∷ front) events f g = (f.0, own-append framework front events f.1 g)

pub own-reported : (framework : Id) (statuses : List TaskStatus) → Own framework (map reconciled_event statuses)
own-reported framework [] = tt
own-reported framework (status ∷ statuses) = (λ other e. absurd (cc), own-reported framework statuses)

pub brought-append : (x : List ℕ) (front events : List Event) → count x (brought (front ++ events)) ≡ count x (brought front) + count x (brought events)
brought-append x front events = ap (count x) (flat_map-append (λ (e : Event). offers_of (Heard e)) front events) ∙ count-append x (brought front) (brought events)

pub brought-reported : (x : List ℕ) (statuses : List TaskStatus) → count x (brought (map reconciled_event statuses)) ≡ 0
brought-reported x [] = refl
brought-reported x (status ∷ statuses) = brought-reported x statuses

pub record Joined (c : Course) : Type 0 where
  -- each offer was made once
  pub once : Once c.world.master.offered
  -- the session's offers and those of queued events were made, without duplicates
  pub known : (x : List ℕ) → count x c.world.session.hand + count x (brought c.world.waiting) ≤ times x c.world.master.offered
  -- a sent call names offers that were made
  pub named : (i : ℕ) (p : Sent) (o : Offer) → slice_get c.world.sent i ≡ Some p → names (named_by p.call) o ≡ true → 1 ≤ times (name_of o) c.world.master.offered
  -- a call that names an outstanding offer is live
  pub live : (i : ℕ) (p : Sent) (o : Offer) → slice_get c.world.sent i ≡ Some p → names (named_by p.call) o ≡ true → 1 ≤ count (name_of o) c.world.master.outstanding
      → IsLive c.world.master.stream c.world.master.framework c.arrivals i p
  -- the session knows no other framework than the master's, nor does a queued SUBSCRIBED
  pub framework : (known : Id) → c.world.session.framework ≡ Some known → known ≡ c.world.master.framework
  pub own : Own c.world.master.framework c.world.waiting
  -- after a TEARDOWN there is no stream
  pub down : c.world.master.down ≡ true → c.world.master.stream ≡ None
  -- only sent calls have arrived
  pub sent : (i : ℕ) → length c.world.sent ≤ i → has_arrived c.arrivals i ≡ false
  pub agrees : HandAgrees c

-- if two offers have the same identifier, either both are in transit or neither is
pub under-alike : (c : Course) (stream : List ℕ) (a b : Offer) → name_of a ≡ name_of b → not (is_under_way c stream a) ≡ not (is_under_way c stream b)
under-alike c stream a b e =
    ap (λ (n : List ℕ). not (list_any (λ (p : Sent). bytes_eq stream p.stream && list_any (λ (d : Id). bytes_eq d.value n) (named_by p.call)) (not_arrived c))) e
