-- What holds on every course, whatever is lost, late or repeated.
use Rattle.std.specs.Prelude.{◌≡◌, ℕ, Bool, true, false, ◌&&◌, not, ◌==◌, if◌then◌else◌, fold, filter, List, [], ◌∷◌, suc, slice_get, Some}
use Rattle.std.specs.List.{flat_map, list_any}
use Rattle.std.specs.Str.{bytes_eq}
use Rattle.mes_model.specs.Offer.{Offer}
use Rattle.mes_model.specs.OwedKey.{OwedKey}
use Rattle.mes_model.specs.TaskInfo.{TaskInfo}
use Rattle.mes_msg.specs.Event.{Event}
use Rattle.mes_msg.specs.Call.{Call}
use Rattle.mes_msg.specs.Call.TheVariants as of
use Rattle.mes_msg.specs.declared.entry.Entry.TheVariants.{Heard}
use Rattle.mes_session_fit.specs.Fits.{Fits}
use Rattle.mes_session_state.specs.Held.{Held, names, is_owed}
use Rattle.mes_session_state.specs.Calls.{named_by}
use Rattle.mes_session_state.specs.Refusals.{is_duplicated, ids_of}
use Rattle.mes_session.specs.History.{after, owed_by}
use Rattle.mes_double_master.specs.Agents.{are_there}
use Rattle.mes_double_master.specs.Masters.{MasterState}
use Rattle.mes_double_master.specs.Sending.{offer_ids}
use Rattle.mes_double.specs.declared.moves.Move.TheVariants as moves
use Rattle.mes_double.specs.declared.sent.Sent.{Sent}
use Rattle.mes_double.specs.Worlds.{WorldState}
use Rattle.mes_double.specs.Courses.{Arrival, Course, Follows}

-- ---- acknowledgements

-- each acknowledged key is that of an UPDATE that the session received
abbrev pub AckedWereHeard : Course → Type 0
AckedWereHeard c = (key : OwedKey) → is_owed key c.world.master.acked ≡ true → list_any (λ (e : Event). is_owed key (owed_by (Heard e))) c.heard ≡ true

-- ---- tasks and offers

-- the tasks that the arrived calls launched, and the offers that they took, in order
abbrev pub all_ran : List Arrival → List TaskInfo
all_ran arrivals = flat_map (λ (a : Arrival). a.ran) arrivals

abbrev pub all_took : List Arrival → List Offer
all_took arrivals = flat_map (λ (a : Arrival). a.took) arrivals

-- the launched tasks are those that the arrivals launched, and no task was launched twice
pub record LaunchedOnce (c : Course) : Type 0 where
  pub launched : c.world.master.launched ≡ ids_of (all_ran c.arrivals)
  pub once : is_duplicated c.world.master.launched ≡ false

-- no offer was taken twice
abbrev pub TakenOnce : Course → Type 0
TakenOnce c = is_duplicated (offer_ids (all_took c.arrivals)) ≡ false

-- the tasks that an arrival launched fit the offers that the arrival took
abbrev pub WhatRanFits : Course → Type 0
WhatRanFits c = (i : ℕ) (a : Arrival) → slice_get c.arrivals i ≡ Some a → Fits a.took a.ran

-- the tasks that an arrival launched are of the agent of the offers that the arrival took
abbrev pub WhatRanIsThere : Course → Type 0
WhatRanIsThere c = (i : ℕ) (a : Arrival) → slice_get c.arrivals i ≡ Some a → are_there a.took a.ran ≡ true

-- ---- repeated calls

-- true for an ACCEPT, a DECLINE or an ACKNOWLEDGE
abbrev pub may_repeat : Call → Bool
may_repeat (of.Accept framework body) = true
may_repeat (of.Decline framework body) = true
may_repeat (of.Acknowledge framework body) = true
may_repeat _ = false

-- two states have the same outstanding offers, launched tasks and acknowledged updates
pub record IsUnmoved (before later : MasterState) : Type 0 where
  pub outstanding : later.outstanding ≡ before.outstanding
  pub launched : later.launched ≡ before.launched
  pub acked : later.acked ≡ before.acked

-- an arrived ACCEPT, DECLINE or ACKNOWLEDGE with status 202 changes nothing if it arrives again
abbrev pub AgainMovesNothing : Course → Type 0
AgainMovesNothing c = (i : ℕ) (a : Arrival) (d : Course) → slice_get c.arrivals i ≡ Some a → a.status ≡ 202 → may_repeat a.sent.call ≡ true
    → Follows c (moves.Arrive a.index) d → IsUnmoved c.world.master d.world.master

-- ---- the session's offers and the outstanding ones

-- the session after it has received all queued events
abbrev pub caught_up : WorldState → Held
caught_up w = fold (λ (s : Held) (e : Event). after s (Heard e)) w.session w.waiting

-- true if the call sent at this index has arrived
abbrev pub has_arrived : List Arrival → ℕ → Bool
has_arrived arrivals index = list_any (λ (a : Arrival). a.index == index) arrivals

-- the sent calls from an index on that have not arrived
abbrev pub on_the_way : List Arrival → ℕ → List Sent → List Sent
on_the_way arrivals at [] = []
on_the_way arrivals at (p ∷ more) = if has_arrived arrivals at then on_the_way arrivals (suc at) more else p ∷ on_the_way arrivals (suc at) more

-- all sent calls that have not arrived
abbrev pub not_arrived : Course → List Sent
not_arrived c = on_the_way c.arrivals 0 c.world.sent

-- true if an ACCEPT or a DECLINE of the offer was sent on this stream and has not arrived
abbrev pub is_under_way : Course → List ℕ → Offer → Bool
is_under_way c stream o = list_any (λ (p : Sent). bytes_eq stream p.stream && names (named_by p.call) o) (not_arrived c)

-- on a stream, the session after all queued events has the outstanding offers not in transit
abbrev pub HandAgrees : Course → Type 0
HandAgrees c = (stream : List ℕ) → c.world.master.stream ≡ Some stream
    → (caught_up c.world).hand ≡ filter (λ (o : Offer). not (is_under_way c stream o)) c.world.master.outstanding

-- on a stream, with nothing queued or in transit, the session has the outstanding offers
abbrev pub AllAgrees : Course → Type 0
AllAgrees c = (stream : List ℕ) → c.world.master.stream ≡ Some stream → c.world.waiting ≡ [] → not_arrived c ≡ [] → c.world.session.hand ≡ c.world.master.outstanding

-- ---- all promises

-- the promises of `world_laws`, which every course keeps
pub record KeepsPromises (c : Course) : Type 0 where
  pub acked : AckedWereHeard c
  pub launched : LaunchedOnce c
  pub taken : TakenOnce c
  pub fits : WhatRanFits c
  pub there : WhatRanIsThere c
  pub again : AgainMovesNothing c
  pub agrees : HandAgrees c
  pub same : AllAgrees c
