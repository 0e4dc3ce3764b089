-- An ACCEPT, a DECLINE or an ACKNOWLEDGE with status 202 changes nothing when it arrives again.
use Rattle.std.proofs.Common.{◌≡◌, ℕ, zero, suc, ◌≤◌, ◌==◌, Bool, true, false, ◌||◌, not, if◌then◌else◌, slice_get, List, [], ◌∷◌, ◌++◌, Option, Some, refl, sym, ap, subst, ◌∙◌}
use Rattle.std.specs.Str.{bytes_eq}
use Rattle.std.proofs.lemmas.List.{append-nil}
use Rattle.std.proofs.lemmas.Bool.{and_left}
use Rattle.std.proofs.lemmas.Bool.{eq-eqb}
use Rattle.mes_model.specs.Id.{Id}
use Rattle.mes_model.specs.Offer.{Offer}
use Rattle.mes_model.specs.OwedKey.{OwedKey}
use Rattle.mes_model.specs.TaskInfo.{TaskInfo}
use Rattle.mes_msg.specs.Call.{Call}
use Rattle.mes_msg.specs.Call.TheVariants as of
use Rattle.mes_session_fit.specs.Launched.{launched, launched_by}
use Rattle.mes_session_state.specs.Held.{name_of, names, without_offers, is_owed, with_key}
use Rattle.mes_session_state.specs.Calls.{named_by, acknowledged_by}
use Rattle.mes_session_state.specs.Refusals.{ids_of}
use Rattle.mes_double_master.specs.Masters.{MasterState, MasterAnswer, is_there, all_there, new_tasks, launchable, has_update, key_in, carried_out, is_subscribe, handled}
use Rattle.mes_double.specs.declared.moves.Move.{Move}
use Rattle.mes_double.specs.Worlds.{WorldState, skip, is_done, answer_to, answering, arriving}
use Rattle.mes_double.specs.Courses.{Arrival, Course, IsCourse}
use Rattle.mes_double.specs.Promises.{may_repeat, IsUnmoved, AgainMovesNothing, has_arrived}
use Rattle.mes_double.proofs.ListLemmas.{apart, filter-all}
use Rattle.mes_double.proofs.CountLemmas.{count, count-first, count-later, same-in}
use Rattle.mes_double.proofs.KeyLemmas.{owed-there}
use Rattle.mes_double.proofs.ReachLemmas.{Reached, reach}
use Rattle.mes_double.proofs.ReachLemmas.Reached.{turned, opened, did}
use Rattle.mes_double.proofs.Joined.{IsLive, Joined}
use Rattle.mes_double.proofs.JoinedRuns.{joined}
use Rattle.mes_double.proofs.Keyed.{Keyed, keyed}

-- `has_arrived` is true for the index of each call in the list of arrivals
arrived : (arrivals : List Arrival) (i : ℕ) (a : Arrival) → slice_get arrivals i ≡ Some a → has_arrived arrivals a.index ≡ true
arrived [] i a e = absurd (cc)
arrived (b ∷ arrivals) zero a e =
    let same : b ≡ a = (let f : Some b ≡ Some a = e in cc) in
    ap (λ (t : Bool). t || has_arrived arrivals a.index) (eq-eqb b.index a.index (ap (λ (x : Arrival). x.index) same))
arrived (b ∷ arrivals) (suc i) a e = or-last (b.index == a.index) (arrived arrivals i a e)
  where
    or-last : {y : Bool} (x : Bool) → y ≡ true → (x || y) ≡ true
    or-last true f = refl
    or-last false f = f

module _ (ids : List Id) (os : List Offer) (none : (o : Offer) → names ids o ≡ true → 1 ≤ count (name_of o) os → ⊥) where
  all-left : without_offers ids os ≡ os
  all-left = same-in (λ (o : Offer). not (names ids o)) (λ (o : Offer). true) os (λ o h. by o h (names ids o) refl) ∙ filter-all os
    where
      by : (o : Offer) → 1 ≤ count (name_of o) os → (b : Bool) → names ids o ≡ b → not (names ids o) ≡ true
      by o h false e = ap not e
      by o h true e = absurd (none o e h)

found-named : (d : Id) (ds : List Id) (os : List Offer) → is_there os d ≡ true → (o : Offer) × (names (d ∷ ds) o ≡ true) × (1 ≤ count (name_of o) os)
found-named d ds [] e = absurd (cc)
found-named d ds (o ∷ os) e = by (bytes_eq d.value (name_of o)) refl e (found-named d ds os)
  where
    by : (b : Bool) → bytes_eq d.value (name_of o) ≡ b → is_there (o ∷ os) d ≡ true → (is_there os d ≡ true → (x : Offer) × (names (d ∷ ds) x ≡ true) × (1 ≤ count (name_of x) os))
        → (x : Offer) × (names (d ∷ ds) x ≡ true) × (1 ≤ count (name_of x) (o ∷ os))
    by true f e rest = (o, ap (λ (b : Bool). b || names ds o) f, count-first o os)
    by false f e rest =
        (let r : (x : Offer) × (names (d ∷ ds) x ≡ true) × (1 ≤ count (name_of x) os) = rest (let g : is_there os d ≡ true = rw f at e in g) in
        (r.0, r.1, count-later (name_of r.0) o os r.2))

none-there : (ids : List Id) (os : List Offer) → ((o : Offer) → names ids o ≡ true → 1 ≤ count (name_of o) os → ⊥) → all_there os ids ≡ false
none-there [] os none = refl
none-there (d ∷ ds) os none = and_left _ _ (by (is_there os d) refl)
  where
    by : (b : Bool) → is_there os d ≡ b → is_there os d ≡ false
    by false e = e
    by true e = (let r : (o : Offer) × (names (d ∷ ds) o ≡ true) × (1 ≤ count (name_of o) os) = found-named d ds os e in absurd (none r.0 r.1 r.2))

module _ (m : MasterState) (call : Call) (repeats : may_repeat call ≡ true) (none : (o : Offer) → names (named_by call) o ≡ true → 1 ≤ count (name_of o) m.outstanding → ⊥)
    (known : (k : OwedKey) → acknowledged_by call ≡ Some k → is_owed k m.acked ≡ true) where
  out-unmoved : IsUnmoved m (carried_out m call).master
  out-unmoved = by call repeats none known
    where
      by : (call : Call) → may_repeat call ≡ true → ((o : Offer) → names (named_by call) o ≡ true → 1 ≤ count (name_of o) m.outstanding → ⊥)
          → ((k : OwedKey) → acknowledged_by call ≡ Some k → is_owed k m.acked ≡ true) → IsUnmoved m (carried_out m call).master
      by (of.Accept f body) r none known =
          let ran : launchable m body.offer_ids (launched launched_by body.operations) ≡ [] =
          ap (λ (b : Bool). if b then new_tasks m.launched (launched launched_by body.operations) else []) (none-there body.offer_ids m.outstanding none) in
          record {
            outstanding = all-left body.offer_ids m.outstanding none;
            launched = ap (λ (l : List TaskInfo). m.launched ++ ids_of l) ran ∙ append-nil m.launched;
            acked = refl;
          }
      by (of.Decline f body) r none known = record { outstanding = all-left body.offer_ids m.outstanding none; launched = refl; acked = refl }
      by (of.Acknowledge f body) r none known = record {
        outstanding = refl;
        launched = refl;
        acked = same (has_update m.owing (key_in body));
      }
        where
          same : (b : Bool) → (if b then with_key m.acked (key_in body) else m.acked) ≡ m.acked
          same true = owed-there m.acked (key_in body) (known (key_in body) refl)
          same false = refl
      by (of.Subscribe f body) r none known = absurd (cc)
      by (of.Revive f) r none known = absurd (cc)
      by (of.Kill f body) r none known = absurd (cc)
      by (of.Reconcile f body) r none known = absurd (cc)
      by (of.Teardown f) r none known = absurd (cc)
      by (of.Suppress f) r none known = absurd (cc)
      by (of.Shutdown f body) r none known = absurd (cc)
      by (of.Message f body) r none known = absurd (cc)

  not-subscribe : is_subscribe call ≡ true → ⊥
  not-subscribe e = by call repeats e
    where
      by : (call : Call) → may_repeat call ≡ true → is_subscribe call ≡ true → ⊥
      by (of.Subscribe f body) r e = absurd (cc)
      by (of.Accept f body) r e = absurd (cc)
      by (of.Decline f body) r e = absurd (cc)
      by (of.Acknowledge f body) r e = absurd (cc)
      by (of.Revive f) r e = absurd (cc)
      by (of.Kill f body) r e = absurd (cc)
      by (of.Reconcile f body) r e = absurd (cc)
      by (of.Teardown f) r e = absurd (cc)
      by (of.Suppress f) r e = absurd (cc)
      by (of.Shutdown f body) r e = absurd (cc)
      by (of.Message f body) r e = absurd (cc)

  handled-unmoved : (given : Option (List ℕ)) → IsUnmoved m (handled m call given).master
  handled-unmoved given = by (reach m call given)
    where
      by : Reached m call given → IsUnmoved m (handled m call given).master
      by (turned status none is) = subst (λ (a : MasterAnswer). IsUnmoved m a.master) (sym is) (record { outstanding = refl; launched = refl; acked = refl })
      by (opened uuid uuids subscribes up is) = absurd (not-subscribe subscribes)
      by (did o is) = subst (λ (a : MasterAnswer). IsUnmoved m a.master) (sym is) out-unmoved

answering-unmoved : (w : WorldState) (a : MasterAnswer) → IsUnmoved w.master a.master → IsUnmoved w.master (answering w a).master
answering-unmoved w a u = by (is_done a.status)
  where
    by : (b : Bool) → IsUnmoved w.master (if b then record w { master = a.master; waiting = w.waiting ++ a.events } else skip w).master
    by true = u
    by false = record { outstanding = refl; launched = refl; acked = refl }

pub moves-nothing : (framework : Id) (ids : List (List ℕ)) (list : List Move) (c : Course) → IsCourse framework ids list c → AgainMovesNothing c
moves-nothing framework ids list c l i a d there status repeats f =
    let j : Joined c = joined framework ids list c l in
    let k : Keyed c = keyed framework ids list c l in
    let place : slice_get c.world.sent a.index ≡ Some a.sent = k.place i a there in
    let none : (o : Offer) → names (named_by a.sent.call) o ≡ true → 1 ≤ count (name_of o) c.world.master.outstanding → ⊥ =
    λ o n h. (let live : IsLive c.world.master.stream c.world.master.framework c.arrivals a.index a.sent = j.live a.index a.sent o place n h in
    apart (has_arrived c.arrivals a.index) (arrived c.arrivals i a there) live.pending) in
    let world : d.world ≡ answering c.world (answer_to c.world a.sent) = f.world ∙ ap (arriving c.world) place in
    subst (λ (w : WorldState). IsUnmoved c.world.master w.master) (sym world)
    (answering-unmoved c.world (answer_to c.world a.sent)
    (handled-unmoved c.world.master a.sent.call repeats none (λ key names_key. k.done i a key there status names_key) (Some a.sent.stream)))
