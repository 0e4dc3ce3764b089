-- The invariant `Joined` holds after a call is sent or received.
use Rattle.std.proofs.Common.{◌≡◌, ℕ, ◌+◌, ◌≤◌, ◌<◌, Bool, true, false, ◌||◌, ◌&&◌, not, inl, inr, filter, map, length, slice_get, List, [], ◌∷◌, ◌++◌, Some, None, refl, sym, ap, subst, ◌∙◌, length-append, arith}
use Rattle.std.specs.Str.{bytes_eq}
use Rattle.std.proofs.lemmas.Bool.{cases_eq, or_from}
use Rattle.std.proofs.lemmas.List.{append-nil}
use Rattle.std.proofs.lemmas.Option.{slice_get_within}
use Rattle.std.proofs.lemmas.Slice.Eq.{bytes_eq-Decides}
use Rattle.mes_model.specs.Id.{Id}
use Rattle.mes_model.specs.Offer.{Offer}
use Rattle.mes_model.specs.OwedKey.{OwedKey}
use Rattle.mes_msg.specs.Event.{Event}
use Rattle.mes_msg.specs.Call.{Call}
use Rattle.mes_msg.specs.Call.TheVariants as of
use Rattle.mes_msg.specs.declared.entry.Entry.TheVariants.{Heard, Said}
use Rattle.mes_session_fit.specs.Launched.{launched, launched_by}
use Rattle.mes_session_state.specs.Held.{Held, name_of, names, without_offers}
use Rattle.mes_session_state.specs.Calls.{framework_of, named_by}
use Rattle.mes_session_state.specs.Refusals.{Answers}
use Rattle.mes_session.specs.History.{after}
use Rattle.mes_double_master.specs.Masters.{MasterAnswer, plain, subscribed, subscribed_event, accepted, declined, acknowledged, key_in, reconciled, reconciled_event, asked_for, torn_down, agrees, carried_out, is_subscribe}
use Rattle.mes_double_master.proofs.AgainLemmas.{same_text, IsOpen, carried}
use Rattle.mes_double.specs.declared.sent.Sent.{Sent}
use Rattle.mes_double.specs.Worlds.{is_done, answer_to}
use Rattle.mes_double.specs.Courses.{Arrival, Course}
use Rattle.mes_double.specs.Promises.{has_arrived, is_under_way}
use Rattle.mes_double.proofs.ListLemmas.{filter-all, filter-none, filter-two, fold-more, apart, or-swap, or-none, front-or-last, one-there}
use Rattle.mes_double.proofs.CountLemmas.{count, count-filter, count-without, names-alike, same-in}
use Rattle.mes_double.proofs.HandLemmas.{brought, hears, hears-filter, hears-reported}
use Rattle.mes_double.proofs.WayLemmas.{arrived-other, any_way, way-sent, way-arrives}
use Rattle.mes_double.proofs.ReachLemmas.{out-status}
use Rattle.mes_double.proofs.TurnLemmas.{to_wished, arrival_of, to_refused, to_answered, to_resubscribed}
use Rattle.mes_double.proofs.WishLemmas.{named-in_hand, of-known}
use Rattle.mes_double.proofs.Joined.{IsLive, Own, own-append, own-reported, brought-append, brought-reported, Joined}

-- ---- `Joined` after a call is sent

module _ (c : Course) (j : Joined c) (call : Call) (stream : List ℕ) (current : c.world.master.stream ≡ Some stream) (said : Answers c.world.session call None) where
  letter : Sent
  letter = record { call = call; stream = stream }

  sent-now : {Z : Type 0} (i : ℕ) (p : Sent) → slice_get (c.world.sent ++ record { call = call; stream = stream } ∷ []) i ≡ Some p
      → (slice_get c.world.sent i ≡ Some p → Z) → (i ≡ length c.world.sent → (let q : Sent = record { call = call; stream = stream } in q ≡ p) → Z) → Z
  sent-now i p there old new = elim (front-or-last c.world.sent (record { call = call; stream = stream }) i p there) [
    | inl e ↦ old e
    | inr e ↦ new e.0 e.1
  ]

  -- the named offers are the session's, so no queued event brings them
  not-brought : (o : Offer) → 1 ≤ count (name_of o) (brought c.world.waiting) → not (names (named_by call) o) ≡ true
  not-brought o h = by (names (named_by call) o) refl
    where
      by : (b : Bool) → names (named_by call) o ≡ b → not (names (named_by call) o) ≡ true
      by false e = ap not e
      by true e = absurd (omega (arith, h, named-in_hand c.world.session call said o e, j.known (name_of o), j.once (name_of o)))

  under-way : (o : Offer) → is_under_way (to_wished c call stream) stream o ≡ (is_under_way c stream o || names (named_by call) o)
  under-way o =
      way-sent (λ (p : Sent). bytes_eq stream p.stream && names (named_by p.call) o) c.arrivals 0 c.world.sent (record { call = call; stream = stream }) (length c.world.sent) (omega arith) (j.sent (length c.world.sent) (omega arith))
      ∙ ap (λ (b : Bool). is_under_way c stream o || (b && names (named_by call) o)) (same_text stream)

  less : (o : Offer) → (not (is_under_way c stream o) && not (names (named_by call) o)) ≡ not (is_under_way (to_wished c call stream) stream o)
  less o = both (is_under_way c stream o) (names (named_by call) o) ∙ ap not (sym (under-way o))
    where
      both : (a b : Bool) → (not a && not b) ≡ not (a || b)
      both true b = refl
      both false b = refl

  agrees-now : (c.world.master.stream ≡ Some stream) → (hears (after c.world.session (Said call)) c.world.waiting).hand ≡ filter (λ (o : Offer). not (is_under_way (to_wished c call stream) stream o)) c.world.master.outstanding
  agrees-now e =
      hears-filter (λ (o : Offer). not (names (named_by call) o)) (λ a b f. ap not (names-alike (named_by call) a b f)) c.world.session (after c.world.session (Said call)) c.world.waiting refl not-brought
      ∙ ap (filter (λ (o : Offer). not (names (named_by call) o))) (j.agrees stream e)
      ∙ filter-two (λ (o : Offer). not (names (named_by call) o)) (λ (o : Offer). not (is_under_way c stream o)) (λ (o : Offer). not (is_under_way (to_wished c call stream) stream o)) less c.world.master.outstanding

  pub wish-joined : Joined (to_wished c call stream)
  wish-joined = record {
    once = j.once;
    known = λ x. omega (arith, j.known x, count-filter x (λ (o : Offer). not (names (named_by call) o)) c.world.session.hand);
    named = λ i p o there n. sent-now i p there (λ e. j.named i p o e n)
        (λ at is. omega (arith, j.known (name_of o), named-in_hand c.world.session call said o (ap (λ (q : Sent). names (named_by q.call) o) is ∙ n)));
    live = λ i p o there n h. sent-now i p there (λ e. j.live i p o e n h)
        (λ at is. record {
          current = current ∙ ap (λ (q : Sent). Some q.stream) is;
          own = ap (λ (q : Sent). agrees c.world.master.framework (framework_of q.call)) (sym is) ∙ of-known c.world.session call o said (ap (λ (q : Sent). names (named_by q.call) o) is ∙ n) c.world.master.framework j.framework;
          pending = ap (has_arrived c.arrivals) at ∙ j.sent (length c.world.sent) (omega arith);
        });
    framework = j.framework;
    own = j.own;
    down = j.down;
    sent = λ i h. j.sent i (omega (arith, h, length-append c.world.sent (record { call = call; stream = stream } ∷ [])));
    agrees = λ s e. subst (λ (t : List ℕ). (hears (after c.world.session (Said call)) c.world.waiting).hand ≡ filter (λ (o : Offer). not (is_under_way (to_wished c call stream) t o)) c.world.master.outstanding)
        (let f : Some stream ≡ Some s = sym current ∙ e in cc) (agrees-now current);
  }

-- ---- the master receives a call, after which the offers that the call names are not outstanding

module _ (c : Course) (j : Joined c) (index : ℕ) (p : Sent) (there : slice_get c.world.sent index ≡ Some p) (a : Arrival) (at : a.index ≡ index) where
  others : (i : ℕ) → (i ≡ index → ⊥) → has_arrived (c.arrivals ++ a ∷ []) i ≡ has_arrived c.arrivals i
  others i other = arrived-other c.arrivals a i (λ e. other (sym e ∙ at))

  unsent : (i : ℕ) → length c.world.sent ≤ i → has_arrived (c.arrivals ++ a ∷ []) i ≡ false
  unsent i h = others i (λ e. let w : index < length c.world.sent = slice_get_within c.world.sent index p there in omega (arith, h, e, w)) ∙ j.sent i h

  way_then : List ℕ → Offer → Bool
  way_then stream o = any_way (λ (q : Sent). bytes_eq stream q.stream && names (named_by q.call) o) (c.arrivals ++ a ∷ []) 0 c.world.sent

  counted : List ℕ → Offer → Bool
  counted stream o = not (has_arrived c.arrivals a.index) && (bytes_eq stream p.stream && names (named_by p.call) o)

  moved : (stream : List ℕ) (o : Offer) → (any_way (λ (q : Sent). bytes_eq stream q.stream && names (named_by q.call) o) (c.arrivals ++ a ∷ []) 0 c.world.sent
      || (not (has_arrived c.arrivals a.index) && (bytes_eq stream p.stream && names (named_by p.call) o))) ≡ is_under_way c stream o
  moved stream o = way-arrives (λ (q : Sent). bytes_eq stream q.stream && names (named_by q.call) o) c.arrivals a 0 c.world.sent index p there (omega (arith, at))

  way-other : (stream : List ℕ) (o : Offer) → names (named_by p.call) o ≡ false
      → any_way (λ (q : Sent). bytes_eq stream q.stream && names (named_by q.call) o) (c.arrivals ++ a ∷ []) 0 c.world.sent ≡ is_under_way c stream o
  way-other stream o e =
      sym (or-none _)
      ∙ ap (λ (b : Bool). any_way (λ (q : Sent). bytes_eq stream q.stream && names (named_by q.call) o) (c.arrivals ++ a ∷ []) 0 c.world.sent || b)
      (sym ((λ i. not (has_arrived c.arrivals a.index) && (bytes_eq stream p.stream && e i)) ∙ none (not (has_arrived c.arrivals a.index)) (bytes_eq stream p.stream)))
      ∙ moved stream o
    where
      none : (x y : Bool) → (x && (y && false)) ≡ false
      none true true = refl
      none true false = refl
      none false y = refl

  way-named : (stream : List ℕ) (o : Offer) → c.world.master.stream ≡ Some stream → names (named_by p.call) o ≡ true → 1 ≤ count (name_of o) c.world.master.outstanding → is_under_way c stream o ≡ true
  way-named stream o current e h =
      let l : IsLive c.world.master.stream c.world.master.framework c.arrivals index p = j.live index p o there e h in
      let s : stream ≡ p.stream = (let f : Some stream ≡ Some p.stream = sym current ∙ l.current in cc) in
      let named : bytes_eq stream p.stream ≡ true = (bytes_eq-Decides stream p.stream).1 s in
      let waits : has_arrived c.arrivals a.index ≡ false = ap (has_arrived c.arrivals) at ∙ l.pending in
      sym (moved stream o)
      ∙ (λ i. any_way (λ (q : Sent). bytes_eq stream q.stream && names (named_by q.call) o) (c.arrivals ++ a ∷ []) 0 c.world.sent || (not (waits i) && (named i && e i)))
      ∙ or-swap (any_way (λ (q : Sent). bytes_eq stream q.stream && names (named_by q.call) o) (c.arrivals ++ a ∷ []) 0 c.world.sent) true

  as-before : (stream : List ℕ) → c.world.master.stream ≡ Some stream → (o : Offer) → 1 ≤ count (name_of o) c.world.master.outstanding
      → (not (names (named_by p.call) o) && not (any_way (λ (q : Sent). bytes_eq stream q.stream && names (named_by q.call) o) (c.arrivals ++ a ∷ []) 0 c.world.sent)) ≡ not (is_under_way c stream o)
  as-before stream current o h = by (names (named_by p.call) o) refl
    where
      by : (b : Bool) → names (named_by p.call) o ≡ b
          → (not (names (named_by p.call) o) && not (any_way (λ (q : Sent). bytes_eq stream q.stream && names (named_by q.call) o) (c.arrivals ++ a ∷ []) 0 c.world.sent)) ≡ not (is_under_way c stream o)
      by false e = ap (λ (b : Bool). not b && not (any_way (λ (q : Sent). bytes_eq stream q.stream && names (named_by q.call) o) (c.arrivals ++ a ∷ []) 0 c.world.sent)) e ∙ ap not (way-other stream o e)
      by true e = ap (λ (b : Bool). not b && not (any_way (λ (q : Sent). bytes_eq stream q.stream && names (named_by q.call) o) (c.arrivals ++ a ∷ []) 0 c.world.sent)) e ∙ ap not (sym (way-named stream o current e h))

  abbrev pub settled : List Offer → List Id → List OwedKey → List Event → ℕ → Course
  settled os ran acked waiting skipped = record {
    world = record {
      master = record c.world.master { outstanding = os; launched = ran; acked = acked };
      session = c.world.session;
      waiting = waiting;
      sent = c.world.sent;
      skipped = skipped;
    };
    heard = c.heard;
    arrivals = c.arrivals ++ a ∷ [];
  }

  module _ (os : List Offer) (ran : List Id) (acked : List OwedKey) (waiting : List Event) (skipped : ℕ)
      (gone : os ≡ without_offers (named_by p.call) c.world.master.outstanding)
      (brings : (x : List ℕ) → count x (brought waiting) ≡ count x (brought c.world.waiting))
      (own : Own c.world.master.framework waiting)
      (hand : (hears c.world.session waiting).hand ≡ (hears c.world.session c.world.waiting).hand) where
    live-still : (i : ℕ) (q : Sent) (o : Offer) → slice_get c.world.sent i ≡ Some q → names (named_by q.call) o ≡ true → 1 ≤ count (name_of o) os
        → IsLive c.world.master.stream c.world.master.framework (c.arrivals ++ a ∷ []) i q
    live-still i q o here n h =
        let left : 1 ≤ count (name_of o) (without_offers (named_by p.call) c.world.master.outstanding) = subst (λ (l : List Offer). 1 ≤ count (name_of o) l) gone h in
        elim (cases_eq i index) [
          | inl e ↦ absurd (count-without (named_by p.call) o c.world.master.outstanding
              (ap (λ (r : Sent). names (named_by r.call) o) (one-there c.world.sent index p q there (ap (slice_get c.world.sent) (sym e) ∙ here)) ∙ n) left)
          | inr other ↦ (let l : IsLive c.world.master.stream c.world.master.framework c.arrivals i q =
              j.live i q o here n (omega (arith, left, count-filter (name_of o) (λ (y : Offer). not (names (named_by p.call) y)) c.world.master.outstanding)) in
              record { current = l.current; own = l.own; pending = others i other ∙ l.pending })
        ]

    pub settle : Joined (settled os ran acked waiting skipped)
    settle = record {
      once = j.once;
      known = λ x. omega (arith, j.known x, brings x);
      named = j.named;
      live = live-still;
      framework = j.framework;
      own = own;
      down = j.down;
      sent = unsent;
      agrees = λ stream e.
          hand
          ∙ j.agrees stream e
          ∙ sym (same-in _ _ c.world.master.outstanding (as-before stream e))
          ∙ sym (filter-two (λ (o : Offer). not (any_way (λ (q : Sent). bytes_eq stream q.stream && names (named_by q.call) o) (c.arrivals ++ a ∷ []) 0 c.world.sent)) (λ (o : Offer). not (names (named_by p.call) o))
          (λ (o : Offer). not (names (named_by p.call) o) && not (any_way (λ (q : Sent). bytes_eq stream q.stream && names (named_by q.call) o) (c.arrivals ++ a ∷ []) 0 c.world.sent)) (λ o. refl) c.world.master.outstanding)
          ∙ ap (filter (λ (o : Offer). not (any_way (λ (q : Sent). bytes_eq stream q.stream && names (named_by q.call) o) (c.arrivals ++ a ∷ []) 0 c.world.sent))) (sym gone);
    }

-- ---- `Joined` after each outcome of a call that the master receives

module _ (c : Course) (j : Joined c) (index : ℕ) (p : Sent) (there : slice_get c.world.sent index ≡ Some p) where
  -- a call that names an outstanding offer is not refused
  open-call : (o : Offer) → names (named_by p.call) o ≡ true → 1 ≤ count (name_of o) c.world.master.outstanding → IsOpen c.world.master p.call (Some p.stream)
  open-call o n h =
      let l : IsLive c.world.master.stream c.world.master.framework c.arrivals index p = j.live index p o there n h in
      record {
        fine = or_from _ _ (up l c.world.master.down refl) (ap not l.own);
        other = named-other p.call n;
        current = p.stream;
        stream = l.current;
        named = same_text p.stream;
      }
    where
      up : IsLive c.world.master.stream c.world.master.framework c.arrivals index p → (b : Bool) → c.world.master.down ≡ b → c.world.master.down ≡ false
      up l false e = e
      up l true e = absurd (let f : None ≡ Some p.stream = sym (j.down e) ∙ l.current in cc)

      named-other : (call : Call) → names (named_by call) o ≡ true → is_subscribe call ≡ false
      named-other (of.Subscribe f b) e = absurd (cc)
      named-other (of.Accept f b) e = refl
      named-other (of.Decline f b) e = refl
      named-other (of.Revive f) e = refl
      named-other (of.Kill f b) e = refl
      named-other (of.Acknowledge f b) e = refl
      named-other (of.Reconcile f b) e = refl
      named-other (of.Teardown f) e = refl
      named-other (of.Suppress f) e = refl
      named-other (of.Shutdown f b) e = refl
      named-other (of.Message f b) e = refl

  pub refuse-joined : (status : ℕ) → is_done status ≡ false → answer_to c.world p ≡ plain status c.world.master → Joined (to_refused c index p status)
  refuse-joined status none is =
      settle c j index p there (arrival_of index p (plain status c.world.master)) refl c.world.master.outstanding c.world.master.launched c.world.master.acked c.world.waiting (c.world.skipped + 1)
      (sym (filter-all c.world.master.outstanding) ∙ same-in (λ (o : Offer). true) (λ (o : Offer). not (names (named_by p.call) o)) c.world.master.outstanding (λ o h. stays o h (names (named_by p.call) o) refl))
      (λ x. refl) j.own refl
    where
      stays : (o : Offer) → 1 ≤ count (name_of o) c.world.master.outstanding → (b : Bool) → names (named_by p.call) o ≡ b → true ≡ not (names (named_by p.call) o)
      stays o h false e = sym (ap not e)
      stays o h true e =
          let done : status ≡ 202 =
          ap (λ (a : MasterAnswer). a.status) (sym is ∙ carried c.world.master p.call (Some p.stream) (open-call o e h)) ∙ out-status c.world.master p.call in
          apart (is_done status) (ap is_done done) none

  -- `Joined` after a SUBSCRIBE, sent as a call, opens another stream
  pub open-joined : (uuid : List ℕ) (uuids : List (List ℕ)) → c.world.master.down ≡ false → Joined (to_answered c index p (subscribed c.world.master (uuid ∷ uuids)))
  open-joined uuid uuids up = record {
    once = j.once;
    known = λ x. omega (arith, j.known x, brought-append x c.world.waiting (subscribed_event c.world.master.framework c.world.master.interval ∷ []));
    named = j.named;
    live = λ i q o here n h. absurd (omega (arith, h));
    framework = j.framework;
    own = own-append c.world.master.framework c.world.waiting _ j.own (λ other e. (let f : Some c.world.master.framework ≡ Some other = e in cc), tt);
    down = λ e. apart c.world.master.down e up;
    sent = unsent c j index p there (arrival_of index p (subscribed c.world.master (uuid ∷ uuids))) refl;
    agrees = λ stream e. ap (λ (t : Held). t.hand) (fold-more (λ (s : Held) (e : Event). after s (Heard e)) c.world.session c.world.waiting (subscribed_event c.world.master.framework c.world.master.interval ∷ [])) ∙ filter-none (hears c.world.session c.world.waiting).hand;
  }

  -- ---- calls that are carried out

  module _ (os : List Offer) (ran : List Id) (acked : List OwedKey) (answer : MasterAnswer) (gone : os ≡ without_offers (named_by p.call) c.world.master.outstanding) where
    quiet : Joined (settled c j index p there (arrival_of index p answer) refl os ran acked (c.world.waiting ++ []) c.world.skipped)
    quiet = settle c j index p there (arrival_of index p answer) refl os ran acked (c.world.waiting ++ []) c.world.skipped gone
        (λ x. ap (λ (l : List Event). count x (brought l)) (append-nil c.world.waiting))
        (own-append c.world.master.framework c.world.waiting [] j.own tt)
        (ap (λ (l : List Event). (hears c.world.session l).hand) (append-nil c.world.waiting))

  idle : (answer : MasterAnswer) (acked : List OwedKey) → named_by p.call ≡ [] → Joined (settled c j index p there (arrival_of index p answer) refl c.world.master.outstanding c.world.master.launched acked (c.world.waiting ++ []) c.world.skipped)
  idle answer acked none = quiet c.world.master.outstanding c.world.master.launched acked answer (sym (ap (λ (ids : List Id). without_offers ids c.world.master.outstanding) none ∙ filter-all c.world.master.outstanding))

  torn : Joined (to_answered c index p (plain 202 (torn_down c.world.master)))
  torn = record {
    once = j.once;
    known = λ x. omega (arith, j.known x, brought-append x c.world.waiting []);
    named = j.named;
    live = λ i q o here n h. absurd (omega (arith, h));
    framework = j.framework;
    own = own-append c.world.master.framework c.world.waiting [] j.own tt;
    down = λ e. refl;
    sent = unsent c j index p there (arrival_of index p (plain 202 (torn_down c.world.master))) refl;
    agrees = λ stream e. absurd (cc);
  }

pub carry-joined : (c : Course) (j : Joined c) (index : ℕ) (p : Sent) (there : slice_get c.world.sent index ≡ Some p) → Joined (to_answered c index p (carried_out c.world.master p.call))
carry-joined c j index p there = by p.call p.stream there
  where
    by : (call : Call) (stream : List ℕ) → (slice_get c.world.sent index ≡ Some (record { call = call; stream = stream })) → Joined (to_answered c index (record { call = call; stream = stream }) (carried_out c.world.master call))
    by (of.Accept f body) stream at =
        quiet c j index _ at (without_offers body.offer_ids c.world.master.outstanding) (accepted c.world.master body.offer_ids (launched launched_by body.operations)).master.launched c.world.master.acked
        (accepted c.world.master body.offer_ids (launched launched_by body.operations)) refl
    by (of.Decline f body) stream at =
        quiet c j index _ at (without_offers body.offer_ids c.world.master.outstanding) c.world.master.launched c.world.master.acked (declined c.world.master body.offer_ids) refl
    by (of.Acknowledge f body) stream at = idle c j index _ at (plain 202 (acknowledged c.world.master (key_in body))) (acknowledged c.world.master (key_in body)).acked refl
    by (of.Reconcile f body) stream at =
        settle c j index _ at (arrival_of index (record { call = of.Reconcile f body; stream = stream }) (reconciled c.world.master body.tasks)) refl c.world.master.outstanding c.world.master.launched c.world.master.acked
        (c.world.waiting ++ map reconciled_event (asked_for c.world.master.latest body.tasks)) c.world.skipped (sym (filter-all c.world.master.outstanding))
        (λ x. omega (arith, brought-append x c.world.waiting (map reconciled_event (asked_for c.world.master.latest body.tasks)), brought-reported x (asked_for c.world.master.latest body.tasks)))
        (own-append c.world.master.framework c.world.waiting _ j.own (own-reported c.world.master.framework (asked_for c.world.master.latest body.tasks)))
        (ap (λ (t : Held). t.hand) (fold-more (λ (s : Held) (e : Event). after s (Heard e)) c.world.session c.world.waiting (map reconciled_event (asked_for c.world.master.latest body.tasks)))
        ∙ hears-reported (hears c.world.session c.world.waiting) (asked_for c.world.master.latest body.tasks))
    by (of.Teardown f) stream at = torn c j index _ at
    by (of.Subscribe f body) stream at = idle c j index _ at (plain 202 c.world.master) c.world.master.acked refl
    by (of.Revive f) stream at = idle c j index _ at (plain 202 c.world.master) c.world.master.acked refl
    by (of.Kill f body) stream at = idle c j index _ at (plain 202 c.world.master) c.world.master.acked refl
    by (of.Suppress f) stream at = idle c j index _ at (plain 202 c.world.master) c.world.master.acked refl
    by (of.Shutdown f body) stream at = idle c j index _ at (plain 202 c.world.master) c.world.master.acked refl
    by (of.Message f body) stream at = idle c j index _ at (plain 202 c.world.master) c.world.master.acked refl

-- ---- `Joined` after the stream is disconnected and the session subscribes

pub resubscribe-joined : (c : Course) → Joined c → (uuid : List ℕ) (uuids : List (List ℕ)) → c.world.master.down ≡ false → Joined (to_resubscribed c (subscribed c.world.master (uuid ∷ uuids)))
resubscribe-joined c j uuid uuids up = record {
  once = j.once;
  known = λ x. omega (arith, j.known x, count-filter x (λ (o : Offer). not true) c.world.session.hand);
  named = j.named;
  live = λ i q o here n h. absurd (omega (arith, h));
  framework = j.framework;
  own = (λ other e. (let f : Some c.world.master.framework ≡ Some other = e in cc), tt);
  down = λ e. apart c.world.master.down e up;
  sent = j.sent;
  agrees = λ stream e. filter-none (filter (λ (o : Offer). not true) c.world.session.hand);
}
