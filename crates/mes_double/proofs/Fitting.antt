-- On every course, the tasks that an arrival launched fit the offers that the arrival took, and are of
-- their agent.
use Rattle.std.proofs.Common.{◌≡◌, ℕ, ◌+◌, ◌≤◌, Bool, true, false, ◌||◌, not, if◌then◌else◌, ◌⊎◌, inl, inr, filter, map, slice_get, List, [], ◌∷◌, ◌++◌, Some, None, refl, sym, ap, subst, ◌∙◌, arith}
use Rattle.std.specs.List.{list_all}
use Rattle.std.specs.List.Sorted.{IsPermutation}
use Rattle.std.specs.Str.{bytes_eq}
use Rattle.std.proofs.lemmas.Grind.{flat_map-append}
use Rattle.std.proofs.lemmas.Slice.Eq.{bytes_eq-Decides}
use Rattle.mes_model.specs.Id.{Id}
use Rattle.mes_model.specs.Offer.{Offer}
use Rattle.mes_model.specs.TaskInfo.{TaskInfo}
use Rattle.mes_model.specs.TaskStatus.{TaskStatus}
use Rattle.mes_msg.specs.Event.{Event}
use Rattle.mes_msg.specs.Event.TheVariants as event
use Rattle.mes_msg.specs.Call.{Call}
use Rattle.mes_msg.specs.Call.TheVariants as of
use Rattle.mes_msg.specs.Accept.{Accept}
use Rattle.mes_msg.specs.declared.entry.Entry.TheVariants.{Heard, Said}
use Rattle.mes_session_fit.specs.Fits.{Fits}
use Rattle.mes_session_fit.specs.Launched.{launched, launched_by}
use Rattle.mes_session_fit.proofs.FitsLemmas.{fits-none}
use Rattle.mes_session_state.specs.declared.refusal.Refusal.TheVariants.{NamedTwice, TwoAgents, WrongAgent, Exceeds}
use Rattle.mes_session_state.specs.Held.{Held, name_of, names, with_offers, without_offer}
use Rattle.mes_session_state.specs.Calls.{named_by, accepted_by, tasks_of}
use Rattle.mes_session_state.specs.Refusals.{Answers, is_duplicated, offers_named}
use Rattle.mes_session.specs.History.{offers_of, takes_offer}
use Rattle.mes_double_master.specs.Agents.{are_there}
use Rattle.mes_double_master.specs.Masters.{MasterState, MasterAnswer, plain, subscribed, accepted, reconciled_event, update_event, asked_for, is_there, all_there, carried_out, handled, launchable, new_tasks}
use Rattle.mes_double_master.specs.Sending.{offer_ids, is_duplicate, made}
use Rattle.mes_double_master.proofs.AgainLemmas.{IsOpen, carried}
use Rattle.mes_double_master.proofs.FitLemmas.{fits-nothing, fits-ran}
use Rattle.mes_double_master.proofs.RunLemmas.{times}
use Rattle.mes_double.specs.declared.moves.Move.{Move}
use Rattle.mes_double.specs.declared.sent.Sent.{Sent}
use Rattle.mes_double.specs.Courses.{Arrival, Course, begun, Leads, IsCourse}
use Rattle.mes_double.specs.Promises.{WhatRanFits, WhatRanIsThere}
use Rattle.mes_double.proofs.ListLemmas.{front-or-last}
use Rattle.mes_double.proofs.CountLemmas.{count, count-filter, count-with, names-alike, new-apart}
use Rattle.mes_double.proofs.HandLemmas.{brought}
use Rattle.mes_double.proofs.AlikeLemmas.{AllSame, same-append, same-front, same-back, same-filter, same-with, same-each, still-same, new-same, more-same, AreOf, named-are, taken-are}
use Rattle.mes_double.proofs.AgentLemmas.{all-there, not-so, there-new, there-order}
use Rattle.mes_double.proofs.WishLemmas.{named-found}
use Rattle.mes_double.proofs.Joined.{Joined}
use Rattle.mes_double.proofs.JoinedRuns.{joined-turn, joined-begun}
use Rattle.mes_double.proofs.RanLemmas.{Counted, counted-turn, counted-begun}
use Rattle.mes_double.proofs.TurnLemmas.{Turn, turn, to_sent, to_heard, to_wished, arrival_of, to_answered}
use Rattle.mes_double.proofs.TurnLemmas.Turn.{skips, offers, rescinds, reports, tells_owing, resends, hears, wishes, refuses, opens, carries, resubscribes}

-- tasks fit offers, and are of their agent
abbrev pub Suits : List Offer → List TaskInfo → Type 0
Suits made tasks = Fits made tasks × (are_there made tasks ≡ true)

suits-nothing : (os : List Offer) → Suits os []
suits-nothing os = (fits-nothing os, refl)

-- the offers that a call accepted when it was sent, and which its tasks fit; those that are still
-- outstanding have the same value
pub record Given (out : List Offer) (p : Sent) : Type 0 where
  pub list : List Offer
  pub are : AreOf (accepted_by p.call) list
  pub same : AllSame out list
  pub distinct : is_duplicated (accepted_by p.call) ≡ false
  pub fits : Suits list (tasks_of p.call)

pub record Fitted (c : Course) : Type 0 where
  pub hand : AllSame c.world.master.outstanding c.world.session.hand
  pub waiting : AllSame c.world.master.outstanding (brought c.world.waiting)
  pub given : (i : ℕ) (p : Sent) → slice_get c.world.sent i ≡ Some p → Given c.world.master.outstanding p
  pub fits : (i : ℕ) (a : Arrival) → slice_get c.arrivals i ≡ Some a → Suits a.took a.ran

-- ---- `Given` after the outstanding offers change

name-alike : (n : List ℕ) (a b : Offer) → name_of a ≡ name_of b → not (bytes_eq n (name_of a)) ≡ not (bytes_eq n (name_of b))
name-alike n a b e = ap (λ (m : List ℕ). not (bytes_eq n m)) e

others-alike : (ids : List Id) (a b : Offer) → name_of a ≡ name_of b → not (names ids a) ≡ not (names ids b)
others-alike ids a b e = ap not (names-alike ids a b e)

fewer : (q : Offer → Bool) → ((a b : Offer) → name_of a ≡ name_of b → q a ≡ q b) → (out xs : List Offer) → AllSame out xs → AllSame (filter q out) xs
fewer q alike out xs a =
    same-each out (filter q out) xs (λ x h s. still-same q alike out x (λ k. omega (arith, k, count-filter (name_of x) q out)) s) a

none-same : (xs : List Offer) → AllSame [] xs
none-same [] = tt
none-same (x ∷ xs) = (λ h. absurd (omega (arith, h)), none-same xs)

change : (out other : List Offer) (p : Sent) → ((xs : List Offer) → AreOf (accepted_by p.call) xs → AllSame out xs → AllSame other xs) → Given out p → Given other p
change out other p f g = record { list = g.list; are = g.are; same = f g.list g.are g.same; distinct = g.distinct; fits = g.fits }

-- ---- the offers in queued events

wait : (out : List Offer) (front events : List Event) → AllSame out (brought front) → AllSame out (brought events) → AllSame out (brought (front ++ events))
wait out front events a b =
    subst (AllSame out) (sym (flat_map-append (λ (e : Event). offers_of (Heard e)) front events)) (same-append out (brought front) (brought events) a b)

told-same : (out : List Offer) (statuses : List TaskStatus) → AllSame out (brought (map reconciled_event statuses))
told-same out [] = tt
told-same out (status ∷ statuses) = told-same out statuses

-- ---- the offers that a call accepts

accepted-named : (call : Call) (o : Offer) → names (accepted_by call) o ≡ true → names (named_by call) o ≡ true
accepted-named (of.Accept f body) o e = e
accepted-named (of.Decline f body) o e = absurd (cc)
accepted-named (of.Subscribe f body) o e = absurd (cc)
accepted-named (of.Revive f) o e = absurd (cc)
accepted-named (of.Kill f body) o e = absurd (cc)
accepted-named (of.Acknowledge f body) o e = absurd (cc)
accepted-named (of.Reconcile f body) o e = absurd (cc)
accepted-named (of.Teardown f) o e = absurd (cc)
accepted-named (of.Suppress f) o e = absurd (cc)
accepted-named (of.Shutdown f body) o e = absurd (cc)
accepted-named (of.Message f body) o e = absurd (cc)

-- a call accepts all offers that it names, or none
accepts-all : (call : Call) → (accepted_by call ≡ named_by call) ⊎ (accepted_by call ≡ [])
accepts-all (of.Accept f body) = inl refl
accepts-all (of.Decline f body) = inr refl
accepts-all (of.Subscribe f body) = inl refl
accepts-all (of.Revive f) = inl refl
accepts-all (of.Kill f body) = inl refl
accepts-all (of.Acknowledge f body) = inl refl
accepts-all (of.Reconcile f body) = inl refl
accepts-all (of.Teardown f) = inl refl
accepts-all (of.Suppress f) = inl refl
accepts-all (of.Shutdown f body) = inl refl
accepts-all (of.Message f body) = inl refl

accepted-at : (call : Call) (i : ℕ) (d : Id) → slice_get (accepted_by call) i ≡ Some d → slice_get (named_by call) i ≡ Some d
accepted-at call i d e = elim (accepts-all call) [
  | inl f ↦ ap (λ (l : List Id). slice_get l i) (sym f) ∙ e
  | inr f ↦ absurd (let g : None ≡ Some d = ap (λ (l : List Id). slice_get l i) (sym f) ∙ e in cc)
]

accepted-once : (s : Held) (call : Call) → Answers s call None → is_duplicated (accepted_by call) ≡ false
accepted-once s call said = elim (accepts-all call) [
  | inl f ↦ ap is_duplicated f ∙ by (is_duplicated (named_by call)) refl
  | inr f ↦ ap is_duplicated f
]
  where
    by : (b : Bool) → is_duplicated (named_by call) ≡ b → is_duplicated (named_by call) ≡ false
    by false e = e
    by true e = absurd (said NamedTwice (inl e))

are-named : (ids : List Id) (xs : List Offer) (x : Offer) → AreOf ids xs → 1 ≤ count (name_of x) xs → names ids x ≡ true
are-named [] [] x a h = absurd (omega (arith, h))
are-named [] (y ∷ ys) x a h = absurd a
are-named (d ∷ ds) [] x a h = absurd a
are-named (d ∷ ds) (y ∷ ys) x a h = by (bytes_eq (name_of x) (name_of y)) refl (are-named ds ys x a.1)
  where
    or-last : (b c : Bool) → c ≡ true → (b || c) ≡ true
    or-last true c e = refl
    or-last false c e = e

    by : (b : Bool) → bytes_eq (name_of x) (name_of y) ≡ b → (1 ≤ count (name_of x) ys → names ds x ≡ true) → names (d ∷ ds) x ≡ true
    by true e rest =
        let same : d.value ≡ name_of x = sym a.0 ∙ sym ((bytes_eq-Decides (name_of x) (name_of y)).0 e) in
        ap (λ (b : Bool). b || names ds x) ((bytes_eq-Decides d.value (name_of x)).1 same)
    by false e rest = or-last (bytes_eq d.value (name_of x)) (names ds x) (rest (let g : 1 ≤ 0 + count (name_of x) ys = rw e at h in omega (arith, g)))

module _ (c : Course) (j : Joined c) (k : Counted c) (t : Fitted c) where
  -- ---- `Fitted` after the master makes offers

  module _ (list : List Offer) (none : is_duplicate c.world.master.offered (offer_ids list) ≡ false) where
    -- the offers made before have other identifiers than the new ones
    more : (xs : List Offer) → ((x : Offer) → 1 ≤ count (name_of x) xs → 1 ≤ times (name_of x) c.world.master.offered) → AllSame c.world.master.outstanding xs
        → AllSame (with_offers c.world.master.outstanding list) xs
    more xs old a =
        same-each c.world.master.outstanding (with_offers c.world.master.outstanding list) xs
        (λ x h s.
        let new : count (name_of x) list ≡ 0 = omega (arith, old x h, new-apart c.world.master.offered list j.once none (name_of x)) in
        more-same c.world.master.outstanding list x new (λ m. omega (arith, m, new, count-with (name_of x) c.world.master.outstanding list)) s) a

    offers-fit : Fitted (to_sent c (made c.world.master list).1 (event.Offers list))
    offers-fit = record {
      hand = more c.world.session.hand (λ x h. omega (arith, h, j.known (name_of x))) t.hand;
      waiting = wait (with_offers c.world.master.outstanding list) c.world.waiting (event.Offers list ∷ [])
          (more (brought c.world.waiting) (λ x h. omega (arith, h, j.known (name_of x))) t.waiting)
          (same-append (with_offers c.world.master.outstanding list) list []
          (new-same c.world.master.outstanding list (λ x. omega (arith, new-apart c.world.master.offered list j.once none x))) tt);
      given = λ i p there. change c.world.master.outstanding (with_offers c.world.master.outstanding list) p
          (λ xs are a. more xs (λ x h. j.named i p x there (accepted-named p.call x (are-named (accepted_by p.call) xs x are h))) a) (t.given i p there);
      fits = t.fits;
    }

  -- ---- `Fitted` after a call is sent

  wish-fit : (call : Call) (stream : List ℕ) → Answers c.world.session call None → Fitted (to_wished c call stream)
  wish-fit call stream said = record {
    hand = same-filter c.world.master.outstanding (λ (o : Offer). not (takes_offer (name_of o) (Said call))) c.world.session.hand t.hand;
    waiting = t.waiting;
    given = λ i p there. elim (front-or-last c.world.sent (record { call = call; stream = stream }) i p there) [
      | inl e ↦ t.given i p e
      | inr e ↦ subst (Given c.world.master.outstanding) e.1
          (let named : AreOf (accepted_by call) (offers_named c.world.session.hand (accepted_by call)) × AllSame c.world.master.outstanding (offers_named c.world.session.hand (accepted_by call)) =
          named-are c.world.master.outstanding c.world.session.hand t.hand (accepted_by call) (λ n d at. named-found c.world.session call said n d (accepted-at call n d at)) in
          record {
            list = offers_named c.world.session.hand (accepted_by call);
            are = named.0;
            same = named.1;
            distinct = accepted-once c.world.session call said;
            fits = (
              fits-none (offers_named c.world.session.hand (accepted_by call)) (tasks_of call) (λ n m breach. said (Exceeds n m) breach),
              all-there (offers_named c.world.session.hand (accepted_by call)) (tasks_of call) (not-so _ (λ two. said TwoAgents two))
                  (λ n task at elsewhere. said (WrongAgent n) (task, at, elsewhere)),
            );
          })
    ];
    fits = t.fits;
  }

  -- ---- `Fitted` after an event is received

  hear-fit : (e : Event) (events : List Event) → c.world.waiting ≡ e ∷ events → Fitted (to_heard c e events)
  hear-fit e events w =
      let all : AllSame c.world.master.outstanding (offers_of (Heard e) ++ brought events) = subst (λ (l : List Event). AllSame c.world.master.outstanding (brought l)) w t.waiting in
      record {
        hand = same-with c.world.master.outstanding (filter (λ (o : Offer). not (takes_offer (name_of o) (Heard e))) c.world.session.hand) (offers_of (Heard e))
            (same-filter c.world.master.outstanding (λ (o : Offer). not (takes_offer (name_of o) (Heard e))) c.world.session.hand t.hand)
            (same-front c.world.master.outstanding (offers_of (Heard e)) (brought events) all);
        waiting = same-back c.world.master.outstanding (offers_of (Heard e)) (brought events) all;
        given = t.given;
        fits = t.fits;
      }

  -- ---- `Fitted` after the master receives a call

  module _ (index : ℕ) (p : Sent) (there : slice_get c.world.sent index ≡ Some p) where
    fits-more : (a : Arrival) → Suits a.took a.ran → (i : ℕ) (b : Arrival) → slice_get (c.arrivals ++ a ∷ []) i ≡ Some b → Suits b.took b.ran
    fits-more a f i b e = elim (front-or-last c.arrivals a i b e) [
      | inl g ↦ t.fits i b g
      | inr g ↦ subst (λ (x : Arrival). Suits x.took x.ran) g.1 f
    ]

    leave : (a : MasterAnswer) (q : Offer → Bool) → ((x y : Offer) → name_of x ≡ name_of y → q x ≡ q y) → a.master.outstanding ≡ filter q c.world.master.outstanding
        → ((out : List Offer) → AllSame out (brought a.events)) → Suits a.took a.ran → Fitted (to_answered c index p a)
    leave a q alike left idle f = record {
      hand = subst (λ (l : List Offer). AllSame l c.world.session.hand) (sym left) (fewer q alike c.world.master.outstanding c.world.session.hand t.hand);
      waiting = wait a.master.outstanding c.world.waiting a.events
          (subst (λ (l : List Offer). AllSame l (brought c.world.waiting)) (sym left) (fewer q alike c.world.master.outstanding (brought c.world.waiting) t.waiting)) (idle a.master.outstanding);
      given = λ i q2 at. change c.world.master.outstanding a.master.outstanding q2
          (λ xs are s. subst (λ (l : List Offer). AllSame l xs) (sym left) (fewer q alike c.world.master.outstanding xs s)) (t.given i q2 at);
      fits = fits-more (arrival_of index p a) f;
    }

    stay : (a : MasterAnswer) → a.master.outstanding ≡ c.world.master.outstanding → ((out : List Offer) → AllSame out (brought a.events)) → Suits a.took a.ran → Fitted (to_answered c index p a)
    stay a same idle f = record {
      hand = subst (λ (l : List Offer). AllSame l c.world.session.hand) (sym same) t.hand;
      waiting = wait a.master.outstanding c.world.waiting a.events (subst (λ (l : List Offer). AllSame l (brought c.world.waiting)) (sym same) t.waiting) (idle a.master.outstanding);
      given = λ i q at. change c.world.master.outstanding a.master.outstanding q (λ xs are s. subst (λ (l : List Offer). AllSame l xs) (sym same) s) (t.given i q at);
      fits = fits-more (arrival_of index p a) f;
    }

    clear : (a : MasterAnswer) → a.master.outstanding ≡ [] → ((out : List Offer) → AllSame out (brought a.events)) → Suits a.took a.ran → Fitted (to_answered c index p a)
    clear a none idle f = record {
      hand = subst (λ (l : List Offer). AllSame l c.world.session.hand) (sym none) (none-same c.world.session.hand);
      waiting = wait a.master.outstanding c.world.waiting a.events (subst (λ (l : List Offer). AllSame l (brought c.world.waiting)) (sym none) (none-same (brought c.world.waiting))) (idle a.master.outstanding);
      given = λ i q at. change c.world.master.outstanding a.master.outstanding q (λ xs are s. subst (λ (l : List Offer). AllSame l xs) (sym none) (none-same xs)) (t.given i q at);
      fits = fits-more (arrival_of index p a) f;
    }

    refuse-fit : (status : ℕ) → Fitted (record c { world = record c.world { skipped = c.world.skipped + 1 }; arrivals = c.arrivals ++ arrival_of index p (plain status c.world.master) ∷ [] })
    refuse-fit status = record { hand = t.hand; waiting = t.waiting; given = t.given; fits = fits-more (arrival_of index p (plain status c.world.master)) (suits-nothing []) }

-- the tasks that an ACCEPT launches fit the offers that it takes
module _ (c : Course) (k : Counted c) (t : Fitted c) (index : ℕ) (framework : Id) (body : Accept) (stream : List ℕ)
    (there : slice_get c.world.sent index ≡ Some (record { call = of.Accept framework body; stream = stream }))
    (o : IsOpen c.world.master (of.Accept framework body) (Some stream)) where
  ran-fits : Suits (accepted c.world.master body.offer_ids (launched launched_by body.operations)).took (accepted c.world.master body.offer_ids (launched launched_by body.operations)).ran
  ran-fits = by (all_there c.world.master.outstanding body.offer_ids) refl
    where
      listed : (ids : List Id) → all_there c.world.master.outstanding ids ≡ true → list_all (is_there c.world.master.outstanding) ids ≡ true
      listed [] e = refl
      listed (d ∷ ds) e = e

      by : (b : Bool) → all_there c.world.master.outstanding body.offer_ids ≡ b
          → Suits (accepted c.world.master body.offer_ids (launched launched_by body.operations)).took (accepted c.world.master body.offer_ids (launched launched_by body.operations)).ran
      by false f = rw f (suits-nothing _)
      by true f =
          let given : Given c.world.master.outstanding (record { call = of.Accept framework body; stream = stream }) = t.given index (record { call = of.Accept framework body; stream = stream }) there in
          let moved : IsPermutation given.list (filter (names body.offer_ids) c.world.master.outstanding) =
          taken-are body.offer_ids given.list c.world.master.outstanding (λ n. omega (arith, k.took n, k.once n)) given.are given.same (listed body.offer_ids f) given.distinct in
          let is : handled c.world.master (of.Accept framework body) (Some stream) ≡ accepted c.world.master body.offer_ids (launched launched_by body.operations) = carried c.world.master (of.Accept framework body) (Some stream) o in
          let fits = fits-ran c.world.master (of.Accept framework body) (Some stream) given.list (subst (λ (a : MasterAnswer). IsPermutation given.list a.took) (sym is) moved) given.fits.0 in
          let ran : launchable c.world.master body.offer_ids (launched launched_by body.operations) ≡ new_tasks c.world.master.launched (launched launched_by body.operations) =
          ap (λ (b : Bool). if b then new_tasks c.world.master.launched (launched launched_by body.operations) else []) f in
          let there = there-new (filter (names body.offer_ids) c.world.master.outstanding) c.world.master.launched (launched launched_by body.operations)
          (there-order given.list (filter (names body.offer_ids) c.world.master.outstanding) (launched launched_by body.operations) moved given.fits.1) in
          (subst (λ (a : MasterAnswer). Fits a.took a.ran) is fits, ap (are_there (filter (names body.offer_ids) c.world.master.outstanding)) ran ∙ there)

carry-fit : (c : Course) → Joined c → Counted c → Fitted c → (index : ℕ) (p : Sent) → slice_get c.world.sent index ≡ Some p → IsOpen c.world.master p.call (Some p.stream)
    → Fitted (to_answered c index p (carried_out c.world.master p.call))
carry-fit c j k t index p there o = by p.call p.stream there o
  where
    by : (call : Call) (stream : List ℕ) → (slice_get c.world.sent index ≡ Some (record { call = call; stream = stream })) → IsOpen c.world.master call (Some stream)
        → Fitted (to_answered c index (record { call = call; stream = stream }) (carried_out c.world.master call))
    by (of.Accept f body) stream at o = leave c j k t index _ at _ (λ (x : Offer). not (names body.offer_ids x)) (others-alike body.offer_ids) refl (λ out. tt) (ran-fits c k t index f body stream at o)
    by (of.Decline f body) stream at o = leave c j k t index _ at _ (λ (x : Offer). not (names body.offer_ids x)) (others-alike body.offer_ids) refl (λ out. tt) (suits-nothing _)
    by (of.Acknowledge f body) stream at o = stay c j k t index _ at _ refl (λ out. tt) (suits-nothing _)
    by (of.Reconcile f body) stream at o = stay c j k t index _ at _ refl (λ out. told-same out (asked_for c.world.master.latest body.tasks)) (suits-nothing _)
    by (of.Teardown f) stream at o = clear c j k t index _ at _ refl (λ out. tt) (suits-nothing _)
    by (of.Subscribe f body) stream at o = stay c j k t index _ at _ refl (λ out. tt) (suits-nothing _)
    by (of.Revive f) stream at o = stay c j k t index _ at _ refl (λ out. tt) (suits-nothing _)
    by (of.Kill f body) stream at o = stay c j k t index _ at _ refl (λ out. tt) (suits-nothing _)
    by (of.Suppress f) stream at o = stay c j k t index _ at _ refl (λ out. tt) (suits-nothing _)
    by (of.Shutdown f body) stream at o = stay c j k t index _ at _ refl (λ out. tt) (suits-nothing _)
    by (of.Message f body) stream at o = stay c j k t index _ at _ refl (λ out. tt) (suits-nothing _)

-- ---- `Fitted` after each move

told-fit : (c : Course) (t : Fitted c) (m : MasterState) (status : TaskStatus) → m.outstanding ≡ c.world.master.outstanding → Fitted (to_sent c m (update_event status))
told-fit c t m status same = record {
  hand = subst (λ (l : List Offer). AllSame l c.world.session.hand) (sym same) t.hand;
  waiting = wait m.outstanding c.world.waiting (update_event status ∷ []) (subst (λ (l : List Offer). AllSame l (brought c.world.waiting)) (sym same) t.waiting) tt;
  given = λ i p at. change c.world.master.outstanding m.outstanding p (λ xs are s. subst (λ (l : List Offer). AllSame l xs) (sym same) s) (t.given i p at);
  fits = t.fits;
}

rescind-fit : (c : Course) (t : Fitted c) (id : Id) → Fitted (to_sent c (record c.world.master { outstanding = without_offer id.value c.world.master.outstanding }) (event.Rescind (record { offer_id = id })))
rescind-fit c t id = record {
  hand = fewer (λ (o : Offer). not (bytes_eq id.value (name_of o))) (name-alike id.value) c.world.master.outstanding c.world.session.hand t.hand;
  waiting = wait (without_offer id.value c.world.master.outstanding) c.world.waiting (event.Rescind (record { offer_id = id }) ∷ [])
      (fewer (λ (o : Offer). not (bytes_eq id.value (name_of o))) (name-alike id.value) c.world.master.outstanding (brought c.world.waiting) t.waiting) tt;
  given = λ i p at. change c.world.master.outstanding (without_offer id.value c.world.master.outstanding) p
      (λ xs are s. fewer (λ (o : Offer). not (bytes_eq id.value (name_of o))) (name-alike id.value) c.world.master.outstanding xs s) (t.given i p at);
  fits = t.fits;
}

fitted-turn : (c d : Course) → Turn c d → Joined c → Counted c → Fitted c → Fitted d
fitted-turn c d (skips e) j k t = subst Fitted (sym e) (record { hand = t.hand; waiting = t.waiting; given = t.given; fits = t.fits })
fitted-turn c d (offers list none e) j k t = subst Fitted (sym e) (offers-fit c j k t list none)
fitted-turn c d (rescinds id e) j k t = subst Fitted (sym e) (rescind-fit c t id)
fitted-turn c d (reports status none e) j k t = subst Fitted (sym e) (told-fit c t _ status refl)
fitted-turn c d (tells_owing status key some e) j k t = subst Fitted (sym e) (told-fit c t _ status refl)
fitted-turn c d (resends index x there e) j k t = subst Fitted (sym e) (told-fit c t _ x.1 refl)
fitted-turn c d (hears x events w e) j k t = subst Fitted (sym e) (hear-fit c j k t x events w)
fitted-turn c d (wishes call stream current said e) j k t = subst Fitted (sym e) (wish-fit c j k t call stream said)
fitted-turn c d (refuses index p status there none is e) j k t = subst Fitted (sym e) (refuse-fit c j k t index p there status)
fitted-turn c d (opens index p uuid uuids there call up e) j k t = subst Fitted (sym e) (clear c j k t index p there (subscribed c.world.master (uuid ∷ uuids)) refl (λ out. tt) (suits-nothing []))
fitted-turn c d (carries index p there o e) j k t = subst Fitted (sym e) (carry-fit c j k t index p there o)
fitted-turn c d (resubscribes uuid uuids up e) j k t =
    subst Fitted (sym e)
    (record {
      hand = none-same _;
      waiting = tt;
      given = λ i p at. change c.world.master.outstanding [] p (λ xs are s. none-same xs) (t.given i p at);
      fits = t.fits;
    })

fitted-leads : (c d : Course) (list : List Move) → Leads c list d → Joined c → Counted c → Fitted c → Fitted d
fitted-leads c d [] e j k t = subst Fitted (sym e) t
fitted-leads c d (move ∷ list) l j k t =
    let u : Turn c l.0 = turn c l.0 move l.1 in
    fitted-leads l.0 d list l.2 (joined-turn c l.0 u j) (counted-turn c l.0 u k) (fitted-turn c l.0 u j k t)

suited : (framework : Id) (ids : List (List ℕ)) (list : List Move) (c : Course) → IsCourse framework ids list c
    → (i : ℕ) (a : Arrival) → slice_get c.arrivals i ≡ Some a → Suits a.took a.ran
suited framework ids list c l =
    (fitted-leads (begun framework ids) c list l (joined-begun framework ids) (counted-begun framework ids)
    (record { hand = tt; waiting = tt; given = λ i p at. absurd (cc); fits = λ i a at. absurd (cc) })).fits

pub what-ran-fits : (framework : Id) (ids : List (List ℕ)) (list : List Move) (c : Course) → IsCourse framework ids list c → WhatRanFits c
what-ran-fits framework ids list c l = λ i a at. (suited framework ids list c l i a at).0

pub what-ran-is-there : (framework : Id) (ids : List (List ℕ)) (list : List Move) (c : Course) → IsCourse framework ids list c → WhatRanIsThere c
what-ran-is-there framework ids list c l = λ i a at. (suited framework ids list c l i a at).1
