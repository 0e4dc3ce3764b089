-- Each call is either allowed or refused by a session: each refusal is decidable.
use Rattle.std.proofs.Common.{◌≡◌, ◌≢◌, ◌⊎◌, inl, inr, ℕ, ◌+◌, ◌<◌, ◌≤◌, Bool, true, false, ◌||◌, nat_le, List, [], ◌∷◌, length, slice_get, Option, Some, None, refl, sym, ap, subst, ◌∙◌, true≢false, arith}
use Rattle.std.specs.Str.{bytes_eq}
use Rattle.std.proofs.lemmas.Bool.{and_parts, leb-true}
use Rattle.std.proofs.lemmas.Option.{slice_get_within}
use Rattle.std.proofs.lemmas.Slice.Eq.{bytes_eq-Decides}
use Rattle.mes_model.specs.Id.{Id}
use Rattle.mes_model.specs.Range.{Range}
use Rattle.mes_model.specs.Resource.{Resource}
use Rattle.mes_model.specs.ResourceValue.{ResourceValue}
use Rattle.mes_model.specs.ResourceValue.TheVariants.{Scalar, Ranges, Set}
use Rattle.mes_model.specs.Offer.{Offer}
use Rattle.mes_model.specs.OwedKey.{OwedKey}
use Rattle.mes_model.specs.TaskInfo.{TaskInfo}
use Rattle.mes_msg.specs.Call.{Call}
use Rattle.mes_msg.specs.Call.TheVariants as of
use Rattle.mes_session_fit.specs.Keys.{key_of}
use Rattle.mes_session_fit.specs.Fits.{Piece, point, item, in_range, in_ranges, in_items, piece_in, amount, offered, asked, others, is_free, Breaks, BreaksAt}
use Rattle.mes_session_state.specs.declared.refusal.Refusal.{Refusal}
use Rattle.mes_session_state.specs.declared.refusal.Refusal.TheVariants.{NotSubscribed, NamedTwice, NoSuchOffer, TwoAgents, WrongAgent, Exceeds, NotOwed}
use Rattle.mes_session_state.specs.Held.{Held, offer_in, is_owed}
use Rattle.mes_session_state.specs.Refusals.{IsOtherFramework, IsOtherSubscription, IsForeign, asked_by, IsFaulty, as_reported, Answers, is_duplicated, ids_of, offers_named, has_two_agents, is_elsewhere}
use Rattle.mes_session_state.proofs.FirstLemmas.{first-1, first-2, first-3, first-4, first-5, first-6, first-7, none-of}
use Rattle.mes_double.proofs.SearchLemmas.{is-true, is-false, is-none, is-less, both, Search, found, nowhere, search, some, search-list}

-- ---- it is decidable whether pieces of a resource's value are not free

abbrev top : List Range → ℕ
top [] = 0
top (g ∷ gs) = g.last + 1 + top gs

below : (x : ℕ) (gs : List Range) → in_ranges x gs ≡ true → x < top gs
below x [] e = absurd (true≢false (sym e))
below x (g ∷ gs) e = by (in_range x g) refl e (below x gs)
  where
    by : (b : Bool) → in_range x g ≡ b → (b || in_ranges x gs) ≡ true → (in_ranges x gs ≡ true → x < top gs) → x < g.last + 1 + top gs
    by true f h rest = let l : x ≤ g.last = leb-true x g.last (and_parts (nat_le g.first x) (nat_le x g.last) f).1 in omega (arith, l)
    by false f h rest = let l : x < top gs = rest h in omega (arith, l)

or-right : (a b : Bool) → b ≡ true → (a || b) ≡ true
or-right true b e = refl
or-right false b e = e

module _ (free : Piece → Bool) where
  abbrev IsPoint : List Range → ℕ → Type 0
  IsPoint gs x = (in_ranges x gs ≡ true) × (free (point x) ≡ false)

  is-point : (gs : List Range) (x : ℕ) → Dec (IsPoint gs x)
  is-point gs x = by (is-true (in_ranges x gs)) (is-false (free (point x)))
    where
      by : Dec (in_ranges x gs ≡ true) → Dec (free (point x) ≡ false) → Dec (IsPoint gs x)
      by (yes e) (yes f) = yes (e, f)
      by (no e) f = no (λ (h : IsPoint gs x). e h.0)
      by (yes e) (no f) = no (λ (h : IsPoint gs x). f h.1)

  points : (gs : List Range) → Dec ((x : ℕ) × (IsPoint gs x))
  points gs = some (IsPoint gs) (is-point gs) (top gs) (λ x h. below x gs h.0)

  items : (ns : List (List ℕ)) → Dec ((n : List ℕ) × (in_items n ns ≡ true) × (free (item n) ≡ false))
  items [] = no (λ h. true≢false (sym h.1))
  items (m ∷ ns) = by (free (item m)) refl (items ns)
    where
      past : (n : List ℕ) → free (item m) ≡ true → free (item n) ≡ false → (b : Bool) → bytes_eq n m ≡ b → (b || in_items n ns) ≡ true → in_items n ns ≡ true
      past n e f true g h = absurd (true≢false (sym e ∙ ap (λ (l : List ℕ). free (item l)) (sym ((bytes_eq-Decides n m).0 g)) ∙ f))
      past n e f false g h = h

      by : (b : Bool) → free (item m) ≡ b → Dec ((n : List ℕ) × (in_items n ns ≡ true) × (free (item n) ≡ false))
          → Dec ((n : List ℕ) × (in_items n (m ∷ ns) ≡ true) × (free (item n) ≡ false))
      by false e rest = yes (m, ap (λ (b : Bool). b || in_items m ns) ((bytes_eq-Decides m m).1 refl), e)
      by true e (yes h) = yes (h.0, or-right (bytes_eq h.0 m) (in_items h.0 ns) h.1, h.2)
      by true e (no none) = no (λ (h : (n : List ℕ) × (in_items n (m ∷ ns) ≡ true) × (free (item n) ≡ false)). none (h.0, past h.0 e h.2 (bytes_eq h.0 m) refl h.1, h.2))

  pieces : (v : ResourceValue) → Dec ((p : Piece) × (piece_in p v ≡ true) × (free p ≡ false))
  pieces (Scalar v) = no by
    where
      by : (p : Piece) × (piece_in p (Scalar v) ≡ true) × (free p ≡ false) → ⊥
      by (point x, e, f) = true≢false (sym e)
      by (item n, e, f) = true≢false (sym e)
  pieces (Ranges v) = by (points v.range)
    where
      none : ((x : ℕ) × (IsPoint v.range x) → ⊥) → (p : Piece) × (piece_in p (Ranges v) ≡ true) × (free p ≡ false) → ⊥
      none f (point x, e, g) = f (x, (e, g))
      none f (item n, e, g) = true≢false (sym e)

      by : Dec ((x : ℕ) × (IsPoint v.range x)) → Dec ((p : Piece) × (piece_in p (Ranges v) ≡ true) × (free p ≡ false))
      by (yes h) = yes (point h.0, h.1.0, h.1.1)
      by (no f) = no (none f)
  pieces (Set v) = by (items v.item)
    where
      none : ((n : List ℕ) × (in_items n v.item ≡ true) × (free (item n) ≡ false) → ⊥) → (p : Piece) × (piece_in p (Set v) ≡ true) × (free p ≡ false) → ⊥
      none f (point x, e, g) = true≢false (sym e)
      none f (item n, e, g) = f (n, e, g)

      by : Dec ((n : List ℕ) × (in_items n v.item ≡ true) × (free (item n) ≡ false)) → Dec ((p : Piece) × (piece_in p (Set v) ≡ true) × (free p ≡ false))
      by (yes h) = yes (item h.0, h.1, h.2)
      by (no f) = no (none f)

-- ---- it is decidable whether a resource of the tasks does not fit the offers

module _ (offers : List Offer) (tasks : List TaskInfo) where
  breaks : (rest : List TaskInfo) (r : Resource) → Dec (Breaks offers tasks rest r)
  breaks rest r =
      both (is-less (amount (key_of r) (offered offers)) (amount (key_of r) (asked tasks))) (pieces (λ p. is_free (key_of r) p offers rest) r.value)

  module _ (i : ℕ) (t : TaskInfo) (e : slice_get tasks i ≡ Some t) where
    abbrev Broken : ℕ → Type 0
    Broken j = (r : Resource) × (slice_get t.resources j ≡ Some r) × Breaks offers tasks (others i tasks) r

    down : (j : ℕ) → BreaksAt offers tasks i j → Broken j
    down j b =
        let f : Some t ≡ Some b.task = sym e ∙ b.task_at in
        let same : b.task ≡ t = cc in
        (b.resource, subst (λ (u : TaskInfo). slice_get u.resources j ≡ Some b.resource) same b.resource_at, b.breaks)

    up : (j : ℕ) → Broken j → BreaksAt offers tasks i j
    up j h = record { task = t; resource = h.0; task_at = e; resource_at = h.1; breaks = h.2 }

    raised : Search Broken → Search (BreaksAt offers tasks i)
    raised (found j h first) = found j (up j h) (λ l m b. first l m (down l b))
    raised (nowhere none) = nowhere (λ j b. none j (down j b))

  of-task : (i : ℕ) → Search (BreaksAt offers tasks i)
  of-task i = by (slice_get tasks i) refl
    where
      by : (o : Option TaskInfo) → slice_get tasks i ≡ o → Search (BreaksAt offers tasks i)
      by None e = nowhere (λ j b. let f : None ≡ Some b.task = sym e ∙ b.task_at in absurd (cc))
      by (Some t) e = raised i t e (search-list (Breaks offers tasks (others i tasks)) (breaks (others i tasks)) t.resources)

  has : (i : ℕ) → Dec ((j : ℕ) × BreaksAt offers tasks i j)
  has i = by (of-task i)
    where
      by : Search (BreaksAt offers tasks i) → Dec ((j : ℕ) × BreaksAt offers tasks i j)
      by (found j b first) = yes (j, b)
      by (nowhere none) = no (λ (h : (j : ℕ) × BreaksAt offers tasks i j). none h.0 h.1)

  pub data Breach : Type 0 where
    breach : (i j : ℕ) → BreaksAt offers tasks i j → ((k l : ℕ) → (k < i) ⊎ ((k ≡ i) × (l < j)) → BreaksAt offers tasks k l → ⊥) → Breach
    unbroken : ((k l : ℕ) → BreaksAt offers tasks k l → ⊥) → Breach

  first-breach : Breach
  first-breach = by (search (λ i. (j : ℕ) × BreaksAt offers tasks i j) has (length tasks) (λ i h. slice_get_within tasks i h.1.task h.1.task_at))
    where
      within : (i : ℕ) → (j : ℕ) × BreaksAt offers tasks i j → ((k : ℕ) → k < i → (l : ℕ) × BreaksAt offers tasks k l → ⊥) → Search (BreaksAt offers tasks i) → Breach
      within i h before (nowhere none) = absurd (none h.0 h.1)
      within i h before (found j b first) = breach i j b ahead
        where
          ahead : (k l : ℕ) → (k < i) ⊎ ((k ≡ i) × (l < j)) → BreaksAt offers tasks k l → ⊥
          ahead k l (inl m) c = before k m (l, c)
          ahead k l (inr m) c = first l m.1 (subst (λ (n : ℕ). BreaksAt offers tasks n l) m.0 c)

      by : Search (λ i. (j : ℕ) × BreaksAt offers tasks i j) → Breach
      by (found i h before) = within i h before (of-task i)
      by (nowhere none) = unbroken (λ k l b. none k (l, b))

-- ---- it is decidable whether a call is of another framework

same-id : (a b : Id) → Dec (a ≡ b)
same-id a b = by (bytes_eq a.value b.value) refl
  where
    by : (t : Bool) → bytes_eq a.value b.value ≡ t → Dec (a ≡ b)
    by true e = yes (λ i. record { value = (bytes_eq-Decides a.value b.value).0 e i })
    by false e = no (λ (same : a ≡ b). true≢false (sym ((bytes_eq-Decides a.value b.value).1 (ap (λ (d : Id). d.value) same)) ∙ e))

differs : (o : Option Id) (framework : Id) → Dec (o ≢ Some framework)
differs None framework = yes (λ (e : None ≡ Some framework). absurd (cc))
differs (Some known) framework = by (same-id known framework)
  where
    by : Dec (known ≡ framework) → Dec (Some known ≢ Some framework)
    by (yes e) = no (λ (f : Some known ≢ Some framework). f (ap (λ (d : Id). Some d) e))
    by (no f) = yes (λ (e : Some known ≡ Some framework). let same : known ≡ framework = cc in f same)

strange : (held : Held) (framework : Id) → Dec (IsOtherFramework held framework)
strange held framework = both (is-false held.connected) (differs held.framework framework)

another : (held : Held) (framework : Option Id) → Dec (IsOtherSubscription held framework)
another held framework = by held.framework framework refl refl
  where
    apart : (known named : Id) → held.framework ≡ Some known → framework ≡ Some named → Dec (named ≡ known) → Dec (IsOtherSubscription held framework)
    apart known named e f (no g) = yes (known, named, e, f, g)
    apart known named e f (yes g) = no (λ (h : IsOtherSubscription held framework).
        let k : Some h.0 ≡ Some known = sym h.2 ∙ e in
        let n : Some h.1 ≡ Some named = sym h.3 ∙ f in
        let same : h.0 ≡ known = cc in
        let as_named : h.1 ≡ named = cc in
        h.4 (as_named ∙ g ∙ sym same))

    by : (o p : Option Id) → held.framework ≡ o → framework ≡ p → Dec (IsOtherSubscription held framework)
    by None p e f = no (λ (h : IsOtherSubscription held framework). let k : Some h.0 ≡ None = sym h.2 ∙ e in absurd (cc))
    by (Some known) None e f = no (λ (h : IsOtherSubscription held framework). let n : Some h.1 ≡ None = sym h.3 ∙ f in absurd (cc))
    by (Some known) (Some named) e f = apart known named e f (same-id named known)

foreign : (held : Held) (call : Call) → Dec (IsForeign held call)
foreign held (of.Subscribe framework body) = another held framework
foreign held (of.Accept framework body) = strange held framework
foreign held (of.Decline framework body) = strange held framework
foreign held (of.Revive framework) = strange held framework
foreign held (of.Kill framework body) = strange held framework
foreign held (of.Acknowledge framework body) = strange held framework
foreign held (of.Reconcile framework body) = strange held framework
foreign held (of.Teardown framework) = strange held framework
foreign held (of.Suppress framework) = strange held framework
foreign held (of.Shutdown framework body) = strange held framework
foreign held (of.Message framework body) = strange held framework

-- ---- it is decidable whether a call acknowledges an update that is not unacknowledged

not-owed : (owed : List OwedKey) (o : Option OwedKey) → Dec ((k : OwedKey) × (o ≡ Some k) × (is_owed k owed ≡ false))
not-owed owed None = no (λ (h : (k : OwedKey) × (None ≡ Some k) × (is_owed k owed ≡ false)). let e : None ≡ Some h.0 = h.1 in absurd (cc))
not-owed owed (Some key) = by (is-false (is_owed key owed))
  where
    by : Dec (is_owed key owed ≡ false) → Dec ((k : OwedKey) × (Some key ≡ Some k) × (is_owed k owed ≡ false))
    by (yes e) = yes (key, refl, e)
    by (no f) = no (λ (h : (k : OwedKey) × (Some key ≡ Some k) × (is_owed k owed ≡ false)).
        let e : Some key ≡ Some h.0 = h.1 in
        let same : h.0 ≡ key = cc in
        f (ap (λ (k : OwedKey). is_owed k owed) (sym same) ∙ h.2))

-- ---- the first refusal that applies, or none

module _ (held : Held) (call : Call) where
  abbrev F : Refusal → Type 0
  F fault = IsFaulty held call fault

  abbrev Answer : Type 0
  Answer = (answer : Option Refusal) × Answers held call answer

  abbrev accepted : List Offer
  accepted = offers_named held.hand (asked_by call).accepted

  module _ (s1 : F NotSubscribed → ⊥) (s2 : F NamedTwice → ⊥) (s3 : (k : ℕ) → F (NoSuchOffer k) → ⊥) (s4 : F TwoAgents → ⊥) (s5 : (k : ℕ) → F (WrongAgent k) → ⊥) where
    seventh : ((k l : ℕ) → F (Exceeds k l) → ⊥) → Dec (F NotOwed) → Answer
    seventh s6 (yes f) = (Some NotOwed, (NotOwed, refl, first-7 F s1 s2 s3 s4 s5 s6 f))
    seventh s6 (no s7) = (None, none-of F s1 s2 s3 s4 s5 s6 s7 (λ f. f))

    sixth : Breach accepted (asked_by call).tasks → Answer
    sixth (breach i j f before) = (Some (as_reported (Exceeds i j)), (Exceeds i j, refl, first-6 F s1 s2 s3 s4 s5 i j f before))
    sixth (unbroken none) = seventh none (not-owed held.owed (asked_by call).acknowledged)

  fifth : (F NotSubscribed → ⊥) → (F NamedTwice → ⊥) → ((k : ℕ) → F (NoSuchOffer k) → ⊥) → (F TwoAgents → ⊥) → Search (λ k. F (WrongAgent k)) → Answer
  fifth s1 s2 s3 s4 (found i f before) = (Some (as_reported (WrongAgent i)), (WrongAgent i, refl, first-5 F s1 s2 s3 s4 i f before))
  fifth s1 s2 s3 s4 (nowhere none) = sixth s1 s2 s3 s4 none (first-breach accepted (asked_by call).tasks)

  fourth : (F NotSubscribed → ⊥) → (F NamedTwice → ⊥) → ((k : ℕ) → F (NoSuchOffer k) → ⊥) → Dec (F TwoAgents) → Answer
  fourth s1 s2 s3 (yes f) = (Some TwoAgents, (TwoAgents, refl, first-4 F s1 s2 s3 f))
  fourth s1 s2 s3 (no s4) = fifth s1 s2 s3 s4 (search-list (λ (t : TaskInfo). is_elsewhere accepted t ≡ true) (λ t. is-true (is_elsewhere accepted t)) (asked_by call).tasks)

  third : (F NotSubscribed → ⊥) → (F NamedTwice → ⊥) → Search (λ k. F (NoSuchOffer k)) → Answer
  third s1 s2 (found i f before) = (Some (NoSuchOffer i), (NoSuchOffer i, refl, first-3 F s1 s2 i f before))
  third s1 s2 (nowhere none) = fourth s1 s2 none (is-true (has_two_agents accepted))

  second : (F NotSubscribed → ⊥) → Dec (F NamedTwice) → Answer
  second s1 (yes f) = (Some NamedTwice, (NamedTwice, refl, first-2 F s1 f))
  second s1 (no s2) = third s1 s2 (search-list (λ (d : Id). offer_in held.hand d.value ≡ None) (λ d. is-none (offer_in held.hand d.value)) (asked_by call).named)

  first : Dec (F NotSubscribed) → Answer
  first (yes f) = (Some NotSubscribed, (NotSubscribed, refl, first-1 F f))
  first (no s1) = second s1 (both (is-true (is_duplicated (asked_by call).named)) (is-true (is_duplicated (ids_of (asked_by call).tasks))))

  pub some-answer : Answer
  some-answer = first (foreign held call)
