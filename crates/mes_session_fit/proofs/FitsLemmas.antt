-- Lemmas about tasks that fit their offers, and about the first resource that does not fit.
use Rattle.std.proofs.Common.{◌≡◌, ℕ, ◌+◌, ◌≤◌, ◌<◌, Bool, true, false, ◌&&◌, ◌||◌, not, ◌⊎◌, inl, inr, Some, List, [], ◌∷◌, ◌++◌, take, drop, slice_get, refl, sym, ◌∙◌, ap, subst, arith}
use Rattle.std.specs.List.{list_any}
use Rattle.std.specs.List.Sorted.{IsPermutation}
use Rattle.std.proofs.lemmas.Grind.{flat_map-append}
use Rattle.std.proofs.lemmas.List.Folds.{list_any-append}
use Rattle.std.proofs.lemmas.Bool.Decides.{leb_tells}
use Rattle.std.proofs.lemmas.List.Sums.{sum_by-cons}
use Rattle.std.proofs.lemmas.List.Sorted.{list_any-IsPermutation, sum_by-IsPermutation}
use Rattle.mes_model.specs.Resource.{Resource}
use Rattle.mes_model.specs.Offer.{Offer}
use Rattle.mes_model.specs.TaskInfo.{TaskInfo}
use Rattle.mes_model.specs.ResourceValue.{ResourceValue}
use Rattle.mes_model.specs.ResourceValue.TheVariants.{Scalar, Ranges, Set}
use Rattle.mes_session_fit.specs.Keys.{Key, scalar, type_of, key_of, is_of}
use Rattle.mes_session_fit.specs.Fits.{Piece, piece_in, amount_of, amount, piece_of, has_piece, offered, asked, others, is_free, thousandths_in, Fits, Breaks, BreaksAt, ComesBefore, NoneAhead, IsFirstBreach}
use Rattle.mes_session_fit.proofs.KeyLemmas.{keys_agree-Decides}
use Rattle.mes_session_fit.proofs.ListLemmas.{or-cases, any-flat_map, sum-flat_map, Found, any-found, any-at, get-take, get-drop}

-- ---- `&&`, `||` and `not`

pub and-both : (a b : Bool) → (a && b) ≡ true → (a ≡ true) × (b ≡ true)
and-both true true e = (refl, refl)
and-both true false e = absurd (cc)
and-both false b e = absurd (cc)

pub and-true : (a b : Bool) → a ≡ true → b ≡ true → (a && b) ≡ true
and-true a b e f = rw (e, f) refl

pub either : (b : Bool) → (b ≡ true) ⊎ (b ≡ false)
either true = inl refl
either false = inr refl

pub or-left : (a b : Bool) → a ≡ true → (a || b) ≡ true
or-left a b e = rw e refl

pub or-right : (a b : Bool) → b ≡ true → (a || b) ≡ true
or-right true b e = refl
or-right false b e = e

pub or-none : (a b : Bool) → a ≡ false → b ≡ false → (a || b) ≡ false
or-none a b e f = rw (e, f) refl

pub not-free : (a b : Bool) → b ≡ true → (a && not b) ≡ false
not-free true b e = rw e refl
not-free false b e = refl

pub not-offered : (a b : Bool) → a ≡ false → (a && not b) ≡ false
not-offered a b e = rw e refl

pub free : (a b : Bool) → a ≡ true → b ≡ false → (a && not b) ≡ true
free a b e f = rw (e, f) refl

-- ---- the key of a resource

pub of-own : (r : Resource) → is_of (key_of r) r ≡ true
of-own r = (keys_agree-Decides (key_of r) (key_of r)).1 refl

pub of-key : (k : Key) (r : Resource) → is_of k r ≡ true → k ≡ key_of r
of-key k r e = (keys_agree-Decides k (key_of r)).0 e

pub own-piece : (p : Piece) (r : Resource) → piece_in p r.value ≡ true → piece_of (key_of r) p r ≡ true
own-piece p r e = and-true _ _ (of-own r) e

-- ---- the task and the index of a resource that passes a test

pub record FoundIn (test : Resource → Bool) (tasks : List TaskInfo) : Type 0 where
  pub task : ℕ
  pub index : ℕ
  pub info : TaskInfo
  pub resource : Resource
  pub is_task : slice_get tasks task ≡ Some info
  pub is_resource : slice_get info.resources index ≡ Some resource
  pub passes : test resource ≡ true

pub found-asked : (test : Resource → Bool) (tasks : List TaskInfo) → list_any test (asked tasks) ≡ true → FoundIn test tasks
found-asked test tasks e =
    let at : Found (λ (t : TaskInfo). list_any test t.resources) tasks = any-found _ tasks (sym (any-flat_map test (λ t. t.resources) tasks) ∙ e) in
    let within : Found test at.value.resources = any-found test at.value.resources at.passes in
    record { task = at.index; index = within.index; info = at.value; resource = within.value; is_task = at.is; is_resource = within.is; passes = within.passes }

pub asked-at : (test : Resource → Bool) (tasks : List TaskInfo) (i j : ℕ) (t : TaskInfo) (r : Resource) → slice_get tasks i ≡ Some t → slice_get t.resources j ≡ Some r → test r ≡ true → list_any test (asked tasks) ≡ true
asked-at test tasks i j t r e f passes =
    any-flat_map test (λ t. t.resources) tasks ∙ any-at (λ (t : TaskInfo). list_any test t.resources) tasks i t e (any-at test t.resources j r f passes)

-- ---- a key without resources, or with another type than SCALAR, has the amount 0

pub some-of : (k : Key) (rs : List Resource) → 0 < amount k rs → list_any (is_of k) rs ≡ true
some-of k [] h = absurd (omega arith)
some-of k (r ∷ rs) h = elim (either (is_of k r)) [
  | inl holds ↦ or-left _ _ holds
  | inr fails ↦ (
      let none : amount_of k r ≡ 0 = rw fails refl in
      let all : amount k (r ∷ rs) ≡ amount_of k r + amount k rs = sum_by-cons (amount_of k) r rs in
      or-right _ _ (some-of k rs (omega (arith, none, all))))
]

pub none-of : (k : Key) (rs : List Resource) → list_any (is_of k) rs ≡ false → amount k rs ≡ 0
none-of k rs e = elim (leb_tells (amount k rs) 0) [
  | inl none ↦ omega (arith, none.1)
  | inr some ↦ (let has : list_any (is_of k) rs ≡ true = some-of k rs (omega (arith, some.1)) in absurd (cc))
]

no-thousandths : (v : ResourceValue) → (type_of v ≡ scalar → ⊥) → thousandths_in v ≡ 0
no-thousandths (Scalar n) none = absurd (none refl)
no-thousandths (Ranges g) none = refl
no-thousandths (Set n) none = refl

pub no-amount : (r : Resource) → (type_of r.value ≡ scalar → ⊥) → (rs : List Resource) → amount (key_of r) rs ≡ 0
no-amount r none [] = refl
no-amount r none (q ∷ rs) =
    let here : amount_of (key_of r) q ≡ 0 = elim (either (is_of (key_of r) q)) [
      | inl holds ↦ (let same : type_of r.value ≡ type_of q.value = ap (λ (k : Key). k.kind) (of-key (key_of r) q holds) in rw holds (no-thousandths q.value (λ e. none (same ∙ e))))
      | inr fails ↦ rw fails refl
    ] in
    sum_by-cons (amount_of (key_of r)) q rs ∙ omega (arith, here, no-amount r none rs)

-- ---- tasks fit if and only if each of their resources fits

pub no-breach : (offers : List Offer) (tasks : List TaskInfo) → Fits offers tasks → (i j : ℕ) → BreaksAt offers tasks i j → ⊥
no-breach offers tasks f i j b = elim b.breaks [
  | inl over ↦ (let within : amount (key_of b.resource) (asked tasks) ≤ amount (key_of b.resource) (offered offers) = f.amounts (key_of b.resource) in omega arith)
  | inr lost ↦ (
      let has : has_piece (key_of b.resource) lost.0 b.task.resources ≡ true = any-at (piece_of (key_of b.resource) lost.0) b.task.resources j b.resource b.resource_at (own-piece lost.0 b.resource lost.1) in
      let holds : is_free (key_of b.resource) lost.0 offers (others i tasks) ≡ true = f.pieces i b.task b.task_at (key_of b.resource) lost.0 has in
      let fails : is_free (key_of b.resource) lost.0 offers (others i tasks) ≡ false = lost.2 in
      cc)
]

module _ (offers : List Offer) (tasks : List TaskInfo) (none : (i j : ℕ) → BreaksAt offers tasks i j → ⊥) where
  enough : (k : Key) → (amount k (asked tasks) ≤ amount k (offered offers)) ⊎ (amount k (offered offers) < amount k (asked tasks)) → amount k (asked tasks) ≤ amount k (offered offers)
  enough k (inl h) = h
  enough k (inr h) =
      let at : FoundIn (is_of k) tasks = found-asked (is_of k) tasks (some-of k (asked tasks) (omega arith)) in
      let over : amount (key_of at.resource) (offered offers) < amount (key_of at.resource) (asked tasks) = subst (λ (k : Key). amount k (offered offers) < amount k (asked tasks)) (of-key k at.resource at.passes) h in
      absurd (none at.task at.index (record { task = at.info; resource = at.resource; task_at = at.is_task; resource_at = at.is_resource; breaks = inl over }))

  all-free : (i : ℕ) (t : TaskInfo) → slice_get tasks i ≡ Some t → (k : Key) (p : Piece) → has_piece k p t.resources ≡ true → (is_free k p offers (others i tasks) ≡ true) ⊎ (is_free k p offers (others i tasks) ≡ false) → is_free k p offers (others i tasks) ≡ true
  all-free i t e k p has (inl holds) = holds
  all-free i t e k p has (inr fails) =
      let at : Found (piece_of k p) t.resources = any-found (piece_of k p) t.resources has in
      let parts : (is_of k at.value ≡ true) × (piece_in p at.value.value ≡ true) = and-both _ _ at.passes in
      let lost : is_free (key_of at.value) p offers (others i tasks) ≡ false = subst (λ (k : Key). is_free k p offers (others i tasks) ≡ false) (of-key k at.value parts.0) fails in
      absurd (none i at.index (record { task = t; resource = at.value; task_at = e; resource_at = at.is; breaks = inr (p, parts.1, lost) }))

le-or-lt : (a b : ℕ) → (a ≤ b) ⊎ (b < a)
le-or-lt a b = elim (leb_tells a b) [
  | inl at_most ↦ inl at_most.1
  | inr above ↦ inr above.1
]

pub fits-none : (offers : List Offer) (tasks : List TaskInfo) → ((i j : ℕ) → BreaksAt offers tasks i j → ⊥) → Fits offers tasks
fits-none offers tasks none = record {
  amounts = λ k. enough offers tasks none k (le-or-lt _ _);
  pieces = λ i t e k p has. all-free offers tasks none i t e k p has (either _);
}

-- ---- the order of the offers does not matter

pub fits-order : (offers ones : List Offer) (tasks : List TaskInfo) → IsPermutation offers ones → Fits offers tasks → Fits ones tasks
fits-order offers ones tasks moved f =
    let same_amount : (k : Key) → amount k (offered ones) ≡ amount k (offered offers) =
    λ k. sum-flat_map (amount_of k) (λ o. o.resources) ones ∙ sum_by-IsPermutation (λ (o : Offer). amount k o.resources) offers ones moved ∙ sym (sum-flat_map (amount_of k) (λ o. o.resources) offers) in
    let same_pieces : (k : Key) (p : Piece) → has_piece k p (offered offers) ≡ has_piece k p (offered ones) =
    λ k p. any-flat_map (piece_of k p) (λ o. o.resources) offers ∙ list_any-IsPermutation (λ (o : Offer). has_piece k p o.resources) offers ones moved ∙ sym (any-flat_map (piece_of k p) (λ o. o.resources) ones) in
    record {
      amounts = λ k. rw (same_amount k) (f.amounts k);
      pieces = λ i t e k p has. subst (λ (b : Bool). (b && not (has_piece k p (asked (others i tasks)))) ≡ true) (same_pieces k p) (f.pieces i t e k p has);
    }

-- ---- at most one resource is the first that does not fit

order-cases : (i j k l : ℕ) → ComesBefore i j k l ⊎ (ComesBefore k l i j ⊎ ((i ≡ k) × (j ≡ l)))
order-cases i j k l = elim (le-or-lt k i) [
  | inr less ↦ inl (inl less)
  | inl fails ↦ elim (le-or-lt i k) [
    | inr more ↦ inr (inl (inl more))
    | inl same ↦ (let e : i ≡ k = omega arith in elim (le-or-lt l j) [
      | inr less ↦ inl (inr (e, less))
      | inl no_less ↦ elim (le-or-lt j l) [
        | inr more ↦ inr (inl (inr (sym e, more)))
        | inl alike ↦ inr (inr (e, omega arith))
      ]
    ])
  ]
]

pub one-first : (offers : List Offer) (tasks : List TaskInfo) (i j k l : ℕ) → IsFirstBreach offers tasks i j → IsFirstBreach offers tasks k l → (i ≡ k) × (j ≡ l)
one-first offers tasks i j k l f g = elim (order-cases i j k l) [
  | inl before ↦ absurd (g.first i j before f.breach)
  | inr (inl following) ↦ absurd (f.first k l following g.breach)
  | inr (inr same) ↦ same
]

-- ---- the other tasks are the tasks before and after index i

others-parts : (test : Resource → Bool) (i : ℕ) (tasks : List TaskInfo) → list_any test (asked (others i tasks)) ≡ (list_any test (asked (take i tasks)) || list_any test (asked (drop (i + 1) tasks)))
others-parts test i tasks =
    ap (list_any test) (flat_map-append (λ (t : TaskInfo). t.resources) (take i tasks) (drop (i + 1) tasks))
    ∙ list_any-append test (asked (take i tasks)) (asked (drop (i + 1) tasks))

-- ---- when a resource does not fit, if all earlier resources fit

module _ (offers : List Offer) (tasks : List TaskInfo) (i j : ℕ) (t : TaskInfo) (r : Resource) (is_task : slice_get tasks i ≡ Some t) (is_resource : slice_get t.resources j ≡ Some r) where
  abbrev at : Breaks offers tasks (others i tasks) r → BreaksAt offers tasks i j
  at b = record { task = t; resource = r; task_at = is_task; resource_at = is_resource; breaks = b }

  pub breaks-over : amount (key_of r) (offered offers) < amount (key_of r) (asked tasks) → BreaksAt offers tasks i j
  breaks-over h = at (inl h)

  pub breaks-lost : (p : Piece) → piece_in p r.value ≡ true → has_piece (key_of r) p (offered offers) ≡ false → BreaksAt offers tasks i j
  breaks-lost p e none = at (inr (p, e, not-offered _ _ none))

  pub breaks-following : (p : Piece) → piece_in p r.value ≡ true → has_piece (key_of r) p (asked (drop (i + 1) tasks)) ≡ true → BreaksAt offers tasks i j
  breaks-following p e taken =
      let all : has_piece (key_of r) p (asked (others i tasks)) ≡ true = others-parts (piece_of (key_of r) p) i tasks ∙ or-right _ _ taken in
      at (inr (p, e, not-free _ _ all))

module _ (offers : List Offer) (tasks : List TaskInfo) (i j : ℕ) (t : TaskInfo) (r : Resource) (is_task : slice_get tasks i ≡ Some t) (is_resource : slice_get t.resources j ≡ Some r) (ahead : NoneAhead offers tasks i j) where
  within-ahead : (k : Key) → k ≡ key_of r → (m l : ℕ) (s : TaskInfo) (q : Resource) → ComesBefore m l i j → slice_get tasks m ≡ Some s → slice_get s.resources l ≡ Some q → k ≡ key_of q
      → (amount k (asked tasks) ≤ amount k (offered offers)) ⊎ (amount k (offered offers) < amount k (asked tasks)) → amount (key_of r) (asked tasks) ≤ amount (key_of r) (offered offers)
  within-ahead k own m l s q before e f same (inl h) = subst (λ (k : Key). amount k (asked tasks) ≤ amount k (offered offers)) own h
  within-ahead k own m l s q before e f same (inr h) =
      let over : amount (key_of q) (offered offers) < amount (key_of q) (asked tasks) = subst (λ (k : Key). amount k (offered offers) < amount k (asked tasks)) same h in
      absurd (ahead m l before (record { task = s; resource = q; task_at = e; resource_at = f; breaks = inl over }))

  pub key-ahead : list_any (is_of (key_of r)) (asked (take i tasks) ++ take j t.resources) ≡ true → amount (key_of r) (asked tasks) ≤ amount (key_of r) (offered offers)
  key-ahead e = elim (or-cases _ _ (sym (list_any-append (is_of (key_of r)) (asked (take i tasks)) (take j t.resources)) ∙ e)) [
    | inl front ↦ (
        let f : FoundIn (is_of (key_of r)) (take i tasks) = found-asked (is_of (key_of r)) (take i tasks) front in
        let there : (f.task < i) × (slice_get tasks f.task ≡ Some f.info) = get-take tasks i f.task f.info f.is_task in
        within-ahead (key_of r) refl f.task f.index f.info f.resource (inl there.0) there.1 f.is_resource (of-key (key_of r) f.resource f.passes) (le-or-lt _ _))
    | inr own ↦ (
        let f : Found (is_of (key_of r)) (take j t.resources) = any-found (is_of (key_of r)) (take j t.resources) own in
        let there : (f.index < j) × (slice_get t.resources f.index ≡ Some f.value) = get-take t.resources j f.index f.value f.is in
        within-ahead (key_of r) refl i f.index t f.value (inr (refl, there.0)) is_task there.1 (of-key (key_of r) f.value f.passes) (le-or-lt _ _))
  ]

  pub own-offered : (p : Piece) → has_piece (key_of r) p (take j t.resources) ≡ true → has_piece (key_of r) p (offered offers) ≡ true
  own-offered p e = elim (either (has_piece (key_of r) p (offered offers))) [
    | inl holds ↦ holds
    | inr fails ↦ (
        let f : Found (piece_of (key_of r) p) (take j t.resources) = any-found (piece_of (key_of r) p) (take j t.resources) e in
        let parts : (is_of (key_of r) f.value ≡ true) × (piece_in p f.value.value ≡ true) = and-both _ _ f.passes in
        let there : (f.index < j) × (slice_get t.resources f.index ≡ Some f.value) = get-take t.resources j f.index f.value f.is in
        let lost : has_piece (key_of f.value) p (offered offers) ≡ false = subst (λ (k : Key). has_piece k p (offered offers) ≡ false) (of-key (key_of r) f.value parts.0) fails in
        absurd (ahead i f.index (inr (refl, there.0)) (breaks-lost offers tasks i f.index t f.value is_task there.1 p parts.1 lost)))
  ]

  front-free : (p : Piece) → piece_in p r.value ≡ true → has_piece (key_of r) p (asked (take i tasks)) ≡ false
  front-free p e = elim (either (has_piece (key_of r) p (asked (take i tasks)))) [
    | inr fails ↦ fails
    | inl holds ↦ (
        let f : FoundIn (piece_of (key_of r) p) (take i tasks) = found-asked (piece_of (key_of r) p) (take i tasks) holds in
        let parts : (is_of (key_of r) f.resource ≡ true) × (piece_in p f.resource.value ≡ true) = and-both _ _ f.passes in
        let there : (f.task < i) × (slice_get tasks f.task ≡ Some f.info) = get-take tasks i f.task f.info f.is_task in
        let following : (m : ℕ) × (slice_get (drop (f.task + 1) tasks) m ≡ Some t) = get-drop tasks (f.task + 1) i t (omega (arith, there.0)) is_task in
        let taken : has_piece (key_of r) p (asked (drop (f.task + 1) tasks)) ≡ true = asked-at (piece_of (key_of r) p) (drop (f.task + 1) tasks) following.0 j t r following.1 is_resource (own-piece p r e) in
        let again : has_piece (key_of f.resource) p (asked (drop (f.task + 1) tasks)) ≡ true = subst (λ (k : Key). has_piece k p (asked (drop (f.task + 1) tasks)) ≡ true) (of-key (key_of r) f.resource parts.0) taken in
        absurd (ahead f.task f.index (inl there.0) (breaks-following offers tasks f.task f.index f.info f.resource there.1 f.is_resource p parts.1 again)))
  ]

  fits-here : amount (key_of r) (asked tasks) ≤ amount (key_of r) (offered offers)
      → ((p : Piece) → piece_in p r.value ≡ true → has_piece (key_of r) p (offered offers) ≡ true)
      → ((p : Piece) → piece_in p r.value ≡ true → has_piece (key_of r) p (asked (drop (i + 1) tasks)) ≡ false)
      → Breaks offers tasks (others i tasks) r → ⊥
  fits-here within has following (inl over) = absurd (omega arith)
  fits-here within has following (inr lost) =
      let rest : has_piece (key_of r) lost.0 (asked (others i tasks)) ≡ false = others-parts (piece_of (key_of r) lost.0) i tasks ∙ or-none _ _ (front-free lost.0 lost.1) (following lost.0 lost.1) in
      let holds : is_free (key_of r) lost.0 offers (others i tasks) ≡ true = free _ _ (has lost.0 lost.1) rest in
      let fails : is_free (key_of r) lost.0 offers (others i tasks) ≡ false = lost.2 in
      cc

  pub breaks-not : amount (key_of r) (asked tasks) ≤ amount (key_of r) (offered offers)
      → ((p : Piece) → piece_in p r.value ≡ true → has_piece (key_of r) p (offered offers) ≡ true)
      → ((p : Piece) → piece_in p r.value ≡ true → has_piece (key_of r) p (asked (drop (i + 1) tasks)) ≡ false)
      → BreaksAt offers tasks i j → ⊥
  breaks-not within has following b =
      let one : b.task ≡ t = (let e : Some b.task ≡ Some t = sym b.task_at ∙ is_task in cc) in
      let resource_at : slice_get t.resources j ≡ Some b.resource = subst (λ (s : TaskInfo). slice_get s.resources j ≡ Some b.resource) one b.resource_at in
      let same : b.resource ≡ r = (let e : Some b.resource ≡ Some r = sym resource_at ∙ is_resource in cc) in
      fits-here within has following (subst (λ (q : Resource). Breaks offers tasks (others i tasks) q) same b.breaks)
