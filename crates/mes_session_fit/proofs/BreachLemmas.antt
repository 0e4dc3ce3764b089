-- The steps of the search for the first breach.
use Rattle.std.proofs.Common.{◌≡◌, ℕ, ◌+◌, ◌≤◌, ◌<◌, Bool, true, false, ◌||◌, ◌⊎◌, inl, inr, ◌↔◌, IsTrue, Some, List, ◌++◌, length, take, drop, get_or, slice_get, min, refl, sym, ◌∙◌, ap, subst, arith}
use Rattle.std.specs.List.{list_any}
use Rattle.std.proofs.Math.Seq.{take-length}
use Rattle.std.proofs.lemmas.Grind.{flat_map-append}
use Rattle.std.proofs.lemmas.List.Folds.{list_any-append}
use Rattle.std.proofs.lemmas.Option.{slice_get_within}
use Rattle.mes_model.specs.Resource.{Resource}
use Rattle.mes_model.specs.Offer.{Offer}
use Rattle.mes_model.specs.TaskInfo.{TaskInfo}
use Rattle.mes_session_fit.specs.Keys.{key_of, is_of}
use Rattle.mes_session_fit.specs.Fits.{Piece, piece_in, amount, has_piece, offered, asked, Fits, BreaksAt, NoneAhead, NoneBefore}
use Rattle.mes_session_fit.specs.Launched.{launched, place, as_index}
use Rattle.mes_session_fit.specs.Looking.{Meets, Lacks}
use Rattle.mes_session_fit.proofs.FitsLemmas.{or-left, breaks-over, breaks-lost, breaks-following, key-ahead, own-offered, breaks-not, fits-none}
use Rattle.mes_session_fit.proofs.LaunchedLemmas.{take-place, drop-place}
use Rattle.mes_session_fit.proofs.ListLemmas.{get-at}

-- ---- the tasks before and after a task: in other groups, and in its own group

or-skip : (a b : Bool) → a ≡ false → (a || b) ≡ b
or-skip a b e = rw e refl

pub asked-parts : (test : Resource → Bool) (ts us : List TaskInfo) → list_any test (asked (ts ++ us)) ≡ (list_any test (asked ts) || list_any test (asked us))
asked-parts test ts us = ap (list_any test) (flat_map-append (λ (t : TaskInfo). t.resources) ts us) ∙ list_any-append test (asked ts) (asked us)

module _ {G : Type 0} (of : G → List TaskInfo) (os : List G) (at : ℕ) (o : G) (within : at < length os) (is : o ≡ get_or os at o) (t : ℕ) (tasks : List TaskInfo) (are : tasks ≡ of o) (inside : t < length (of o)) where
  before-parts : (test : Resource → Bool) → list_any test (asked (take (place of os at t) (launched of os))) ≡ (list_any test (asked (launched of (take at os))) || list_any test (asked (take t tasks)))
  before-parts test =
      ap (λ (ts : List TaskInfo). list_any test (asked ts)) (take-place of os at o within is t (omega arith))
      ∙ asked-parts test (launched of (take at os)) (take t (of o))
      ∙ ap (λ (ts : List TaskInfo). list_any test (asked (launched of (take at os))) || list_any test (asked (take t ts))) (sym are)

  pub before-first : (test : Resource → Bool) → list_any test (asked (launched of (take at os))) ≡ true → list_any test (asked (take (place of os at t) (launched of os))) ≡ true
  before-first test e = before-parts test ∙ or-left _ _ e

  pub before-second : (test : Resource → Bool) → list_any test (asked (launched of (take at os))) ≡ false → list_any test (asked (take (place of os at t) (launched of os))) ≡ list_any test (asked (take t tasks))
  before-second test e = before-parts test ∙ or-skip _ _ e

  pub following-parts : (test : Resource → Bool) → list_any test (asked (drop (place of os at t + 1) (launched of os))) ≡ (list_any test (asked (drop (t + 1) tasks)) || list_any test (asked (launched of (drop (at + 1) os))))
  following-parts test =
      ap (λ (ts : List TaskInfo). list_any test (asked ts)) (drop-place of os at o within is t inside)
      ∙ asked-parts test (drop (t + 1) (of o)) (launched of (drop (at + 1) os))
      ∙ ap (λ (ts : List TaskInfo). list_any test (asked (drop (t + 1) ts)) || list_any test (asked (launched of (drop (at + 1) os)))) (sym are)

module _ {X : Type 0} (p q r s : X → Bool) (parts : (x : X) → s x ≡ (q x || r x)) where
  pub meets-first : (b : Bool) → b ≡ true → Meets p q b → Meets p s b
  meets-first true e m = (m.0, m.1, parts m.0 ∙ or-left _ _ m.2)
  meets-first false e m = absurd (cc)

  pub meets-second : (b : Bool) → b ≡ false → Meets p q b → (c : Bool) → Meets p r c → Meets p s c
  meets-second true e m c n = absurd (cc)
  meets-second false e m true n = (n.0, n.1, parts n.0 ∙ ap (λ (b : Bool). b || r n.0) (m n.0 n.1) ∙ n.2)
  meets-second false e m false n = λ x has. parts x ∙ ap (λ (b : Bool). b || r x) (m x has) ∙ n x has

-- ---- one resource, from the results of the three checks

module _ (offers : List Offer) (tasks : List TaskInfo) (i j : ℕ) (t : TaskInfo) (r : Resource) (rs : List Resource) (are : rs ≡ t.resources) (within : j < length t.resources) (is : r ≡ get_or rs j r)
    (is_task : slice_get tasks i ≡ Some t) (ahead : NoneAhead offers tasks i j) where
  is_resource : slice_get t.resources j ≡ Some r
  is_resource = get-at t.resources j r within (is ∙ ap (λ (qs : List Resource). get_or qs j r) are)

  pub known : (p : Piece) → has_piece (key_of r) p (take j rs) ≡ true → has_piece (key_of r) p (offered offers) ≡ true
  known p e = own-offered offers tasks i j t r is_task is_resource ahead p (ap (λ (qs : List Resource). has_piece (key_of r) p (take j qs)) (sym are) ∙ e)

  pub over : amount (key_of r) (offered offers) < amount (key_of r) (asked tasks) → BreaksAt offers tasks i j
  over h = breaks-over offers tasks i j t r is_task is_resource h

  pub lacking : (b : Bool) → b ≡ true → Lacks (λ p. piece_in p r.value) (λ p. has_piece (key_of r) p (offered offers)) b → BreaksAt offers tasks i j
  lacking true e l = breaks-lost offers tasks i j t r is_task is_resource l.0 l.1 l.2
  lacking false e l = absurd (cc)

  enough : (list_any (is_of (key_of r)) (asked (take i tasks) ++ take j rs) ≡ true) ⊎ (amount (key_of r) (asked tasks) ≤ amount (key_of r) (offered offers)) → amount (key_of r) (asked tasks) ≤ amount (key_of r) (offered offers)
  enough (inl e) = key-ahead offers tasks i j t r is_task is_resource ahead (ap (λ (qs : List Resource). list_any (is_of (key_of r)) (asked (take i tasks) ++ take j qs)) (sym are) ∙ e)
  enough (inr h) = h

  pub answered : (list_any (is_of (key_of r)) (asked (take i tasks) ++ take j rs) ≡ true) ⊎ (amount (key_of r) (asked tasks) ≤ amount (key_of r) (offered offers))
      → (b : Bool) → b ≡ false → Lacks (λ p. piece_in p r.value) (λ p. has_piece (key_of r) p (offered offers)) b
      → (c : Bool) → Meets (λ p. piece_in p r.value) (λ p. has_piece (key_of r) p (asked (drop (i + 1) tasks))) c
      → IsTrue c ↔ BreaksAt offers tasks i j
  answered amounts true e l c m = absurd (cc)
  answered amounts false e l true m = (λ _. breaks-following offers tasks i j t r is_task is_resource m.0 m.1 m.2, λ _. refl)
  answered amounts false e l false m = (λ f. absurd (cc), λ b. absurd (breaks-not offers tasks i j t r is_task is_resource ahead (enough amounts) l m b))

-- ---- all resources of a task, all tasks of a group, all groups

pub ahead-of : (offers : List Offer) (tasks : List TaskInfo) (i j : ℕ) → NoneBefore offers tasks i → ((l : ℕ) → l < j → BreaksAt offers tasks i l → ⊥) → NoneAhead offers tasks i j
ahead-of offers tasks i j before here k l (inl less) b = before k l less b
ahead-of offers tasks i j before here k l (inr same) b = here l same.1 (subst (λ (n : ℕ). BreaksAt offers tasks n l) same.0 b)

breach-inside : (offers : List Offer) (tasks : List TaskInfo) (i l : ℕ) (t : TaskInfo) → slice_get tasks i ≡ Some t → BreaksAt offers tasks i l → l < length t.resources
breach-inside offers tasks i l t is b =
    let same : b.task ≡ t = (let e : Some b.task ≡ Some t = sym b.task_at ∙ is in cc) in
    subst (λ (s : TaskInfo). l < length s.resources) same (slice_get_within b.task.resources l b.resource b.resource_at)

last-or-before : (k i : ℕ) → k < i + 1 → (k ≡ i) ⊎ (k < i)
last-or-before k i h = grind arith

pub task-none : (offers : List Offer) (tasks : List TaskInfo) (i : ℕ) (t : TaskInfo) → slice_get tasks i ≡ Some t → NoneBefore offers tasks i
    → ((l : ℕ) → l < length t.resources → BreaksAt offers tasks i l → ⊥) → NoneBefore offers tasks (i + 1)
task-none offers tasks i t is before here k l h b = elim (last-or-before k i h) [
  | inl last ↦ (let at : BreaksAt offers tasks i l = subst (λ (n : ℕ). BreaksAt offers tasks n l) last b in here l (breach-inside offers tasks i l t is at) at)
  | inr less ↦ before k l less b
]

pub none-at : (offers : List Offer) (tasks : List TaskInfo) (i j : ℕ) → i ≡ j → NoneBefore offers tasks i → NoneBefore offers tasks j
none-at offers tasks i j e none = subst (NoneBefore offers tasks) e none

pub all-none : {G : Type 0} (offers : List Offer) (of : G → List TaskInfo) (os : List G) → NoneBefore offers (launched of os) (place of os (length os) 0) → Fits offers (launched of os)
all-none {G = G} offers of os none =
    let all : place of os (length os) 0 ≡ length (launched of os) = ap (λ (ps : List G). length (launched of ps) + 0) (take-length os) ∙ omega arith in
    fits-none offers (launched of os) (λ i j b. none i j (omega (arith, slice_get_within (launched of os) i b.task b.task_at, all)) b)

pub counted : (m n k : ℕ) → m ≡ as_index n → min (m + k) 18446744073709551615 ≡ as_index (n + k)
counted m n k e = omega arith

pub place-next : {G : Type 0} (of : G → List TaskInfo) (os : List G) (at t : ℕ) → place of os at t + 1 ≡ place of os at (t + 1)
place-next of os at t = omega arith
