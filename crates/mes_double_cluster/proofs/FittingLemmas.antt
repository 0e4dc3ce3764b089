-- A lemma about the first resource that does not fit.
use Rattle.std.proofs.Common.{◌≡◌, ℕ, zero, suc, ◌<◌, ◌^◌, List, [], ◌∷◌, ◌++◌, Some, length, get_or, slice_get, sym, ap, subst, ◌∙◌, arith, append-nil}
use Rattle.mes_model.specs.Offer.{Offer}
use Rattle.mes_model.specs.Resource.{Resource}
use Rattle.mes_model.specs.TaskInfo.{TaskInfo}
use Rattle.mes_session_fit.specs.Fits.{BreaksAt, IsFirstBreach}
use Rattle.mes_session_fit.specs.Launched.{as_index}
use Rattle.mes_session_fit.proofs.ListLemmas.{get-at}
use Rattle.mes_double_cluster.specs.Fitting.{IsFirstUnfitting}

module _ {X : Type 0} where
  within : (xs : List X) (i : ℕ) (x : X) → slice_get xs i ≡ Some x → i < length xs
  within [] i x e = absurd (cc)
  within (y ∷ ys) zero x e = omega arith
  within (y ∷ ys) (suc i) x e = omega (arith, within ys i x e)

  the_same : (x y : X) → Some x ≡ Some y → x ≡ y
  the_same x y e = cc

pub first_unfitting : (offers : List Offer) (tasks : List TaskInfo) → length tasks < 2 ^ 64 → (task index at : ℕ) → index ≡ as_index task → IsFirstBreach offers (tasks ++ []) task at
    → (info : TaskInfo) → info ≡ get_or tasks index info → (resource : Resource) → resource ≡ get_or info.resources at resource → IsFirstUnfitting offers tasks resource
first_unfitting offers tasks short task index at saturated first info info_is resource resource_is =
    let here : IsFirstBreach offers tasks task at = subst (λ (ts : List TaskInfo). IsFirstBreach offers ts task at) (append-nil tasks) first in
    let breach : BreaksAt offers tasks task at = here.breach in
    let inside : task < length tasks = within tasks task breach.task breach.task_at in
    let index_is : index ≡ task = omega (arith, saturated, inside, short) in
    let task_at : slice_get tasks task ≡ Some info = get-at tasks task info inside (info_is ∙ ap (λ i. get_or tasks i info) index_is) in
    let same : breach.task ≡ info = the_same breach.task info (sym breach.task_at ∙ task_at) in
    let inside_it : at < length info.resources = within info.resources at breach.resource (ap (λ (t : TaskInfo). slice_get t.resources at) (sym same) ∙ breach.resource_at) in
    record {
      task = task;
      at = at;
      info = info;
      task_at = task_at;
      resource_at = get-at info.resources at resource inside_it resource_is;
      first = here;
    }
