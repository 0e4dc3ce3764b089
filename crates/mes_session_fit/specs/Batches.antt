-- Batches of tasks: their points are compared at once with those of all later tasks.
use Rattle.std.specs.Prelude.{◌≡◌, ℕ, ◌≤◌, ◌<◌, Bool, true, false, IsTrue, ◌&&◌, nat_le, List, length, drop, get_or, slice_get, Some}
use Rattle.std.specs.List.{list_any}
use Rattle.mes_model.specs.Resource.{Resource}
use Rattle.mes_model.specs.TaskInfo.{TaskInfo}
use Rattle.mes_session_fit.specs.declared.batch.Ends.{Ends}
use Rattle.mes_session_fit.specs.declared.batch.Batch.{Batch}
use Rattle.mes_session_fit.specs.Fits.{piece_in, asked}
use Rattle.mes_session_fit.specs.Fits.Piece.{point}
use Rattle.mes_session_fit.specs.Launched.{launched, place}

-- number x is between the two ends, both included
abbrev pub is_between : ℕ → Ends → Bool
is_between x e = nat_le e.first x && nat_le x e.last

abbrev pub in_ends : ℕ → List Ends → Bool
in_ends x es = list_any (is_between x) es

-- one of the resources, whatever its key, has the point x
abbrev pub has_point : ℕ → List Resource → Bool
has_point x rs = list_any (λ r. piece_in (point x) r.value) rs

-- no number passes both tests p and q
abbrev pub Apart : (ℕ → Bool) → (ℕ → Bool) → Type 0
Apart p q = (x : ℕ) → p x ≡ true → q x ≡ false

-- no point that passes the test is in a task of group `at` from index `end` on, or in a later group
abbrev pub FreeFrom : {G : Type 0} → (G → List TaskInfo) → List G → ℕ → ℕ → (ℕ → Bool) → Type 0
FreeFrom tasks groups at end p = Apart p (λ x. has_point x (asked (drop (place tasks groups at end) (launched tasks groups))))

-- batch b has tasks of group `at`; if `b.apart` is true, no task after the batch has a point of it
pub record IsBatch {G : Type 0} (tasks : G → List TaskInfo) (groups : List G) (at : ℕ) (b : Batch) : Type 0 where
  pub within : (group : G) → group ≡ get_or groups at group → b.end ≤ length (tasks group)
  pub apart : IsTrue b.apart → (group : G) → group ≡ get_or groups at group → (i : ℕ) (t : TaskInfo) → b.first ≤ i → i < b.end → slice_get (tasks group) i ≡ Some t → FreeFrom tasks groups at b.end (λ x. has_point x t.resources)
