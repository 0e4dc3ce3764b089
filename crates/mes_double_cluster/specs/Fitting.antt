-- The first resource of tasks that does not fit the offers.
use Rattle.std.specs.Prelude.{◌≡◌, ℕ, List, slice_get, Some}
use Rattle.mes_model.specs.Offer.{Offer}
use Rattle.mes_model.specs.Resource.{Resource}
use Rattle.mes_model.specs.TaskInfo.{TaskInfo}
use Rattle.mes_session_fit.specs.Fits.{IsFirstBreach}

-- the resource is at index `at` of the task at index `task`, and is the first that does not fit
pub record IsFirstUnfitting (offers : List Offer) (tasks : List TaskInfo) (resource : Resource) : Type 0 where
  pub task : ℕ
  pub at : ℕ
  pub info : TaskInfo
  pub task_at : slice_get tasks task ≡ Some info
  pub resource_at : slice_get info.resources at ≡ Some resource
  pub first : IsFirstBreach offers tasks task at
