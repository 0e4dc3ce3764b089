-- What the steps of a run report of each task.
use Rattle.std.specs.Prelude.{ℕ, fold, if◌then◌else◌, List, [], ◌∷◌, ◌++◌, filter, map, slice_get, slice_set, not, Option, None, Some}
use Rattle.mes_model.specs.TaskInfo.{TaskInfo}
use Rattle.mes_model.specs.TaskStatus.{TaskStatus}
use Rattle.mes_model_task.specs.declared.task_state.TaskState.{TaskState}
use Rattle.mes_msg.specs.Event.{Event}
use Rattle.mes_msg.specs.Event.TheVariants.{Update}
use Rattle.mes_double_cluster.specs.Stock.{same_id}
use Rattle.mes_double_cluster.specs.Tasks as task
use Rattle.mes_double_cluster.specs.TaskProgress.{is_last, is_over}
use Rattle.mes_double_cluster.specs.declared.task.Task.{Task}
use Rattle.mes_double_live.specs.Steps.{Step}
use Rattle.mes_double_live.specs.Steps.Step.{relays, reports, launches, acknowledges, kills}

-- a task, and the states that were reported of it so far
pub record Reported : Type 0 where
  pub task : Task
  pub told : List TaskState

abbrev pub with_task : (Task → Task) → Reported → Reported
with_task change r = record r { task = change r.task }

abbrev pub new_task : ℕ → TaskInfo → Reported
new_task launch info = record { task = task.launched launch info; told = [] }

-- after the status was reported in the update with this number
abbrev pub told : ℕ → Option ℕ → TaskStatus → Reported → Reported
told update finishes status r = record { task = task.reported status.state update finishes r.task; told = r.told ++ status.state ∷ [] }

abbrev pub told_of : ℕ → ℕ → Option ℕ → TaskStatus → List Reported → Option Reported → List Reported
told_of index update finishes status all None = all
told_of index update finishes status all (Some r) = slice_set all index (told update finishes status r)

-- after an UPDATE from outside, the tasks whose last state it reports are forgotten
abbrev pub not_overtaken : Event → List Reported → List Reported
not_overtaken (Update body) all = if is_last body.status.state then filter (λ (r : Reported). not (same_id r.task.id body.status.task_id)) all else all
not_overtaken event all = all

-- all tasks after one more step
abbrev pub after_step : List Reported → Step → List Reported
after_step all (relays now event) = not_overtaken event all
after_step all (reports now index update finishes status) = told_of index update finishes status all (slice_get all index)
after_step all (launches launch tasks) = all ++ map (new_task launch) tasks
after_step all (acknowledges body) = filter (λ (r : Reported). not (is_over r.task.progress)) (map (with_task (task.acknowledged body)) all)
after_step all (kills id) = map (with_task (task.killed id)) all
after_step all _ = all

-- the tasks after these steps of a new test master, each with the states that were reported of it
abbrev pub reported : List Step → List Reported
reported steps = fold after_step [] steps
