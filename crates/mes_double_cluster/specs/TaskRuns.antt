-- Any sequence of reports, acknowledgements and KILLs of one task.
use Rattle.std.specs.Prelude.{ℕ, fold, List, [], ◌∷◌, ◌++◌, Option, Some, None}
use Rattle.mes_model_task.specs.declared.task_state.TaskState.{TaskState}
use Rattle.mes_model_task.specs.declared.task_state.TaskState.TheVariants as task
use Rattle.mes_double_cluster.specs.declared.progress.Progress.{Progress}
use Rattle.mes_double_cluster.specs.TaskProgress.{staging, due, reported, acknowledged, killed}

pub data TaskDeed : Type 0 where
  -- the state that is due at the time `now`, if one is, is reported in the update `update`; a task
  -- that runs from then on finishes at the time `finishes`
  reports : (now update : ℕ) (finishes : Option ℕ) → TaskDeed
  acknowledges : TaskDeed
  kills : TaskDeed

-- a task, and the states that were reported of it so far
pub record TaskPast : Type 0 where
  pub progress : Progress
  pub told : List TaskState

abbrev pub after_report : TaskPast → ℕ → Option ℕ → Option TaskState → TaskPast
after_report past update finishes None = past
after_report past update finishes (Some state) = record {
  progress = reported state update finishes past.progress;
  told = past.told ++ state ∷ [];
}

abbrev pub after : TaskPast → TaskDeed → TaskPast
after past (reports now update finishes) = after_report past update finishes (due now past.progress)
after past acknowledges = record past { progress = acknowledged past.progress }
after past kills = record past { progress = killed past.progress }

-- a task that was launched, after these deeds
abbrev pub past_of : List TaskDeed → TaskPast
past_of deeds = fold after (record { progress = staging; told = [] }) deeds

-- the states that are reported of a task until it is in this one: STARTING, RUNNING, and KILLED or
-- FINISHED
abbrev pub told_until : TaskState → List TaskState
told_until task.Starting = task.Starting ∷ []
told_until task.Running = task.Starting ∷ task.Running ∷ []
told_until task.Killed = task.Starting ∷ task.Running ∷ task.Killed ∷ []
told_until task.Finished = task.Starting ∷ task.Running ∷ task.Finished ∷ []
told_until _ = []
