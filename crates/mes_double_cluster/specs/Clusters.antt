-- The cluster of a test master: its offers and tasks after each call of the framework, each report
-- and each event.
use Rattle.std.specs.Prelude.{ℕ, Bool, false, ◌||◌, not, if◌then◌else◌, List, [], ◌++◌, length, map, filter, slice_get, slice_set, find, Option, Some, None, option_map}
use Rattle.std.specs.List.{list_any}
use Rattle.mes_model.specs.Id.{Id}
use Rattle.mes_model.specs.Offer.{Offer}
use Rattle.mes_model.specs.TaskInfo.{TaskInfo}
use Rattle.mes_model.specs.TaskStatus.{TaskStatus}
use Rattle.mes_model_task.specs.declared.task_state.TaskState.{TaskState}
use Rattle.mes_msg.specs.Acknowledge.{Acknowledge}
use Rattle.mes_double_cluster.specs.declared.stocked_offer.StockedOffer.{StockedOffer}
use Rattle.mes_double_cluster.specs.declared.task.Task.{Task}
use Rattle.mes_double_cluster.specs.Times.{saturated_sum}
use Rattle.mes_double_cluster.specs.Stock as offer
use Rattle.mes_double_cluster.specs.Tasks as task
use Rattle.mes_double_cluster.specs.TaskProgress as progress

pub record ClusterState : Type 0 where
  pub stock : List StockedOffer
  -- the tasks whose last state is not reported and acknowledged
  pub tasks : List Task
  -- true from a SUPPRESS to the next REVIVE
  pub suppressed : Bool
  -- the number of launches so far
  pub launches : ℕ
  -- the number of updates so far
  pub updates : ℕ
  -- the time for which a task runs; `None` is for ever
  pub finish_after : Option ℕ

abbrev pub empty : Option ℕ → ClusterState
empty finish_after = record { stock = []; tasks = []; suppressed = false; launches = 0; updates = 0; finish_after = finish_after }

-- ---- offers

-- each offer of the stock is changed
abbrev pub with_offers : (StockedOffer → StockedOffer) → ClusterState → ClusterState
with_offers change c = record c { stock = map change c.stock }

-- the offer at an index of the stock is changed
abbrev pub with_offer_at : ℕ → Option StockedOffer → (StockedOffer → StockedOffer) → ClusterState → ClusterState
with_offer_at index None change c = c
with_offer_at index (Some s) change c = record c { stock = slice_set c.stock index (change s) }

abbrev pub with_made : Option Offer × List StockedOffer → ClusterState → Option Offer × ClusterState
with_made made c = (made.0, record c { stock = made.1 })

-- the offer at an index of the stock under a new identifier, if it may be made at the time `now`,
-- and the cluster with it
abbrev pub offer_at : ℕ → ℕ → ClusterState → Option Offer × ClusterState
offer_at index now c = if c.suppressed || not (offer.is_due_at index now c.stock) then (None, c) else with_made (offer.renamed_at index c.stock) c

abbrev pub offered_at : ℕ → ClusterState → ClusterState
offered_at index c = with_offer_at index (slice_get c.stock index) offer.made c

-- an ACCEPT of these offers launched these tasks
abbrev pub accepted : List Id → List TaskInfo → ℕ → ClusterState → ClusterState
accepted ids tasks time c = record c {
  stock = map (offer.accepted ids c.launches (length tasks) time) c.stock;
  tasks = c.tasks ++ map (task.launched c.launches) tasks;
  launches = saturated_sum c.launches 1;
}

-- a task of the launch ended at the time `now`
abbrev pub after_task : ℕ → ℕ → ClusterState → ClusterState
after_task launch now c = with_offers (offer.after_task launch now) c

-- ---- tasks

-- the next status of a task, if it is due at the time `now`
abbrev pub status_due : ℕ → ℕ → Task → Option TaskStatus
status_due update now t = option_map (λ s. task.status_of s update t) (progress.due now t.progress)

-- the next status of the task at an index, if it is due at the time `now`
abbrev pub status_of : ℕ → ℕ → Option Task → Option TaskStatus
status_of update now None = None
status_of update now (Some t) = status_due update now t

abbrev pub status_at : ℕ → ℕ → ClusterState → Option TaskStatus
status_at index now c = status_of c.updates now (slice_get c.tasks index)

-- a task of the launch was reported in this state: after its last state the offers of the launch are
-- used by one task less
abbrev pub after_report : Option ℕ → TaskState → ℕ → ClusterState → ClusterState
after_report None s now c = c
after_report (Some launch) s now c = record c {
  stock = if progress.is_last s then map (offer.after_task launch now) c.stock else c.stock;
  updates = saturated_sum c.updates 1;
}

-- the task at an index was reported in this state; from RUNNING on it runs for the cluster's time
abbrev pub reported_at : ℕ → TaskState → ℕ → ClusterState → ClusterState
reported_at index s now c =
    let finishes : Option ℕ = option_map (saturated_sum now) c.finish_after in
    after_report (task.launch_at index c.tasks) s now (record c { tasks = task.reported_at index s c.updates finishes c.tasks })

-- a task whose last state is acknowledged is forgotten
abbrev pub acknowledged : Acknowledge → ClusterState → ClusterState
acknowledged body c = record c { tasks = filter (λ (t : Task). not (progress.is_over t.progress)) (map (task.acknowledged body) c.tasks) }

abbrev pub has_task : Id → ClusterState → Bool
has_task id c = list_any (λ (t : Task). offer.same_id t.id id) c.tasks

abbrev pub killed : Id → ClusterState → ClusterState
killed id c = record c { tasks = map (task.killed id) c.tasks }

-- the launch of the task with this identifier, if the task has not ended
abbrev pub running_launch : Id → List Task → Option ℕ
running_launch id tasks = option_map (λ (t : Task). t.launch) (find (task.is_running id) tasks)

abbrev pub after_task_of : Option ℕ → ℕ → ClusterState → ClusterState
after_task_of None now c = c
after_task_of (Some launch) now c = after_task launch now c

abbrev pub without_task : Id → ClusterState → ClusterState
without_task id c = record c { tasks = filter (λ (t : Task). not (offer.same_id t.id id)) c.tasks }

-- others reported this state of a task: after a last state the task is forgotten, and if it had not
-- ended, its offers are used by one task less
abbrev pub overtaken : Id → TaskState → ℕ → ClusterState → ClusterState
overtaken id s now c = if progress.is_last s then after_task_of (running_launch id c.tasks) now (without_task id c) else c

-- ---- times

-- the times at which free offers may be made; none from a SUPPRESS to the next REVIVE
abbrev pub offer_times : ClusterState → List ℕ
offer_times c = if c.suppressed then [] else offer.times_of c.stock

-- the times at which an offer or a status is due
abbrev pub due_times : ClusterState → List ℕ
due_times c = offer_times c ++ task.times_of c.tasks
