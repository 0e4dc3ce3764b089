-- The tasks of the cluster, and what happens to each of them.
use Rattle.std.specs.Prelude.{ℕ, ◌&&◌, not, Bool, false, if◌then◌else◌, List, filter_map, slice_get, slice_set, Option, Some, None, option_map}
use Rattle.std.specs.Str.{bytes_eq}
use Rattle.mes_model.specs.Id.{Id}
use Rattle.mes_model.specs.TaskInfo.{TaskInfo}
use Rattle.mes_model.specs.TaskStatus.{TaskStatus}
use Rattle.mes_model_task.specs.declared.task_state.TaskState.{TaskState}
use Rattle.mes_msg.specs.Acknowledge.{Acknowledge}
use Rattle.mes_double_cluster.specs.declared.progress.Progress.{Progress}
use Rattle.mes_double_cluster.specs.declared.task.Task.{Task}
use Rattle.mes_double_cluster.specs.Stock.{same_id}
use Rattle.mes_double_cluster.specs.Statuses.{update_uuid, task_update}
use Rattle.mes_double_cluster.specs.TaskProgress as progress

-- a task that was just launched, in the launch with this number
abbrev pub launched : ℕ → TaskInfo → Task
launched launch info = record { id = info.task_id; agent = info.agent_id; launch = launch; progress = progress.staging }

-- the status of the task with this state, in the update with this number
abbrev pub status_of : TaskState → ℕ → Task → TaskStatus
status_of state update t = task_update t.id t.agent state update

abbrev pub is_uuid_of : List ℕ → Option ℕ → Bool
is_uuid_of uuid None = false
is_uuid_of uuid (Some update) = bytes_eq (update_uuid update) uuid

-- true if the body acknowledges the update that waits for it: agent, task and UUID agree
abbrev pub awaits : Acknowledge → Task → Bool
awaits body t = same_id t.id body.task_id && (same_id t.agent body.agent_id && is_uuid_of body.uuid t.progress.waiting)

-- true for the task with this identifier, unless its last state was reported
abbrev pub is_running : Id → Task → Bool
is_running id t = same_id t.id id && not (progress.is_last t.progress.state)

-- ---- a task after an event

abbrev pub with_progress : Progress → Task → Task
with_progress new t = record t { progress = new }

abbrev pub acknowledged : Acknowledge → Task → Task
acknowledged body t = if awaits body t then with_progress (progress.acknowledged t.progress) t else t

-- the task with this identifier is killed
abbrev pub killed : Id → Task → Task
killed id t = if same_id t.id id then with_progress (progress.killed t.progress) t else t

abbrev pub reported : TaskState → ℕ → Option ℕ → Task → Task
reported state update finishes t = with_progress (progress.reported state update finishes t.progress) t

-- ---- the task at an index

abbrev pub launch_at : ℕ → List Task → Option ℕ
launch_at index tasks = option_map (λ (t : Task). t.launch) (slice_get tasks index)

abbrev pub reported_of : ℕ → TaskState → ℕ → Option ℕ → List Task → Option Task → List Task
reported_of index state update finishes tasks None = tasks
reported_of index state update finishes tasks (Some t) = slice_set tasks index (reported state update finishes t)

-- the tasks after the one at an index was reported
abbrev pub reported_at : ℕ → TaskState → ℕ → Option ℕ → List Task → List Task
reported_at index state update finishes tasks = reported_of index state update finishes tasks (slice_get tasks index)

-- ---- times

-- the times at which the next states of the tasks are reported
abbrev pub times_of : List Task → List ℕ
times_of tasks = filter_map (λ (t : Task). progress.next_time t.progress) tasks
