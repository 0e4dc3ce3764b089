-- The statuses of tasks that are reported, and the time of a refusal.
use Rattle.std.specs.Prelude.{ℕ, ◌+◌, List, Option, Some, None, codes}
use Rattle.std.specs.Int.{div_ceil, to_be_bytes, w128}
use Rattle.mes_model.specs.Id.{Id}
use Rattle.mes_model.specs.TaskInfo.{TaskInfo}
use Rattle.mes_model.specs.TaskStatus.{TaskStatus}
use Rattle.mes_model.specs.declared.filters.Filters.{Filters}
use Rattle.mes_model_task.specs.declared.task_state.TaskState.{TaskState}
use Rattle.mes_model_task.specs.declared.task_state.TaskState.TheVariants.{Error, Lost}
use Rattle.mes_double_cluster.specs.Times.{saturated_sum}

-- ---- refusals

-- the time of a refusal in milliseconds, from microseconds; 5 seconds if there is none
-- (mesos.proto, `Filters`)
abbrev pub milliseconds : Option ℕ → ℕ
milliseconds None = 5000
milliseconds (Some microseconds) = div_ceil microseconds 1000

abbrev pub refusal_time : Option Filters → ℕ
refusal_time None = milliseconds None
refusal_time (Some filters) = milliseconds filters.refuse_seconds

-- the time from which a declined offer may be made again
abbrev pub refusal_end : ℕ → Option Filters → ℕ
refusal_end now filters = saturated_sum now (refusal_time filters)

-- ---- statuses

-- the UUID of an update, 00000000-0000-4000-a000-000000000000 plus its number
abbrev pub update_uuid : ℕ → List ℕ
update_uuid update = to_be_bytes w128 (0x4000_a000_0000_0000_0000 + update)

abbrev pub bare_status : Id → TaskState → TaskStatus
bare_status task state = record {
  task_id = task;
  state = state;
  message = None;
  source = None;
  reason = None;
  payload = None;
  agent_id = None;
  executor_id = None;
  timestamp = None;
  uuid = None;
  healthy = None;
  labels = None;
  unreachable_time = None;
}

-- the status in an update of the executor, which requires an acknowledgement
abbrev pub task_update : Id → Id → TaskState → ℕ → TaskStatus
task_update task agent state update = record (bare_status task state) {
  source = Some (codes "SOURCE_EXECUTOR");
  agent_id = Some agent;
  uuid = Some (update_uuid update);
}

-- a status that the master itself reports, without a UUID
abbrev pub master_status : Id → TaskState → List ℕ → TaskStatus
master_status task state reason = record (bare_status task state) {
  source = Some (codes "SOURCE_MASTER");
  reason = Some reason;
}

abbrev pub task_error : TaskInfo → List ℕ → TaskStatus
task_error task message = record (master_status task.task_id Error (codes "REASON_TASK_INVALID")) {
  agent_id = Some task.agent_id;
  message = Some message;
}

abbrev pub task_lost : TaskInfo → List ℕ → TaskStatus
task_lost task message = record (master_status task.task_id Lost (codes "REASON_INVALID_OFFERS")) {
  agent_id = Some task.agent_id;
  message = Some message;
}

abbrev pub task_unknown : Id → Option Id → TaskStatus
task_unknown task agent = record (master_status task Lost (codes "REASON_RECONCILIATION")) {
  agent_id = agent;
  message = Some (codes "The task is unknown");
}
