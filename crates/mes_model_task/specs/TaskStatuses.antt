-- The status of a task, as in an UPDATE event.
use Rattle.std.specs.Prelude.{codes}
use Rattle.std.proofs.Common.{refl}
use Rattle.mes_model_schema.specs.Binary.{base64_bytes}
use Rattle.mes_model_schema.specs.BinaryLaws.{lawful_base64_bytes}
use Rattle.mes_model_schema.specs.Kinds.{Kind, Lawful, Returns}
use Rattle.mes_model_schema.specs.Leaves.{texts, booleans}
use Rattle.mes_model_schema.specs.Numbers.{fixed}
use Rattle.mes_model_schema.specs.NumberLaws.{lawful_fixed}
use Rattle.mes_model_schema.specs.Layouts.{Layout, needs, may_have, no_more, ◌⨾⨾◌, laid_out, kind_of, lawful_kind, returns_kind}
use Rattle.mes_model_schema.specs.KindLaws.{lawful_texts, lawful_booleans}
use Rattle.mes_model_schema.specs.Labels.{labels, lawful_labels}
use Rattle.mes_model_resource.specs.Ids.{id, lawful_id}
use Rattle.mes_model_task.specs.TaskStates.{states, lawful_states}
use Rattle.mes_model_task.specs.Times.{time_info, lawful_time_info}
use Rattle.mes_model_task.specs.declared.task_status.TaskStatus.{TaskStatus}

-- the members of a status; task_id, state: required; others: optional
abbrev pub task_status_layout : Layout TaskStatus
task_status_layout =
    laid_out (
    needs (codes "task_id") id lawful_id
    ⨾⨾ needs (codes "state") states lawful_states
    ⨾⨾ may_have (codes "message") texts lawful_texts
    ⨾⨾ may_have (codes "source") texts lawful_texts
    ⨾⨾ may_have (codes "reason") texts lawful_texts
    ⨾⨾ may_have (codes "data") base64_bytes lawful_base64_bytes
    ⨾⨾ may_have (codes "agent_id") id lawful_id
    ⨾⨾ may_have (codes "executor_id") id lawful_id
    ⨾⨾ may_have (codes "timestamp") (fixed 6) (lawful_fixed 6)
    ⨾⨾ may_have (codes "uuid") base64_bytes lawful_base64_bytes
    ⨾⨾ may_have (codes "healthy") booleans lawful_booleans
    ⨾⨾ may_have (codes "labels") labels lawful_labels
    ⨾⨾ may_have (codes "unreachable_time") time_info lawful_time_info
    ⨾⨾ no_more
    ) (λ x. record {
      task_id = x.0;
      state = x.1.0;
      message = x.1.1.0;
      source = x.1.1.1.0;
      reason = x.1.1.1.1.0;
      payload = x.1.1.1.1.1.0;
      agent_id = x.1.1.1.1.1.1.0;
      executor_id = x.1.1.1.1.1.1.1.0;
      timestamp = x.1.1.1.1.1.1.1.1.0;
      uuid = x.1.1.1.1.1.1.1.1.1.0;
      healthy = x.1.1.1.1.1.1.1.1.1.1.0;
      labels = x.1.1.1.1.1.1.1.1.1.1.1.0;
      unreachable_time = x.1.1.1.1.1.1.1.1.1.1.1.1.0;
    }) (λ v. (v.task_id, (v.state, (v.message, (v.source, (v.reason, (v.payload, (v.agent_id, (v.executor_id, (v.timestamp, (v.uuid, (v.healthy, (v.labels, (v.unreachable_time, tt)))))))))))))) (λ v. refl)

unfoldable pub task_status : Kind TaskStatus
task_status = kind_of task_status_layout

pub lawful_task_status : Lawful task_status task_status_layout.rows.steps
unfolding task_status
lawful_task_status = lawful_kind task_status_layout refl

pub task_status_back : (v : TaskStatus) → task_status_layout.rows.table.Back (task_status_layout.from v) → Returns task_status v
unfolding task_status
task_status_back v back = returns_kind task_status_layout refl v back
