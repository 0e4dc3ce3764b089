use Rattle.std.specs.Prelude.{codes}
use Rattle.mes_model_schema.specs.Binary.{base64_bytes}
use Rattle.mes_model_schema.specs.BinaryLaws.{lawful_base64_bytes}
use Rattle.mes_model_schema.specs.Leaves.{texts, booleans}
use Rattle.mes_model_schema.specs.KindLaws.{lawful_texts, lawful_booleans}
use Rattle.mes_model_schema.specs.Labels.{labels, lawful_labels}
use Rattle.mes_model_schema.specs.Numbers.{fixed}
use Rattle.mes_model_schema.specs.NumberLaws.{lawful_fixed}
use Rattle.mes_model_schema.proofs.FirstRows.{no_rows_have, need_then, maybe_then, layout_has}
use Rattle.mes_model_resource.specs.Ids.{id, lawful_id}
use Rattle.mes_model_task.specs.TaskStates.{states, lawful_states}
use Rattle.mes_model_task.specs.TaskStatuses.{task_status, task_status_layout}
use Rattle.mes_model_task.specs.Times.{time_info, lawful_time_info}
use Rattle.mes_model_task.proofs.first_fault.task_status_breaks.Goals as goal

pub returns : goal.returns
unfolding task_status
returns c =
    layout_has task_status_layout (
    need_then (codes "task_id") id lawful_id (
    need_then (codes "state") states lawful_states (
    maybe_then (codes "message") texts lawful_texts (
    maybe_then (codes "source") texts lawful_texts (
    maybe_then (codes "reason") texts lawful_texts (
    maybe_then (codes "data") base64_bytes lawful_base64_bytes (
    maybe_then (codes "agent_id") id lawful_id (
    maybe_then (codes "executor_id") id lawful_id (
    maybe_then (codes "timestamp") (fixed 6) (lawful_fixed 6) (
    maybe_then (codes "uuid") base64_bytes lawful_base64_bytes (
    maybe_then (codes "healthy") booleans lawful_booleans (
    maybe_then (codes "labels") labels lawful_labels (maybe_then (codes "unreachable_time") time_info lawful_time_info no_rows_have)
    )
    )
    )
    )
    )
    )
    )
    )
    )
    )
    )
    )
