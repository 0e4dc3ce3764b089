-- The first fault of a status, member by member in the order of its table.
use Rattle.std.specs.Prelude.{codes}
use Rattle.mes_model_schema.specs.Binary.{base64_bytes}
use Rattle.mes_model_schema.specs.Leaves.{texts, booleans}
use Rattle.mes_model_schema.specs.Numbers.{fixed}
use Rattle.mes_model_schema.specs.Labels.{labels}
use Rattle.mes_model_schema.specs.FirstRows.{OfRows, NoRows, NeedThen, MaybeThen}
use Rattle.mes_model_resource.specs.Ids.{id}
use Rattle.mes_model_task.specs.TaskStates.{states}
use Rattle.mes_model_task.specs.Times.{time_info}

-- the first fault of the members; task_id, state: required; others: optional
abbrev pub OfStatus : OfRows
OfStatus =
    NeedThen (codes "task_id") id (
    NeedThen (codes "state") states (
    MaybeThen (codes "message") texts (
    MaybeThen (codes "source") texts (
    MaybeThen (codes "reason") texts (
    MaybeThen (codes "data") base64_bytes (
    MaybeThen (codes "agent_id") id (
    MaybeThen (codes "executor_id") id (
    MaybeThen (codes "timestamp") (fixed 6) (
    MaybeThen (codes "uuid") base64_bytes (
    MaybeThen (codes "healthy") booleans (
    MaybeThen (codes "labels") labels (
    MaybeThen (codes "unreachable_time") time_info (
    NoRows
    )
    )
    )
    )
    )
    )
    )
    )
    )
    )
    )
    )
    )
