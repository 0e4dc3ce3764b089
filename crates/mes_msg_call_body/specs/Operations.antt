-- Operations on accepted offers as tables of members (mesos.proto, `Offer.Operation`).
use Rattle.std.specs.Prelude.{◌≡◌, ◌⊎◌, ℕ, List, [], ◌∷◌, codes}
use Rattle.std.proofs.Common.{inl, inr, refl}
use Rattle.mes_model_schema.specs.Kinds.{Kind, Lawful, Returns}
use Rattle.mes_model_schema.specs.Rows.{Table, need, mapped, message}
use Rattle.mes_model_schema.specs.Layouts.{Layout, lists, no_more, ◌⨾⨾◌, laid_out, kind_of, lawful_kind, returns_kind}
use Rattle.mes_model_schema.specs.Choices.{no_other, case, typed}
use Rattle.mes_model_schema.specs.RowLaws.{LawfulTable, lawful_need}
use Rattle.mes_model_schema.specs.MessageLaws.{lawful_mapped, lawful_message, message_returns}
use Rattle.mes_model_schema.specs.ChoiceLaws.{lawful_no_other, lawful_typed}
use Rattle.mes_model_schema.specs.declared.field.FieldFaultKind.TheVariants.{LeftOut}
use Rattle.mes_model.specs.Tasks.{task_info, lawful_task_info}
use Rattle.mes_model.specs.TaskInfo.{TaskInfo}
use Rattle.mes_msg_call_body.specs.declared.operation.Operation.{Operation}
use Rattle.mes_msg_call_body.specs.declared.operation.Operation.TheVariants as of

-- the members of a LAUNCH body; task_infos: a list
abbrev pub launch_layout : Layout (List TaskInfo)
launch_layout =
    laid_out (
    lists (codes "task_infos") task_info lawful_task_info
    ⨾⨾ no_more
    ) (λ x. x.0) (λ v. (v, tt)) (λ v. refl)

unfoldable pub launch : Kind (List TaskInfo)
launch = kind_of launch_layout

pub lawful_launch : Lawful launch launch_layout.rows.steps
unfolding launch
lawful_launch = lawful_kind launch_layout refl

pub launch_back : (v : List TaskInfo) → launch_layout.rows.table.Back (launch_layout.from v) → Returns launch v
unfolding launch
launch_back v back = returns_kind launch_layout refl v back

-- an operation, from the value of its body
abbrev pub to_operation : List TaskInfo ⊎ ⊥ → Operation
to_operation (inl tasks) = of.Launch tasks
to_operation (inr v) = absurd v

abbrev pub from_operation : Operation → List TaskInfo ⊎ ⊥
from_operation (of.Launch tasks) = inl tasks

-- the members of an operation; type: required; launch: required for LAUNCH; another type is a fault
abbrev pub operation_rows : Table Operation
operation_rows =
    mapped (typed (
    case (codes "LAUNCH") (need (codes "launch") launch) (
    no_other LeftOut
    )
    )) to_operation from_operation

-- the names of the members of an operation
abbrev pub operation_members : List (List ℕ)
operation_members = codes "type" ∷ codes "launch" ∷ []

unfoldable pub operation : Kind Operation
operation = message operation_rows

-- ---- the laws of the kind of operations

to_from_operation : (v : Operation) → to_operation (from_operation v) ≡ v
to_from_operation (of.Launch tasks) = refl

pub lawful_operation_rows : LawfulTable operation_rows 11
lawful_operation_rows = lawful_mapped _ _ (lawful_typed (lawful_need lawful_launch) lawful_no_other refl) to_from_operation

pub lawful_operation : Lawful operation 11
unfolding operation
lawful_operation = lawful_message lawful_operation_rows refl

pub operation_back : (v : Operation) → operation_rows.Back v → Returns operation v
unfolding operation
operation_back v back = message_returns lawful_operation_rows refl v back
