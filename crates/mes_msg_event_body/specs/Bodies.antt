-- The bodies of events as tables of members (scheduler.proto, `Event`).
use Rattle.std.specs.Prelude.{codes}
use Rattle.std.proofs.Common.{refl}
use Rattle.mes_model_schema.specs.Kinds.{Kind, Lawful, Returns}
use Rattle.mes_model_schema.specs.Leaves.{texts}
use Rattle.mes_model_schema.specs.Numbers.{signed32, fixed}
use Rattle.mes_model_schema.specs.NumberLaws.{lawful_signed32, lawful_fixed}
use Rattle.mes_model_schema.specs.Layouts.{Layout, needs, may_have, no_more, ◌⨾⨾◌, laid_out, kind_of, lawful_kind, returns_kind}
use Rattle.mes_model_schema.specs.KindLaws.{lawful_texts}
use Rattle.mes_model_resource.specs.Ids.{id, lawful_id}
use Rattle.mes_model_task.specs.TaskStatuses.{task_status, lawful_task_status}
use Rattle.mes_msg_event_body.specs.declared.subscribed.Subscribed.{Subscribed}
use Rattle.mes_msg_event_body.specs.declared.rescind.Rescind.{Rescind}
use Rattle.mes_msg_event_body.specs.declared.update.Update.{Update}
use Rattle.mes_msg_event_body.specs.declared.failure.Failure.{Failure}
use Rattle.mes_msg_event_body.specs.declared.error_body.ErrorBody.{ErrorBody}

-- the members of a SUBSCRIBED body; framework_id: required; heartbeat_interval_seconds: optional,
-- rounded to millionths
abbrev pub subscribed_layout : Layout Subscribed
subscribed_layout =
    laid_out (
    needs (codes "framework_id") id lawful_id
    ⨾⨾ may_have (codes "heartbeat_interval_seconds") (fixed 6) (lawful_fixed 6)
    ⨾⨾ no_more
    ) (λ x. record { framework_id = x.0; heartbeat_interval_seconds = x.1.0 }) (λ v. (v.framework_id, (v.heartbeat_interval_seconds, tt))) (λ v. refl)

unfoldable pub subscribed : Kind Subscribed
subscribed = kind_of subscribed_layout

pub lawful_subscribed : Lawful subscribed subscribed_layout.rows.steps
unfolding subscribed
lawful_subscribed = lawful_kind subscribed_layout refl

pub subscribed_back : (v : Subscribed) → subscribed_layout.rows.table.Back (subscribed_layout.from v) → Returns subscribed v
unfolding subscribed
subscribed_back v back = returns_kind subscribed_layout refl v back

-- the members of a RESCIND body; offer_id: required
abbrev pub rescind_layout : Layout Rescind
rescind_layout =
    laid_out (
    needs (codes "offer_id") id lawful_id
    ⨾⨾ no_more
    ) (λ x. record { offer_id = x.0 }) (λ v. (v.offer_id, tt)) (λ v. refl)

unfoldable pub rescind : Kind Rescind
rescind = kind_of rescind_layout

pub lawful_rescind : Lawful rescind rescind_layout.rows.steps
unfolding rescind
lawful_rescind = lawful_kind rescind_layout refl

pub rescind_back : (v : Rescind) → rescind_layout.rows.table.Back (rescind_layout.from v) → Returns rescind v
unfolding rescind
rescind_back v back = returns_kind rescind_layout refl v back

-- the members of an UPDATE body; status: required
abbrev pub update_layout : Layout Update
update_layout =
    laid_out (
    needs (codes "status") task_status lawful_task_status
    ⨾⨾ no_more
    ) (λ x. record { status = x.0 }) (λ v. (v.status, tt)) (λ v. refl)

unfoldable pub update : Kind Update
update = kind_of update_layout

pub lawful_update : Lawful update update_layout.rows.steps
unfolding update
lawful_update = lawful_kind update_layout refl

pub update_back : (v : Update) → update_layout.rows.table.Back (update_layout.from v) → Returns update v
unfolding update
update_back v back = returns_kind update_layout refl v back

-- the members of a FAILURE body; agent_id, executor_id, status: optional
abbrev pub failure_layout : Layout Failure
failure_layout =
    laid_out (
    may_have (codes "agent_id") id lawful_id
    ⨾⨾ may_have (codes "executor_id") id lawful_id
    ⨾⨾ may_have (codes "status") signed32 lawful_signed32
    ⨾⨾ no_more
    ) (λ x. record { agent_id = x.0; executor_id = x.1.0; status = x.1.1.0 }) (λ v. (v.agent_id, (v.executor_id, (v.status, tt)))) (λ v. refl)

unfoldable pub failure : Kind Failure
failure = kind_of failure_layout

pub lawful_failure : Lawful failure failure_layout.rows.steps
unfolding failure
lawful_failure = lawful_kind failure_layout refl

pub failure_back : (v : Failure) → failure_layout.rows.table.Back (failure_layout.from v) → Returns failure v
unfolding failure
failure_back v back = returns_kind failure_layout refl v back

-- the members of an ERROR body; message: required
abbrev pub error_body_layout : Layout ErrorBody
error_body_layout =
    laid_out (
    needs (codes "message") texts lawful_texts
    ⨾⨾ no_more
    ) (λ x. record { message = x.0 }) (λ v. (v.message, tt)) (λ v. refl)

unfoldable pub error_body : Kind ErrorBody
error_body = kind_of error_body_layout

pub lawful_error_body : Lawful error_body error_body_layout.rows.steps
unfolding error_body
lawful_error_body = lawful_kind error_body_layout refl

pub error_body_back : (v : ErrorBody) → error_body_layout.rows.table.Back (error_body_layout.from v) → Returns error_body v
unfolding error_body
error_body_back v back = returns_kind error_body_layout refl v back
