-- The bodies of calls as tables of members (scheduler.proto, `Call`).
use Rattle.std.specs.Prelude.{codes}
use Rattle.std.proofs.Common.{refl}
use Rattle.mes_model_schema.specs.Binary.{base64_bytes}
use Rattle.mes_model_schema.specs.BinaryLaws.{lawful_base64_bytes}
use Rattle.mes_model_schema.specs.Kinds.{Kind, Lawful, Returns}
use Rattle.mes_model_schema.specs.Layouts.{Layout, needs, may_have, lists, no_more, ◌⨾⨾◌, laid_out, kind_of, lawful_kind, returns_kind}
use Rattle.mes_model.specs.Filters.{filters, lawful_filters}
use Rattle.mes_model.specs.Frameworks.{framework_info, lawful_framework_info}
use Rattle.mes_model.specs.Ids.{id, lawful_id}
use Rattle.mes_model.specs.Tasks.{task_ref, lawful_task_ref}
use Rattle.mes_msg_call_body.specs.Operations.{operation, lawful_operation}
use Rattle.mes_msg_call_body.specs.declared.subscribe.Subscribe.{Subscribe}
use Rattle.mes_msg_call_body.specs.declared.accept.Accept.{Accept}
use Rattle.mes_msg_call_body.specs.declared.decline.Decline.{Decline}
use Rattle.mes_msg_call_body.specs.declared.kill.Kill.{Kill}
use Rattle.mes_msg_call_body.specs.declared.acknowledge.Acknowledge.{Acknowledge}
use Rattle.mes_msg_call_body.specs.declared.reconcile.Reconcile.{Reconcile}
use Rattle.mes_msg_call_body.specs.declared.shutdown.Shutdown.{Shutdown}

-- the members of a SUBSCRIBE body; framework_info: required
abbrev pub subscribe_layout : Layout Subscribe
subscribe_layout =
    laid_out (
    needs (codes "framework_info") framework_info lawful_framework_info
    ⨾⨾ no_more
    ) (λ x. record { framework_info = x.0 }) (λ v. (v.framework_info, tt)) (λ v. refl)

unfoldable pub subscribe : Kind Subscribe
subscribe = kind_of subscribe_layout

pub lawful_subscribe : Lawful subscribe subscribe_layout.rows.steps
unfolding subscribe
lawful_subscribe = lawful_kind subscribe_layout refl

pub subscribe_back : (v : Subscribe) → subscribe_layout.rows.table.Back (subscribe_layout.from v) → Returns subscribe v
unfolding subscribe
subscribe_back v back = returns_kind subscribe_layout refl v back

-- the members of an ACCEPT body; offer_ids, operations: lists; filters: optional
abbrev pub accept_layout : Layout Accept
accept_layout =
    laid_out (
    lists (codes "offer_ids") id lawful_id
    ⨾⨾ lists (codes "operations") operation lawful_operation
    ⨾⨾ may_have (codes "filters") filters lawful_filters
    ⨾⨾ no_more
    ) (λ x. record { offer_ids = x.0; operations = x.1.0; filters = x.1.1.0 }) (λ v. (v.offer_ids, (v.operations, (v.filters, tt)))) (λ v. refl)

unfoldable pub accept : Kind Accept
accept = kind_of accept_layout

pub lawful_accept : Lawful accept accept_layout.rows.steps
unfolding accept
lawful_accept = lawful_kind accept_layout refl

pub accept_back : (v : Accept) → accept_layout.rows.table.Back (accept_layout.from v) → Returns accept v
unfolding accept
accept_back v back = returns_kind accept_layout refl v back

-- the members of a DECLINE body; offer_ids: a list; filters: optional
abbrev pub decline_layout : Layout Decline
decline_layout =
    laid_out (
    lists (codes "offer_ids") id lawful_id
    ⨾⨾ may_have (codes "filters") filters lawful_filters
    ⨾⨾ no_more
    ) (λ x. record { offer_ids = x.0; filters = x.1.0 }) (λ v. (v.offer_ids, (v.filters, tt))) (λ v. refl)

unfoldable pub decline : Kind Decline
decline = kind_of decline_layout

pub lawful_decline : Lawful decline decline_layout.rows.steps
unfolding decline
lawful_decline = lawful_kind decline_layout refl

pub decline_back : (v : Decline) → decline_layout.rows.table.Back (decline_layout.from v) → Returns decline v
unfolding decline
decline_back v back = returns_kind decline_layout refl v back

-- the members of a KILL body; task_id: required; agent_id: optional
abbrev pub kill_layout : Layout Kill
kill_layout =
    laid_out (
    needs (codes "task_id") id lawful_id
    ⨾⨾ may_have (codes "agent_id") id lawful_id
    ⨾⨾ no_more
    ) (λ x. record { task_id = x.0; agent_id = x.1.0 }) (λ v. (v.task_id, (v.agent_id, tt))) (λ v. refl)

unfoldable pub kill : Kind Kill
kill = kind_of kill_layout

pub lawful_kill : Lawful kill kill_layout.rows.steps
unfolding kill
lawful_kill = lawful_kind kill_layout refl

pub kill_back : (v : Kill) → kill_layout.rows.table.Back (kill_layout.from v) → Returns kill v
unfolding kill
kill_back v back = returns_kind kill_layout refl v back

-- the members of an ACKNOWLEDGE body; agent_id, task_id, uuid: required
abbrev pub acknowledge_layout : Layout Acknowledge
acknowledge_layout =
    laid_out (
    needs (codes "agent_id") id lawful_id
    ⨾⨾ needs (codes "task_id") id lawful_id
    ⨾⨾ needs (codes "uuid") base64_bytes lawful_base64_bytes
    ⨾⨾ no_more
    ) (λ x. record { agent_id = x.0; task_id = x.1.0; uuid = x.1.1.0 }) (λ v. (v.agent_id, (v.task_id, (v.uuid, tt)))) (λ v. refl)

unfoldable pub acknowledge : Kind Acknowledge
acknowledge = kind_of acknowledge_layout

pub lawful_acknowledge : Lawful acknowledge acknowledge_layout.rows.steps
unfolding acknowledge
lawful_acknowledge = lawful_kind acknowledge_layout refl

pub acknowledge_back : (v : Acknowledge) → acknowledge_layout.rows.table.Back (acknowledge_layout.from v) → Returns acknowledge v
unfolding acknowledge
acknowledge_back v back = returns_kind acknowledge_layout refl v back

-- the members of a RECONCILE body; tasks: a list
abbrev pub reconcile_layout : Layout Reconcile
reconcile_layout =
    laid_out (
    lists (codes "tasks") task_ref lawful_task_ref
    ⨾⨾ no_more
    ) (λ x. record { tasks = x.0 }) (λ v. (v.tasks, tt)) (λ v. refl)

unfoldable pub reconcile : Kind Reconcile
reconcile = kind_of reconcile_layout

pub lawful_reconcile : Lawful reconcile reconcile_layout.rows.steps
unfolding reconcile
lawful_reconcile = lawful_kind reconcile_layout refl

pub reconcile_back : (v : Reconcile) → reconcile_layout.rows.table.Back (reconcile_layout.from v) → Returns reconcile v
unfolding reconcile
reconcile_back v back = returns_kind reconcile_layout refl v back

-- the members of a SHUTDOWN body; executor_id, agent_id: required
abbrev pub shutdown_layout : Layout Shutdown
shutdown_layout =
    laid_out (
    needs (codes "executor_id") id lawful_id
    ⨾⨾ needs (codes "agent_id") id lawful_id
    ⨾⨾ no_more
    ) (λ x. record { executor_id = x.0; agent_id = x.1.0 }) (λ v. (v.executor_id, (v.agent_id, tt))) (λ v. refl)

unfoldable pub shutdown : Kind Shutdown
shutdown = kind_of shutdown_layout

pub lawful_shutdown : Lawful shutdown shutdown_layout.rows.steps
unfolding shutdown
lawful_shutdown = lawful_kind shutdown_layout refl

pub shutdown_back : (v : Shutdown) → shutdown_layout.rows.table.Back (shutdown_layout.from v) → Returns shutdown v
unfolding shutdown
shutdown_back v back = returns_kind shutdown_layout refl v back
