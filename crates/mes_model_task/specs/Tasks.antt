-- Commands, tasks to launch, and tasks in a RECONCILE call.
use Rattle.std.specs.Prelude.{codes}
use Rattle.std.proofs.Common.{refl}
use Rattle.mes_model_schema.specs.Kinds.{Kind, Lawful, Returns}
use Rattle.mes_model_schema.specs.Leaves.{texts, booleans, objects}
use Rattle.mes_model_schema.specs.Layouts.{Layout, needs, may_have, lists, no_more, ◌⨾⨾◌, laid_out, kind_of, lawful_kind, returns_kind}
use Rattle.mes_model_schema.specs.KindLaws.{lawful_texts, lawful_booleans, lawful_objects}
use Rattle.mes_model_resource.specs.Ids.{id, lawful_id}
use Rattle.mes_model_resource.specs.Resources.{resource, lawful_resource}
use Rattle.mes_model_task.specs.declared.command.Command.{Command}
use Rattle.mes_model_task.specs.declared.task_info.TaskInfo.{TaskInfo}
use Rattle.mes_model_task.specs.declared.task_ref.TaskRef.{TaskRef}

-- the members of a command; value, shell: optional; arguments: a list
abbrev pub command_layout : Layout Command
command_layout =
    laid_out (
    may_have (codes "value") texts lawful_texts
    ⨾⨾ may_have (codes "shell") booleans lawful_booleans
    ⨾⨾ lists (codes "arguments") texts lawful_texts
    ⨾⨾ no_more
    ) (λ x. record { value = x.0; shell = x.1.0; arguments = x.1.1.0 }) (λ v. (v.value, (v.shell, (v.arguments, tt)))) (λ v. refl)

unfoldable pub command : Kind Command
command = kind_of command_layout

pub lawful_command : Lawful command command_layout.rows.steps
unfolding command
lawful_command = lawful_kind command_layout refl

pub command_back : (v : Command) → command_layout.rows.table.Back (command_layout.from v) → Returns command v
unfolding command
command_back v back = returns_kind command_layout refl v back

-- the members of a task to launch; name, task_id, agent_id: required; resources: a list; command,
-- executor: optional
abbrev pub task_info_layout : Layout TaskInfo
task_info_layout =
    laid_out (
    needs (codes "name") texts lawful_texts
    ⨾⨾ needs (codes "task_id") id lawful_id
    ⨾⨾ needs (codes "agent_id") id lawful_id
    ⨾⨾ lists (codes "resources") resource lawful_resource
    ⨾⨾ may_have (codes "command") command lawful_command
    ⨾⨾ may_have (codes "executor") objects lawful_objects
    ⨾⨾ no_more
    ) (λ x. record {
      name = x.0;
      task_id = x.1.0;
      agent_id = x.1.1.0;
      resources = x.1.1.1.0;
      command = x.1.1.1.1.0;
      executor = x.1.1.1.1.1.0;
    }) (λ v. (v.name, (v.task_id, (v.agent_id, (v.resources, (v.command, (v.executor, tt))))))) (λ v. refl)

unfoldable pub task_info : Kind TaskInfo
task_info = kind_of task_info_layout

pub lawful_task_info : Lawful task_info task_info_layout.rows.steps
unfolding task_info
lawful_task_info = lawful_kind task_info_layout refl

pub task_info_back : (v : TaskInfo) → task_info_layout.rows.table.Back (task_info_layout.from v) → Returns task_info v
unfolding task_info
task_info_back v back = returns_kind task_info_layout refl v back

-- the members of a task in a RECONCILE call; task_id: required; agent_id: optional
abbrev pub task_ref_layout : Layout TaskRef
task_ref_layout =
    laid_out (
    needs (codes "task_id") id lawful_id
    ⨾⨾ may_have (codes "agent_id") id lawful_id
    ⨾⨾ no_more
    ) (λ x. record { task_id = x.0; agent_id = x.1.0 }) (λ v. (v.task_id, (v.agent_id, tt))) (λ v. refl)

unfoldable pub task_ref : Kind TaskRef
task_ref = kind_of task_ref_layout

pub lawful_task_ref : Lawful task_ref task_ref_layout.rows.steps
unfolding task_ref
lawful_task_ref = lawful_kind task_ref_layout refl

pub task_ref_back : (v : TaskRef) → task_ref_layout.rows.table.Back (task_ref_layout.from v) → Returns task_ref v
unfolding task_ref
task_ref_back v back = returns_kind task_ref_layout refl v back
