use Rattle.std.proofs.Common.{sym, ◌∙◌}
use Rattle.mes_session_fit.specs.Keys.{key_of, is_of}
use Rattle.mes_session_fit.proofs.BreachLemmas.{before-first, before-second}
use Rattle.mes_session_fit.proofs.other_tasks.has_key_before.Goals as goal

pub returns-then-groups_have_key : goal.returns-then-groups_have_key
returns-then-groups_have_key g c =
    c.if-groups_have_key.true
    ∙ sym (before-first g.L.TaskGroup.tasks c.args.launches.now c.args.at c.index-launches-at.result c.requires.group_within c.index-launches-at.is c.args.task c.tasks-tasks.result.now c.tasks-tasks.ensures
    (c.requires.task_within c.index-launches-at.result c.index-launches-at.is) (is_of (key_of c.args.key.now)) (sym c.groups_have_key.ensures ∙ c.if-groups_have_key.true))

pub returns-else-groups_have_key : goal.returns-else-groups_have_key
returns-else-groups_have_key g c =
    c.tasks_have_key.ensures
    ∙ sym (before-second g.L.TaskGroup.tasks c.args.launches.now c.args.at c.index-launches-at.result c.requires.group_within c.index-launches-at.is c.args.task c.tasks-tasks.result.now c.tasks-tasks.ensures
    (c.requires.task_within c.index-launches-at.result c.index-launches-at.is) (is_of (key_of c.args.key.now)) (sym c.groups_have_key.ensures ∙ c.if-groups_have_key.false))
