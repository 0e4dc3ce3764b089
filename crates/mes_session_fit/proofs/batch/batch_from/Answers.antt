use Rattle.std.proofs.Common.{◌+◌}
use Rattle.std.proofs.lemmas.List.{take_rest}
use Rattle.mes_session_fit.proofs.BatchLemmas.{is-batch}
use Rattle.mes_session_fit.proofs.batch.batch_from.Goals as goal

pub returns-then-tasks_are_apart-clause-is : goal.returns-then-tasks_are_apart-clause-is
returns-then-tasks_are_apart-clause-is g c =
    let os = c.args.launches.now in
    let tasks = c.tasks-tasks.result.now in
    is-batch g.L.TaskGroup.tasks os c.args.at c.index-launches-at.result c.requires.group_within c.index-launches-at.is tasks c.tasks-tasks.ensures
    c.add_tasks-count.new.taken.items c.as_slice-taken.result.now c.args.first c.add_tasks-count.result c.groups_are_apart-apart.result _ _ _
    (c.requires.task_within c.index-launches-at.result c.index-launches-at.is) (take_rest tasks c.args.first) (take_rest tasks (c.args.first + c.add_tasks-count.result)) (take_rest os (c.args.at + 1))
    c.as_slice-taken.ensures.value c.add_tasks-count.ensures.within c.add_tasks-count.ensures.added (c.tasks_are_apart.ensures c.if-tasks_are_apart.true) c.groups_are_apart-apart.ensures
