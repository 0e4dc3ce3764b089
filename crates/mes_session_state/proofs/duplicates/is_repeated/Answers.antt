use Rattle.std.proofs.Common.{◌∙◌, ap, sym, take}
use Rattle.std.specs.List.{list_any}
use Rattle.mes_session_fit.specs.Launched.{launched}
use Rattle.mes_session_fit.proofs.FitsLemmas.{or-left, or-right}
use Rattle.mes_session_state.specs.Looking.{is_task}
use Rattle.mes_session_state.proofs.DuplicateLemmas.{new-task, task-again}
use Rattle.mes_session_state.proofs.duplicates.is_repeated.Goals as goal
use Rattle.mes_session_state.proofs.duplicates.is_repeated.Goals.{then-groups_have-via-then-groups_have, then-groups_have-via-else-groups_have+then-tasks_have}

pub returns-then-groups_have : goal.returns-then-groups_have
returns-then-groups_have g c =
    sym (task-again (launched g.L.TaskGroup.tasks c.args.launches.now) c.args.tasks.now c.loop-index.index c.index-tasks-index.result c.loop-index-test.true c.index-tasks-index.is
    (elim c.then-groups_have.branch [
      | then-groups_have-via-then-groups_have w ↦ or-left _ _ (ap (λ t. list_any (is_task t.task_id) (launched g.L.TaskGroup.tasks c.args.launches.now)) c.index-tasks-index.is ∙ sym c.groups_have.ensures ∙ w.if-groups_have.true)
      | then-groups_have-via-else-groups_have+then-tasks_have w ↦ or-right _ _ (ap (λ t. list_any (is_task t.task_id) (take c.loop-index.index c.args.tasks.now)) c.index-tasks-index.is ∙ sym w.tasks_have.ensures ∙ w.if-tasks_have.true)
    ]))

pub loop-index-preserved : goal.loop-index-preserved
loop-index-preserved g c =
    new-task (launched g.L.TaskGroup.tasks c.args.launches.now) c.args.tasks.now c.loop-index.index c.index-tasks-index.result c.loop-index-test.true c.index-tasks-index.is
    c.loop-index.invariant
    (ap (λ t. list_any (is_task t.task_id) (launched g.L.TaskGroup.tasks c.args.launches.now)) c.index-tasks-index.is ∙ sym c.groups_have.ensures ∙ c.if-groups_have.false)
    (ap (λ t. list_any (is_task t.task_id) (take c.loop-index.index c.args.tasks.now)) c.index-tasks-index.is ∙ sym c.tasks_have.ensures ∙ c.if-tasks_have.false)
