use Rattle.std.proofs.Common.{sym, ◌∙◌}
use Rattle.mes_session_fit.proofs.LookLemmas.{any-in}
use Rattle.mes_session_state.specs.Looking.{is_task}
use Rattle.mes_session_state.proofs.duplicates.groups_have.Goals as goal

pub returns-then-tasks_have : goal.returns-then-tasks_have
returns-then-tasks_have g c =
    sym (any-in (is_task c.args.id.now) g.L.TaskGroup.tasks c.args.launches.now c.loop-group.group-index c.group-item.result c.loop-group-test.true c.group-item.is
    _ c.tasks.ensures (sym c.tasks_have.ensures ∙ c.if-tasks_have.true))
