use Rattle.std.proofs.Common.{sym, ◌∙◌}
use Rattle.mes_session_fit.specs.Keys.{key_of, is_of}
use Rattle.mes_session_fit.proofs.LookLemmas.{any-in}
use Rattle.mes_session_fit.proofs.other_tasks.tasks_have_key.Goals as goal

pub returns-then-resources_have_key : goal.returns-then-resources_have_key
returns-then-resources_have_key c =
    sym (any-in (is_of (key_of c.args.key.now)) (λ t. t.resources) c.args.tasks.now c.loop-task.task-index c.task-item.result c.loop-task-test.true c.task-item.is
    _ c.as_slice.ensures (sym c.resources_have_key.ensures ∙ c.if-resources_have_key.true))
