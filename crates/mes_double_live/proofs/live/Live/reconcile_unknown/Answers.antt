use Rattle.std.proofs.Common.{◌∙◌}
use Rattle.mes_double_live.proofs.StepLemmas.{steps-then}
use Rattle.mes_double_live.proofs.live.Live.reconcile_unknown.Goals as goal

pub loop-task-preserved : goal.loop-task-preserved
loop-task-preserved c = record {
  same = c.reconcile_task.ensures.same ∙ c.loop-task.invariant.same;
  steps = steps-then _ _ _ c.loop-task.invariant.steps c.in_ok-reconcile_task.ensures.steps;
}
