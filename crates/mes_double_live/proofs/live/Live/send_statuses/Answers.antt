use Rattle.std.proofs.Common.{◌∙◌}
use Rattle.mes_double_live.proofs.StepLemmas.{steps-then}
use Rattle.mes_double_live.proofs.live.Live.send_statuses.Goals as goal

pub loop-status-preserved : goal.loop-status-preserved
loop-status-preserved c = record {
  same = c.send_status.ensures.same ∙ c.loop-status.invariant.same;
  steps = steps-then _ _ _ c.loop-status.invariant.steps c.in_ok-send_status.ensures.steps;
}
