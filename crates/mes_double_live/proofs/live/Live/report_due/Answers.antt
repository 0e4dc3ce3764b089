use Rattle.mes_double_live.proofs.MoveLemmas.{moves-then}
use Rattle.mes_double_live.proofs.StepLemmas.{steps-then}
use Rattle.mes_double_live.proofs.live.Live.report_due.Goals as goal

pub returns-in_err-report_at-clause-moves : goal.returns-in_err-report_at-clause-moves
returns-in_err-report_at-clause-moves c = moves-then _ _ _ c.loop-index.invariant.moves c.report_at.ensures.moves

pub loop-index-preserved : goal.loop-index-preserved
loop-index-preserved c = record {
  moves = moves-then _ _ _ c.loop-index.invariant.moves c.report_at.ensures.moves;
  steps = steps-then _ _ _ c.loop-index.invariant.steps c.in_ok-report_at.ensures.steps;
}
