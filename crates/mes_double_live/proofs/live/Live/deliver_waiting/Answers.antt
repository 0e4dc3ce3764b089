use Rattle.mes_double_live.proofs.MoveLemmas.{moves-then}
use Rattle.mes_double_live.proofs.StepLemmas.{steps-then}
use Rattle.mes_double_live.proofs.live.Live.deliver_waiting.Goals as goal

pub returns-in_err-deliver_first-clause-moves : goal.returns-in_err-deliver_first-clause-moves
returns-in_err-deliver_first-clause-moves c = moves-then _ _ _ c.loop.invariant.moves c.deliver_first.ensures.moves

pub loop-preserved : goal.loop-preserved
loop-preserved c = record {
  moves = moves-then _ _ _ c.loop.invariant.moves c.deliver_first.ensures.moves;
  steps = steps-then _ _ _ c.loop.invariant.steps c.in_ok-deliver_first.ensures.steps;
}
