use Rattle.mes_double_live.proofs.MoveLemmas.{moves-then}
use Rattle.mes_double_live.proofs.StepLemmas.{steps-last}
use Rattle.mes_double_live.proofs.live.Live.send_due.Goals as goal

pub returns-clause-moves : goal.returns-clause-moves
returns-clause-moves c = moves-then _ _ _ c.report_due.ensures.moves c.offer_due.ensures.moves

pub returns-clause-steps : goal.returns-clause-steps
returns-clause-steps c = steps-last _ _ _ _ c.in_ok-report_due.ensures.steps c.offer_due.ensures.steps
