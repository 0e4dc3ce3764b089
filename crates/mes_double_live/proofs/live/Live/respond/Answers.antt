use Rattle.mes_double_live.proofs.MoveLemmas.{moves-then}
use Rattle.mes_double_live.proofs.OpenLemmas.{begins-then}
use Rattle.mes_double_live.proofs.CallLemmas.{sending-of-call}
use Rattle.mes_double_live.proofs.StepLemmas.{steps-wider}
use Rattle.mes_double_live.proofs.live.Live.respond.Goals as goal

pub returns-in_err-send_due-clause-moves : goal.returns-in_err-send_due-clause-moves
returns-in_err-send_due-clause-moves c = moves-then _ _ _ c.reply_to.ensures.moves c.send_due.ensures.moves

pub returns-clause-moves : goal.returns-clause-moves
returns-clause-moves c = moves-then _ _ _ c.reply_to.ensures.moves c.send_due.ensures.moves

pub returns-clause-steps : goal.returns-clause-steps
returns-clause-steps c = begins-then _ _ _ _ c.in_ok-reply.ensures.steps (steps-wider (sending-of-call _) _ _ c.in_ok-send_due.ensures.steps)
