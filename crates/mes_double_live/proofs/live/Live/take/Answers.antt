use Rattle.std.proofs.lemmas.Result.{on_ok_weaker}
use Rattle.mes_double_live.proofs.MoveLemmas.{moves-from, moves-then}
use Rattle.mes_double_live.proofs.StepLemmas.{sending-of-delivering, steps-then, steps-wider}
use Rattle.mes_double_live.proofs.WaitLemmas.{stored-begins}
use Rattle.mes_double_live.proofs.live.Live.take.Goals as goal

pub returns-clause-moves : goal.returns-clause-moves
returns-clause-moves c = moves-from _ _ _ c.store.ensures.same (moves-then _ _ _ c.deliver_first.ensures.moves c.send_due.ensures.moves)

pub returns-clause-arrives : goal.returns-clause-arrives
returns-clause-arrives c =
    on_ok_weaker _ (λ due. stored-begins _ _ _ _ c.in_ok-store.ensures.stored (steps-then _ _ _ c.in_ok-deliver_first.ensures.steps (steps-wider sending-of-delivering _ _ due))) c.send_due.ensures.steps
