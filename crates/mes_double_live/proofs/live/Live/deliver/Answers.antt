use Rattle.mes_double_live.proofs.WaitLemmas.{admitted-last, dropped-steps}
use Rattle.mes_double_live.proofs.live.Live.deliver.Goals as goal

pub returns-then-branch-clause-steps : goal.returns-then-branch-clause-steps
returns-then-branch-clause-steps c = admitted-last _ _ _ _ _ _ c.if-branch.true c.in_ok-admit.ensures.admits c.send.ensures.delivers

pub returns-else-branch-clause-steps : goal.returns-else-branch-clause-steps
returns-else-branch-clause-steps c = dropped-steps _ _ _ _ c.if-branch.false c.in_ok-admit.ensures.admits
