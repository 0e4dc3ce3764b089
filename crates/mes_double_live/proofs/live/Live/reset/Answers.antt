use Rattle.mes_double_live.proofs.StepLemmas.{counted-steps}
use Rattle.mes_double_live.proofs.live.Live.reset.Goals as goal

pub returns-clause-steps : goal.returns-clause-steps
returns-clause-steps c = counted-steps _ _ c.in_ok-next_fault.ensures.counted
