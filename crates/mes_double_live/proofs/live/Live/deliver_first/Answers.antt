use Rattle.mes_double_live.proofs.WaitLemmas.{taken-last}
use Rattle.mes_double_live.proofs.live.Live.deliver_first.Goals as goal

pub returns-in-Some-clause-steps : goal.returns-in-Some-clause-steps
returns-in-Some-clause-steps c = taken-last _ _ _ _ _ c.in-Some.ensures.taken c.deliver.ensures.steps
