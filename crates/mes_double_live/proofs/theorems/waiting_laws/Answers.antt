use Rattle.mes_double_live.proofs.StepLemmas.{waiting-then}
use Rattle.mes_double_live.proofs.WaitLemmas.{waiting-order}
use Rattle.mes_double_live.proofs.theorems.waiting_laws.Goals as goal

pub returns-clause-then : goal.returns-clause-then
returns-clause-then c = waiting-then

pub returns-clause-order : goal.returns-clause-order
returns-clause-order c = waiting-order
