use Rattle.mes_double_live.proofs.MoveLemmas.{moves-then}
use Rattle.mes_double_live.proofs.SafeLemmas.{safe}
use Rattle.mes_double_live.proofs.theorems.live_laws.Goals as goal

pub returns-clause-then : goal.returns-clause-then
returns-clause-then c = moves-then

pub returns-clause-safe : goal.returns-clause-safe
returns-clause-safe c = safe
