use Rattle.mes_double.proofs.Fitting.{what-ran-fits, what-ran-is-there}
use Rattle.mes_double.proofs.JoinedRuns.{hand-agrees, all-agrees}
use Rattle.mes_double.proofs.Keyed.{acked-heard}
use Rattle.mes_double.proofs.OneLemmas.{one-course}
use Rattle.mes_double.proofs.RanLemmas.{launched-once, taken-once}
use Rattle.mes_double.proofs.RepeatLemmas.{moves-nothing}
use Rattle.mes_double.proofs.SomeLemmas.{some-course}
use Rattle.mes_double.proofs.theorems.world_laws.Goals as goal

pub returns-clause-some : goal.returns-clause-some
returns-clause-some c = some-course

pub returns-clause-one : goal.returns-clause-one
returns-clause-one c = one-course c.refusal_laws.ensures

pub returns-clause-acked : goal.returns-clause-acked
returns-clause-acked c = acked-heard

pub returns-clause-launched : goal.returns-clause-launched
returns-clause-launched c = launched-once

pub returns-clause-taken : goal.returns-clause-taken
returns-clause-taken c = taken-once

pub returns-clause-fits : goal.returns-clause-fits
returns-clause-fits c = what-ran-fits

pub returns-clause-there : goal.returns-clause-there
returns-clause-there c = what-ran-is-there

pub returns-clause-again : goal.returns-clause-again
returns-clause-again c = moves-nothing

pub returns-clause-agrees : goal.returns-clause-agrees
returns-clause-agrees c = hand-agrees

pub returns-clause-same : goal.returns-clause-same
returns-clause-same c = all-agrees
