use Rattle.mes_double_master.proofs.AgainLemmas.{again}
use Rattle.mes_double_master.proofs.BrokenLemmas.{refused}
use Rattle.mes_double_master.proofs.FitLemmas.{fits-ran}
use Rattle.mes_double_master.proofs.RunLemmas.{fine, launched-once, taken-once}
use Rattle.mes_double_master.proofs.theorems.master_laws.Goals as goal

pub returns-clause-launched : goal.returns-clause-launched
returns-clause-launched c = launched-once

pub returns-clause-taken : goal.returns-clause-taken
returns-clause-taken c = taken-once

pub returns-clause-again : goal.returns-clause-again
returns-clause-again c = again

pub returns-clause-fits : goal.returns-clause-fits
returns-clause-fits c = fits-ran

pub returns-clause-last : goal.returns-clause-last
returns-clause-last c = λ m call given. (fine m call given).launched

pub returns-clause-broken : goal.returns-clause-broken
returns-clause-broken c = refused
