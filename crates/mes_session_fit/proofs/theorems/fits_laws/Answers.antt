use Rattle.mes_session_fit.proofs.FitsLemmas.{no-breach, fits-none, fits-order, one-first}
use Rattle.mes_session_fit.proofs.KeyLemmas.{keys_agree-Decides}
use Rattle.mes_session_fit.proofs.theorems.fits_laws.Goals as goal

pub returns-clause-breach : goal.returns-clause-breach
returns-clause-breach c = λ offers tasks. (no-breach offers tasks, fits-none offers tasks)

pub returns-clause-one : goal.returns-clause-one
returns-clause-one c = one-first

pub returns-clause-order : goal.returns-clause-order
returns-clause-order c = fits-order

pub returns-clause-keys : goal.returns-clause-keys
returns-clause-keys c = keys_agree-Decides
