use Rattle.mes_double_live.proofs.PlainLemmas.{stream-plain, next-plain}
use Rattle.mes_double_live.proofs.StepLemmas.{body-then}
use Rattle.mes_double_live.proofs.theorems.stream_laws.Goals as goal

pub returns-clause-then : goal.returns-clause-then
returns-clause-then c = body-then

pub returns-clause-bytes : goal.returns-clause-bytes
returns-clause-bytes c = stream-plain

pub returns-clause-later : goal.returns-clause-later
returns-clause-later c = next-plain
