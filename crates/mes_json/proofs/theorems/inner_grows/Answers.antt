use Rattle.mes_json.proofs.InnerLemmas.{inner_grows, inner_within}
use Rattle.mes_json.proofs.theorems.inner_grows.Goals as goal

pub returns-clause-grows : goal.returns-clause-grows
returns-clause-grows c = inner_grows

pub returns-clause-within : goal.returns-clause-within
returns-clause-within c = inner_within
