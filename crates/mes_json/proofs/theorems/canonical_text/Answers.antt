use Rattle.mes_json.proofs.CanonicalLemmas.{canonical_is_text}
use Rattle.mes_json.proofs.theorems.canonical_text.Goals as goal

pub returns : goal.returns
returns c = λ d t. canonical_is_text t d
