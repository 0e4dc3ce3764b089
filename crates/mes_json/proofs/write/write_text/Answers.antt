use Rattle.mes_json.proofs.CanonicalLemmas.{canonical_is_text}
use Rattle.mes_json.proofs.write.write_text.Goals as goal

pub returns-in-Ok-clause-text : goal.returns-in-Ok-clause-text
returns-in-Ok-clause-text c = λ d h. canonical_is_text _ d c.in-Ok.ensures.writable h
