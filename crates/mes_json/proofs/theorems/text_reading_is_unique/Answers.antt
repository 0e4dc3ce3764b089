use Rattle.mes_json.proofs.CompleteLemmas.{one_text}
use Rattle.mes_json.proofs.PlaceLemmas.{one_fault}
use Rattle.mes_json.proofs.OneReading.{some_reading}
use Rattle.mes_json.proofs.theorems.text_reading_is_unique.Goals as goal

pub returns-clause-tree : goal.returns-clause-tree
returns-clause-tree c = one_text

pub returns-clause-fault : goal.returns-clause-fault
returns-clause-fault c = one_fault

pub returns-clause-some : goal.returns-clause-some
returns-clause-some c = some_reading
