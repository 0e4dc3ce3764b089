use Rattle.mes_frame.proofs.OneReading.{record_is_unique}
use Rattle.mes_frame.proofs.theorems.record_is_unique.Goals as goal

pub returns : goal.returns
returns c = record_is_unique
