use Rattle.mes_frame.proofs.Framings.{some_framing, framing_is_unique}
use Rattle.mes_frame.proofs.theorems.framing_is_unique.Goals as goal

pub returns-clause-some : goal.returns-clause-some
returns-clause-some c = some_framing

pub returns-clause-one : goal.returns-clause-one
returns-clause-one c = framing_is_unique
