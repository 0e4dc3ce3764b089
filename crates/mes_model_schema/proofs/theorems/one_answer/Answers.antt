use Rattle.mes_model_schema.specs.KindLaws.{settled}
use Rattle.mes_model_schema.proofs.theorems.one_answer.Goals as goal

pub returns : goal.returns
returns g c = λ at t. settled g.T.Part.kind g.met.T.Part.lawful at t
