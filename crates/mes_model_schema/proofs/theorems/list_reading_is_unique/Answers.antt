use Rattle.mes_model_schema.specs.Lists.{list_of}
use Rattle.mes_model_schema.specs.KindLaws.{settled, lawful_list}
use Rattle.mes_model_schema.proofs.theorems.list_reading_is_unique.Goals as goal

pub returns : goal.returns
returns g c = λ at t. settled (list_of g.T.Part.kind) (lawful_list g.met.T.Part.lawful) at t
