use Rattle.mes_model_schema.specs.Lists.{list_of}
use Rattle.mes_model_schema.specs.KindLaws.{lawful_list, list_returns}
use Rattle.mes_model_schema.proofs.theorems.list_returned.Goals as goal

pub returns : goal.returns
returns g c = λ at values back. (lawful_list g.met.T.Part.lawful).complete at ((list_of g.T.Part.kind).tree values) values (list_returns g.T.Part.kind values back)
