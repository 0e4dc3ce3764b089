use Rattle.mes_model_schema.specs.EitherLists.{either_list}
use Rattle.mes_model_schema.specs.EitherListLaws.{lawful_either_list, either_list_back}
use Rattle.mes_model_schema.proofs.theorems.either_list_returned.Goals as goal

pub returns : goal.returns
returns g c = λ n at values back.
    (lawful_either_list g.met.T.Part.lawful).complete at ((either_list n g.T.Part.kind).tree values) values (either_list_back g.met.T.Part.lawful values back)
