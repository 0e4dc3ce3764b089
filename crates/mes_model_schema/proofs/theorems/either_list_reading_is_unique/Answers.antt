use Rattle.mes_model_schema.specs.EitherLists.{either_list}
use Rattle.mes_model_schema.specs.KindLaws.{settled}
use Rattle.mes_model_schema.specs.EitherListLaws.{lawful_either_list}
use Rattle.mes_model_schema.proofs.theorems.either_list_reading_is_unique.Goals as goal

pub returns : goal.returns
returns g c = λ n at t. settled (either_list n g.T.Part.kind) (lawful_either_list g.met.T.Part.lawful) at t
