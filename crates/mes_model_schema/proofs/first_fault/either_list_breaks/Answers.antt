use Rattle.mes_model_schema.proofs.ListFaults.{either_list_breaks}
use Rattle.mes_model_schema.proofs.first_fault.either_list_breaks.Goals as goal

pub returns : goal.returns
returns g c = λ n. either_list_breaks n g.T.Part.kind g.met.T.Part.lawful
