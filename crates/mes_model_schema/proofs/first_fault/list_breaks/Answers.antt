use Rattle.mes_model_schema.proofs.ListFaults.{list_breaks}
use Rattle.mes_model_schema.proofs.first_fault.list_breaks.Goals as goal

pub returns : goal.returns
returns g c = list_breaks g.T.Part.kind g.met.T.Part.lawful
