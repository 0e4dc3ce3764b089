use Rattle.mes_model_schema.proofs.RowFaults.{many_breaks}
use Rattle.mes_model_schema.proofs.first_fault.list_row_breaks.Goals as goal

pub returns : goal.returns
returns g c = many_breaks g.T.Part.kind
