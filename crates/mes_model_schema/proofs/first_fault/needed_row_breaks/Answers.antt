use Rattle.mes_model_schema.proofs.RowFaults.{need_breaks}
use Rattle.mes_model_schema.proofs.first_fault.needed_row_breaks.Goals as goal

pub returns : goal.returns
returns g c = need_breaks g.T.Part.kind
