use Rattle.mes_model_schema.proofs.RowFaults.{maybe_breaks}
use Rattle.mes_model_schema.proofs.first_fault.optional_row_breaks.Goals as goal

pub returns : goal.returns
returns g c = maybe_breaks g.T.Part.kind
