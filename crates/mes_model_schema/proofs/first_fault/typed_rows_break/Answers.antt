use Rattle.mes_model_schema.proofs.RowFaults.{typed_breaks}
use Rattle.mes_model_schema.proofs.first_fault.typed_rows_break.Goals as goal

pub returns : goal.returns
returns g c = typed_breaks g.C.AnyChoice.choice
