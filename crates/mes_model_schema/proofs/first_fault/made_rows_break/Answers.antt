use Rattle.mes_model_schema.proofs.RowFaults.{mapped_breaks}
use Rattle.mes_model_schema.proofs.first_fault.made_rows_break.Goals as goal

pub returns : goal.returns
returns g c = mapped_breaks g.R.AnyRows.table
