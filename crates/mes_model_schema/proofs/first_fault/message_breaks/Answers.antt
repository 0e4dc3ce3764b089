use Rattle.mes_model_schema.proofs.RowFaults.{message_breaks}
use Rattle.mes_model_schema.proofs.first_fault.message_breaks.Goals as goal

pub returns : goal.returns
returns g c = message_breaks g.R.AnyRows.table
