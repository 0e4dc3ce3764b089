use Rattle.mes_model_schema.proofs.RowFaults.{flag_breaks}
use Rattle.mes_model_schema.proofs.first_fault.flag_row_breaks.Goals as goal

pub returns : goal.returns
returns c = flag_breaks
