use Rattle.mes_model_schema.proofs.RowFaults.{maybe_breaks}
use Rattle.mes_model_schema.proofs.ValueFaults.{left_out_breaks}
use Rattle.mes_model_schema.specs.Leaves.{left_out}
use Rattle.mes_model_schema.proofs.first_fault.left_out_row_breaks.Goals as goal

pub returns-clause-row : goal.returns-clause-row
returns-clause-row c = maybe_breaks left_out

pub returns-clause-value : goal.returns-clause-value
returns-clause-value c = left_out_breaks
