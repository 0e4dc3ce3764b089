use Rattle.mes_model_schema.proofs.ValueFaults.{whole_breaks, signed32_breaks, fixed_breaks, bytes_break}
use Rattle.mes_model_schema.proofs.first_fault.value_breaks.Goals as goal

pub returns-clause-whole : goal.returns-clause-whole
returns-clause-whole c = whole_breaks

pub returns-clause-signed : goal.returns-clause-signed
returns-clause-signed c = signed32_breaks

pub returns-clause-units : goal.returns-clause-units
returns-clause-units c = fixed_breaks

pub returns-clause-bytes : goal.returns-clause-bytes
returns-clause-bytes c = bytes_break
