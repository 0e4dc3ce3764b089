use Rattle.mes_model_schema.proofs.LabelFaults.{label_is_broken}
use Rattle.mes_model_schema.proofs.first_fault.label_breaks.Goals as goal

pub returns : goal.returns
returns c = label_is_broken
