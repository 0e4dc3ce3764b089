use Rattle.mes_model_schema.proofs.ValueFaults.{texts_break, booleans_break, objects_break}
use Rattle.mes_model_schema.proofs.first_fault.kind_breaks.Goals as goal

pub returns-clause-text : goal.returns-clause-text
returns-clause-text c = texts_break

pub returns-clause-truth : goal.returns-clause-truth
returns-clause-truth c = booleans_break

pub returns-clause-object : goal.returns-clause-object
returns-clause-object c = objects_break
