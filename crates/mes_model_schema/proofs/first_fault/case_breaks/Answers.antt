use Rattle.mes_model_schema.proofs.RowFaults.{case_breaks, no_other_breaks}
use Rattle.mes_model_schema.proofs.first_fault.case_breaks.Goals as goal

pub returns-clause-of : goal.returns-clause-of
returns-clause-of g c = λ this. case_breaks this g.R.AnyRows.table g.C.AnyChoice.choice

pub returns-clause-unknown : goal.returns-clause-unknown
returns-clause-unknown g c = no_other_breaks
