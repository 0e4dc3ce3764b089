use Rattle.mes_model_schema.proofs.RowFaults.{joined_breaks}
use Rattle.mes_model_schema.proofs.first_fault.joined_rows_break.Goals as goal

pub returns-clause-both : goal.returns-clause-both
returns-clause-both g c = joined_breaks g.R.AnyRows.table g.S.AnyRows.table g.R.AnyRows.exact
