use Rattle.mes_double_live.proofs.ReportLemmas.{reported-are, reported-course, report-waits}
use Rattle.mes_double_live.proofs.StepLemmas.{tasks-then}
use Rattle.mes_double_live.proofs.theorems.task_laws.Goals as goal

pub returns-clause-then : goal.returns-clause-then
returns-clause-then c = tasks-then

pub returns-clause-tasks : goal.returns-clause-tasks
returns-clause-tasks c = reported-are

pub returns-clause-course : goal.returns-clause-course
returns-clause-course c = reported-course

pub returns-clause-waits : goal.returns-clause-waits
returns-clause-waits c = report-waits
