use Rattle.mes_double_cluster.proofs.RoundLemmas.{other_id, same_update}
use Rattle.mes_double_cluster.proofs.TaskLemmas.{none_due, killed_due, not_finished, told}
use Rattle.mes_double_cluster.proofs.theorems.cluster_laws.Goals as goal

pub returns-clause-ids : goal.returns-clause-ids
returns-clause-ids c = other_id

pub returns-clause-uuids : goal.returns-clause-uuids
returns-clause-uuids c = same_update

pub returns-clause-course : goal.returns-clause-course
returns-clause-course c = told

pub returns-clause-waits : goal.returns-clause-waits
returns-clause-waits c = none_due

pub returns-clause-kills : goal.returns-clause-kills
returns-clause-kills c = killed_due

pub returns-clause-finished : goal.returns-clause-finished
returns-clause-finished c = not_finished
