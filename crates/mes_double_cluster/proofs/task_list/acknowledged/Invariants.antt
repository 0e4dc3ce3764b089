use Rattle.std.proofs.Common.{◌≡◌, ◌++◌, map, take, drop}
use Rattle.mes_double_cluster.specs.Tasks.{acknowledged}
use Rattle.mes_double_cluster.proofs.task_list.acknowledged.Given as goal

abbrev pub invariant-loop-task : goal.invariant-loop-task
invariant-loop-task l = l.tasks ≡ map (acknowledged l.body) (take l.task-index l.fn.tasks) ++ drop l.task-index l.fn.tasks
