use Rattle.std.proofs.Common.{◌≡◌, ◌++◌, map, take}
use Rattle.mes_double_cluster.specs.Tasks.{launched}
use Rattle.mes_double_cluster.proofs.task_list.add_all.Given as goal

abbrev pub invariant-loop-info : goal.invariant-loop-info
invariant-loop-info l = l.tasks.items ≡ l.fn.tasks.items ++ map (launched l.launch) (take l.info-index l.infos)
