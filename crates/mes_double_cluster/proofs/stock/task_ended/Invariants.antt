use Rattle.std.proofs.Common.{◌≡◌, ◌++◌, map, take, drop}
use Rattle.mes_double_cluster.specs.Stock.{after_task}
use Rattle.mes_double_cluster.proofs.stock.task_ended.Given as goal

abbrev pub invariant-loop-stocked : goal.invariant-loop-stocked
invariant-loop-stocked l = l.stock ≡ map (after_task l.launch l.now) (take l.stocked-index l.fn.stock) ++ drop l.stocked-index l.fn.stock
