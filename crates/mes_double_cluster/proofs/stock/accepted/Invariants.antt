use Rattle.std.proofs.Common.{◌≡◌, ◌++◌, map, take, drop}
use Rattle.mes_double_cluster.specs.Stock.{accepted}
use Rattle.mes_double_cluster.proofs.stock.accepted.Given as goal

abbrev pub invariant-loop-stocked : goal.invariant-loop-stocked
invariant-loop-stocked l = l.stock ≡ map (accepted l.ids l.launch l.tasks l.from) (take l.stocked-index l.fn.stock) ++ drop l.stocked-index l.fn.stock
