use Rattle.std.proofs.Common.{◌≡◌, ◌++◌, map, take, drop}
use Rattle.mes_double_cluster.specs.Stock.{declined}
use Rattle.mes_double_cluster.proofs.stock.declined.Given as goal

abbrev pub invariant-loop-stocked : goal.invariant-loop-stocked
invariant-loop-stocked l = l.stock ≡ map (declined l.ids l.from) (take l.stocked-index l.fn.stock) ++ drop l.stocked-index l.fn.stock
