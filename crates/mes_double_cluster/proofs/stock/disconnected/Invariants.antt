use Rattle.std.proofs.Common.{◌≡◌, ◌++◌, map, take, drop}
use Rattle.mes_double_cluster.specs.Stock.{returned}
use Rattle.mes_double_cluster.proofs.stock.disconnected.Given as goal

abbrev pub invariant-loop-stocked : goal.invariant-loop-stocked
invariant-loop-stocked l = l.stock ≡ map (returned l.now) (take l.stocked-index l.fn.stock) ++ drop l.stocked-index l.fn.stock
