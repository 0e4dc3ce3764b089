use Rattle.std.proofs.Common.{◌≡◌, ◌++◌, map}
use Rattle.std.specs.Vec.Iter.{into_iter_items}
use Rattle.mes_double_cluster.specs.Stock.{stocked}
use Rattle.mes_double_cluster.proofs.stock.add_all.Given as goal

-- the stock and the offers that remain
abbrev pub invariant-loop-offer : goal.invariant-loop-offer
invariant-loop-offer l =
    (goal.iterator-loop-offer).can_next l.offer-iterator
    × (goal.iterator-loop-offer).is_finite l.offer-iterator
    × (l.stock.items ++ map stocked (into_iter_items l.offer-iterator) ≡ l.fn.stock.items ++ map stocked l.fn.offers.items)
