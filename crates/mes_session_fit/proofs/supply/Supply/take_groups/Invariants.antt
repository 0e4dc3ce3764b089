use Rattle.std.proofs.Common.{◌≡◌, ◌+◌, take}
use Rattle.mes_session_fit.specs.Keys.{key_of}
use Rattle.mes_session_fit.specs.Fits.{amount, asked}
use Rattle.mes_session_fit.specs.Launched.{launched}
use Rattle.mes_session_fit.specs.Pouring.{rest}
use Rattle.mes_session_fit.proofs.supply.Supply.take_groups.Given as goal

-- the amount that the groups so far took plus the remaining amount is the original amount
abbrev pub invariant-loop-group : goal.invariant-loop-group
invariant-loop-group g l =
    let offers = g.O.OfferList.offers l.offers in
    let k = key_of l.key in
    amount k (asked (launched g.L.TaskGroup.tasks (take l.group-index l.launches))) + rest k offers l.self ≡ rest k offers l.fn.self
