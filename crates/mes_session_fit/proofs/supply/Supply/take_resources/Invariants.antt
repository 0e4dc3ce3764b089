use Rattle.std.proofs.Common.{◌≡◌, ◌+◌, take}
use Rattle.mes_session_fit.specs.Keys.{key_of}
use Rattle.mes_session_fit.specs.Fits.{amount}
use Rattle.mes_session_fit.specs.Pouring.{rest}
use Rattle.mes_session_fit.proofs.supply.Supply.take_resources.Given as goal

-- the amount that the resources so far took plus the remaining amount is the original amount
abbrev pub invariant-loop-resource : goal.invariant-loop-resource
invariant-loop-resource g l =
    let offers = g.O.OfferList.offers l.offers in
    let k = key_of l.key in
    amount k (take l.resource-index l.resources) + rest k offers l.self ≡ rest k offers l.fn.self
