use Rattle.std.proofs.Common.{◌≡◌, ◌+◌}
use Rattle.mes_session_fit.specs.Keys.{key_of}
use Rattle.mes_session_fit.specs.Pouring.{rest, steps}
use Rattle.mes_session_fit.proofs.supply.Supply.draw.Given as goal

-- the amount taken so far plus the remaining amount is the original amount
abbrev pub invariant-loop-self : goal.invariant-loop-self
invariant-loop-self g l =
    let offers = g.O.OfferList.offers l.offers in
    let k = key_of l.key in
    l.wanted + rest k offers l.initial.self ≡ l.initial.wanted + rest k offers l.self

abbrev pub decreases-loop-self : goal.decreases-loop-self
decreases-loop-self g l = steps (g.O.OfferList.offers l.offers) l.self
