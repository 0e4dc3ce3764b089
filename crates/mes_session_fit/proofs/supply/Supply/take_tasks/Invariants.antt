use Rattle.std.proofs.Common.{◌≡◌, ◌+◌, take}
use Rattle.mes_session_fit.specs.Keys.{key_of}
use Rattle.mes_session_fit.specs.Fits.{amount, asked}
use Rattle.mes_session_fit.specs.Pouring.{rest}
use Rattle.mes_session_fit.proofs.supply.Supply.take_tasks.Given as goal

-- the amount that the tasks so far took plus the remaining amount is the original amount
abbrev pub invariant-loop-task : goal.invariant-loop-task
invariant-loop-task g l =
    let offers = g.O.OfferList.offers l.offers in
    let k = key_of l.key in
    amount k (asked (take l.task-index l.tasks)) + rest k offers l.self ≡ rest k offers l.fn.self
