use Rattle.std.proofs.Common.{◌≡◌, take}
use Rattle.mes_double_master_state.proofs.events.offers.Given as goal

abbrev pub invariant-loop-offer : goal.invariant-loop-offer
invariant-loop-offer l = l.copies.items ≡ take l.offer-index l.offers
