use Rattle.std.proofs.Common.{◌≡◌, length}
use Rattle.mes_double_master_state.specs.Ids.{offer_ids, is_duplicate}
use Rattle.mes_double_master_state.proofs.ids.is_duplicate.Given as goal

-- the result for the offers that remain is the result for all offers
abbrev pub invariant-loop-offer : goal.invariant-loop-offer
invariant-loop-offer l = is_duplicate l.offered.keys (offer_ids l.rest) ≡ is_duplicate l.offered.keys (offer_ids l.fn.offers)

abbrev pub decreases-loop-offer : goal.decreases-loop-offer
decreases-loop-offer l = length l.rest
