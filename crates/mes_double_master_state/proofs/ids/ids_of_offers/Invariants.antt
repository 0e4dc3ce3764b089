use Rattle.std.proofs.Common.{◌≡◌, take}
use Rattle.mes_double_master_state.specs.Ids.{offer_ids}
use Rattle.mes_double_master_state.proofs.ids.ids_of_offers.Given as goal

abbrev pub invariant-loop-offer : goal.invariant-loop-offer
invariant-loop-offer l = l.ids.items ≡ offer_ids (take l.offer-index l.offers)
