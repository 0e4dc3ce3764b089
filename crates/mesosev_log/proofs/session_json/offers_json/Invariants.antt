use Rattle.std.proofs.Common.{◌≡◌, take, map}
use Rattle.mes_json.specs.View.{view}
use Rattle.mes_model_offer.specs.Offers.{offer}
use Rattle.mesosev_log.proofs.session_json.offers_json.Given as goal

-- the trees of the first ones
abbrev pub invariant-loop-index : goal.invariant-loop-index
invariant-loop-index l = map view l.trees.items ≡ map (λ o. offer.tree o) (take l.index l.session.hand)
