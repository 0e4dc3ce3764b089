use Rattle.std.proofs.Common.{◌∙◌, ap, length}
use Rattle.mes_session_state.proofs.NamedLemmas.{counted}
use Rattle.mes_session_state.proofs.named_offers.NamedOffersOfferList.count.Goals as goal

pub returns : goal.returns
returns c = counted c.self.inside.hand.now c.self.inside.ids.now c.self.invariant ∙ ap length c.self.view_is
