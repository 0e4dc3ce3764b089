use Rattle.std.proofs.Common.{◌<◌, ◌∙◌, ap, sym, subst, length, slice_get}
use Rattle.mes_session_state.proofs.NamedLemmas.{counted}
use Rattle.mes_session_state.proofs.named_offers.NamedOffersOfferList.get_index.Goals as goal

pub offer_at-requires-clause-within : goal.offer_at-requires-clause-within
offer_at-requires-clause-within c = subst (λ n. c.args.index < n) (sym (counted c.self.inside.hand.now c.self.inside.ids.now c.self.invariant ∙ ap length c.self.view_is)) c.requires

pub returns : goal.returns
returns c = ap (λ os. slice_get os c.args.index) (sym c.self.view_is) ∙ c.offer_at.ensures
