use Rattle.std.proofs.Common.{◌∙◌, sym, ap}
use Rattle.mes_session_fit.proofs.ListLemmas.{get-at}
use Rattle.mes_session_state.specs.Held.{offer_in}
use Rattle.mes_session_state.proofs.NamedLemmas.{is-there, shown}
use Rattle.mes_session_state.proofs.named_offers.offer_at.Goals as goal

pub unwrap-requires : goal.unwrap-requires
unwrap-requires c =
    is-there c.args.hand.now c.args.ids.now c.args.index c.index-ids-index.result c.requires.there (get-at _ _ _ c.requires.within c.index-ids-index.is) c.get.result
    (c.get.ensures ∙ ap (offer_in c.args.hand.now) (c.as_str.ensures ∙ ap (λ d. d.value) (sym c.index-ids-index.is)))

pub returns : goal.returns
returns c =
    shown c.args.hand.now c.args.ids.now c.args.index c.index-ids-index.result c.requires.there (get-at _ _ _ c.requires.within c.index-ids-index.is) c.get.result
    (c.get.ensures ∙ ap (offer_in c.args.hand.now) (c.as_str.ensures ∙ ap (λ d. d.value) (sym c.index-ids-index.is))) c.unwrap.result c.unwrap.ensures
