use Rattle.std.proofs.Common.{◌∙◌, sym, ap, Bool, ◌||◌}
use Rattle.mes_session_state.specs.Refusals.{is_among}
use Rattle.mes_double_master_state.specs.Ids.{offer_ids}
use Rattle.mes_double_master_state.proofs.IdLemmas.{among_offers}
use Rattle.mes_double_master_state.proofs.ids.is_repeated.Goals as goal

pub returns-else-contains : goal.returns-else-contains
returns-else-contains c =
    c.has_id.ensures
    ∙ among_offers c.args.offer.now.id c.args.following.now
    ∙ sym (ap (λ (b : Bool). b || is_among c.args.offer.now.id (offer_ids c.args.following.now)) (sym c.contains.ensures ∙ c.if-contains.false))
