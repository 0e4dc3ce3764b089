use Rattle.std.proofs.Common.{◌∙◌, ap, subst, sym, filter}
use Rattle.mes_session_state.specs.Held.{without_offers}
use Rattle.mes_session_state.specs.Slots.{offers_in, AreSettled, stays}
use Rattle.mes_session_state.proofs.SlotLemmas.{all_taken_out, settled-all_taken_out}
use Rattle.mes_session_state.proofs.outstanding_offers.OutstandingOffers.remove_all.Goals as goal

pub invariant_of-self : goal.invariant_of-self
invariant_of-self c =
    subst AreSettled (sym (c.drop_marked.ensures ∙ ap (filter stays) c.mark.ensures)) (settled-all_taken_out c.args.ids.now c.self.inside.slots.entries c.self.invariant)

pub returns : goal.returns
returns c =
    ap offers_in (c.drop_marked.ensures ∙ ap (filter stays) c.mark.ensures)
    ∙ all_taken_out c.args.ids.now c.self.inside.slots.entries c.self.invariant
    ∙ ap (without_offers c.args.ids.now) c.self.view_is
