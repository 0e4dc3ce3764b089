use Rattle.std.proofs.Common.{◌∙◌, ap, subst, sym}
use Rattle.mes_session_state.specs.Held.{without_offer}
use Rattle.mes_session_state.specs.Slots.{offers_in, AreSettled}
use Rattle.mes_session_state.proofs.SlotLemmas.{taken_out, settled-taken_out}
use Rattle.mes_session_state.proofs.outstanding_offers.OutstandingOffers.remove.Goals as goal

pub invariant_of-self : goal.invariant_of-self
invariant_of-self c = subst AreSettled (sym c.shift_remove.ensures.entries) (settled-taken_out _ c.self.inside.slots.entries c.self.invariant)

pub returns : goal.returns
returns c =
    ap offers_in c.shift_remove.ensures.entries
    ∙ taken_out c.args.id.now c.self.inside.slots.entries c.self.invariant c.len-len.ensures.unique
    ∙ ap (without_offer c.args.id.now) c.self.view_is
