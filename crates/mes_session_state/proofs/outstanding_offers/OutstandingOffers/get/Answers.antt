use Rattle.std.proofs.Common.{◌∙◌, ap, sym}
use Rattle.std.specs.Option.{option_map, option_copied}
use Rattle.mes_session_state.proofs.SlotLemmas.{found}
use Rattle.mes_session_state.proofs.outstanding_offers.OutstandingOffers.get.Goals as goal

pub returns-in_err-slot : goal.returns-in_err-slot
returns-in_err-slot c =
    ap option_copied c.from_residual.ensures
    ∙ ap (option_map (λ s. s.now.offer)) (sym (c.in_err-slot.was))
    ∙ found c.args.id.now c.self.inside.slots.entries c.args.self.now c.self.invariant c.self.view_is c.get.result c.get.ensures.value

pub returns : goal.returns
returns c =
    ap (option_map (λ s. s.now.offer)) (sym (c.in_ok-slot.was))
    ∙ found c.args.id.now c.self.inside.slots.entries c.args.self.now c.self.invariant c.self.view_is c.get.result c.get.ensures.value
