use Rattle.std.proofs.Common.{◌∙◌, ap, sym, true}
use Rattle.std.specs.Option.{option_copied_mut}
use Rattle.mes_session_state.proofs.SlotLemmas.{marked-none, marked-some}
use Rattle.mes_session_state.proofs.slot.mark_one.Goals as goal

pub returns-in-Some : goal.returns-in-Some
returns-in-Some c =
    (c.get_mut.follows.holds (record { offer = c.in-Some.slot.now.offer; leaves = true })).0
    ∙ marked-some c.args.name.now c.args.slots.now.entries c.in-Some.slot.now c.get_mut.ensures.unique (ap option_copied_mut (sym c.in-Some.is) ∙ c.get_mut.ensures.value)

pub returns-in_default : goal.returns-in_default
returns-in_default c =
    ap (λ m. m.entries) c.get_mut.follows.holds-at-none
    ∙ marked-none c.args.name.now c.args.slots.now.entries (sym c.get_mut.ensures.value ∙ ap option_copied_mut c.in_default.is)
