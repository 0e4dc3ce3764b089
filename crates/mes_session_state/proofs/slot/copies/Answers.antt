use Rattle.std.proofs.Common.{◌∙◌, ◌++◌, ◌∷◌, [], ap, ap₂, subst, sym}
use Rattle.std.proofs.lemmas.List.{take_more}
use Rattle.mes_session_state.specs.Slots.{offers_in, AreSettled}
use Rattle.mes_session_state.proofs.SlotLemmas.{settled-append, offers-append}
use Rattle.mes_session_state.proofs.slot.copies.Goals as goal

pub loop-offer-preserved : goal.loop-offer-preserved
loop-offer-preserved c = record {
  settled = subst AreSettled (sym c.in_ok-push.ensures.items) (settled-append c.loop-offer.copied.items c.in_ok-copy_of.field-0 c.loop-offer.invariant.settled c.in_ok-copy_of.ensures.settled);
  same =
      ap offers_in c.in_ok-push.ensures.items
      ∙ offers-append c.loop-offer.copied.items c.in_ok-copy_of.field-0
      ∙ ap₂ (λ os o. os ++ o ∷ []) c.loop-offer.invariant.same (c.in_ok-copy_of.ensures.same ∙ c.offer-item.is)
      ∙ sym (take_more c.args.offers.now c.loop-offer.offer-index c.offer-item.result c.loop-offer-test.true);
}
