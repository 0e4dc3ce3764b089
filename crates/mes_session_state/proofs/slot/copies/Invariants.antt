use Rattle.std.proofs.Common.{◌≡◌, take}
use Rattle.mes_session_state.specs.Slots.{offers_in, AreSettled}
use Rattle.mes_session_state.proofs.slot.copies.Given as goal

-- the offers so far are copied
abbrev pub invariant-loop-offer : goal.invariant-loop-offer
invariant-loop-offer l = record {
  settled : AreSettled l.copied.items;
  same : offers_in l.copied.items ≡ take l.offer-index l.offers;
}
