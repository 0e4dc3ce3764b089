use Rattle.std.proofs.Common.{◌≡◌, take}
use Rattle.mes_session_state.specs.Slots.{marked}
use Rattle.mes_session_state.proofs.slot.mark.Given as goal

-- the entries under the identifiers so far are marked for removal
abbrev pub invariant-loop-id : goal.invariant-loop-id
invariant-loop-id l = l.slots.entries ≡ marked (take l.id-index l.ids) l.initial.slots.entries
