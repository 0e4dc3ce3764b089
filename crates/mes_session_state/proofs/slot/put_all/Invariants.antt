use Rattle.std.proofs.Common.{◌≡◌, ◌≤◌, length}
use Rattle.std.specs.Vec.Iter.{into_iter_items}
use Rattle.indexmap.specs.IndexMap.{spare}
use Rattle.mes_session_state.specs.Held.{with_offers}
use Rattle.mes_session_state.specs.Slots.{offers_in, AreSettled}
use Rattle.mes_session_state.proofs.slot.put_all.Given as goal

-- the remaining offers fit the capacity; adding them to the current entries gives the same list as
-- adding all offers to the original entries
abbrev pub invariant-loop-name : goal.invariant-loop-name
invariant-loop-name l =
    (goal.iterator-loop-name).can_next l.name-iterator
    × (goal.iterator-loop-name).is_finite l.name-iterator
    × (length (into_iter_items l.name-iterator) ≤ spare l.slots)
    × AreSettled l.slots.entries
    × AreSettled (into_iter_items l.name-iterator)
    × (with_offers (offers_in l.slots.entries) (offers_in (into_iter_items l.name-iterator)) ≡ with_offers (offers_in l.initial.slots.entries) (offers_in l.fn.copied.items))
