use Rattle.std.proofs.Common.{◌≡◌, ◌++◌}
use Rattle.std.specs.Vec.Iter.{into_iter_items}
use Rattle.mes_double.proofs.world.making.push_all.Given as goal

-- the queued events, followed by the events that remain, are the final queue
abbrev pub invariant-loop-event : goal.invariant-loop-event
invariant-loop-event l =
    (goal.iterator-loop-event).can_next l.event-iterator
    × (goal.iterator-loop-event).is_finite l.event-iterator
    × (l.waiting.items ++ into_iter_items l.event-iterator ≡ l.initial.waiting.items ++ l.fn.events.items)
