use Rattle.std.proofs.Common.{◌≡◌, ◌≤◌, length}
use Rattle.std.specs.Vec.Iter.{into_iter_items}
use Rattle.indexmap.specs.IndexSet.{spare, insert_all}
use Rattle.mes_double_master_state.specs.Ids.{same_id}
use Rattle.mes_double_master_state.proofs.ids.put_ids.Given as goal

-- the spare capacity suffices for the identifiers that remain; adding them gives the final set
abbrev pub invariant-loop-id : goal.invariant-loop-id
invariant-loop-id l =
    (goal.iterator-loop-id).can_next l.id-iterator
    × (goal.iterator-loop-id).is_finite l.id-iterator
    × (length (into_iter_items l.id-iterator) ≤ spare l.ids)
    × (insert_all same_id l.ids.keys (into_iter_items l.id-iterator) ≡ insert_all same_id l.initial.ids.keys l.fn.more.items)
