use Rattle.std.proofs.Common.{◌≡◌, ◌+◌, length, take}
use Rattle.mes_json.specs.Canonical.{more_items, more_members}
use Rattle.mes_json.specs.View.{items_view, members_view}
use Rattle.mes_json.proofs.canonical_length.+length.Given as goal

abbrev pub invariant-capacity_after_items-loop-item : goal.invariant-capacity_after_items-loop-item
invariant-capacity_after_items-loop-item l = l.free + length (more_items (items_view (take l.item-index l.rest))) ≡ l.initial.free

abbrev pub invariant-capacity_after_members-loop-name : goal.invariant-capacity_after_members-loop-name
invariant-capacity_after_members-loop-name l = l.free + length (more_members (members_view (take l.name-index l.rest))) ≡ l.initial.free
