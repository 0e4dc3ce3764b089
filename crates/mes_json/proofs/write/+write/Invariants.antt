use Rattle.std.proofs.Common.{◌≡◌, ◌++◌, take}
use Rattle.mes_json.specs.Canonical.{more_items, more_members}
use Rattle.mes_json.specs.View.{items_view, members_view}
use Rattle.mes_json.specs.Writable.{AreWritable, AreWritableMembers}
use Rattle.mes_json.proofs.write.+write.Given as goal

abbrev pub invariant-write_items-loop-item : goal.invariant-write_items-loop-item
invariant-write_items-loop-item l =
    (l.out.items ≡ l.initial.out.items ++ more_items (items_view (take l.item-index l.rest))) × AreWritable (items_view (take l.item-index l.rest))

abbrev pub invariant-write_members-loop-name : goal.invariant-write_members-loop-name
invariant-write_members-loop-name l =
    (l.out.items ≡ l.initial.out.items ++ more_members (members_view (take l.name-index l.rest))) × AreWritableMembers (members_view (take l.name-index l.rest))
