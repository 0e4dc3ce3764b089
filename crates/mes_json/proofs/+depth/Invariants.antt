use Rattle.std.proofs.Common.{◌≡◌, min, take}
use Rattle.mes_json.specs.Tree.{depth_of_items, depth_of_members}
use Rattle.mes_json.specs.View.{items_view, members_view}
use Rattle.mes_json.proofs.+depth.Given as goal

abbrev pub invariant-depth::depth_of_items-loop-item : goal.invariant-depth::depth_of_items-loop-item
invariant-depth::depth_of_items-loop-item l = l.deepest ≡ min (depth_of_items (items_view (take l.item-index l.items))) 0xFFFF_FFFF_FFFF_FFFF

abbrev pub invariant-depth::depth_of_members-loop-value : goal.invariant-depth::depth_of_members-loop-value
invariant-depth::depth_of_members-loop-value l = l.deepest ≡ min (depth_of_members (members_view (take l.value-index l.members))) 0xFFFF_FFFF_FFFF_FFFF
