use Rattle.std.proofs.Common.{◌≡◌, take}
use Rattle.mes_json.specs.View.{items_view, members_view}
use Rattle.mes_json.proofs.+same.Given as goal

abbrev pub invariant-equality::same_items-loop-at : goal.invariant-equality::same_items-loop-at
invariant-equality::same_items-loop-at l = items_view (take l.at l.items) ≡ items_view (take l.at l.others)

abbrev pub invariant-equality::same_members-loop-at : goal.invariant-equality::same_members-loop-at
invariant-equality::same_members-loop-at l = members_view (take l.at l.members) ≡ members_view (take l.at l.others)
