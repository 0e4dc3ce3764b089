use Rattle.std.proofs.Common.{◌≡◌, take, map}
use Rattle.mes_json.specs.View.{view}
use Rattle.mes_json.proofs.ViewLemmas.{member_view}
use Rattle.mes_json.proofs.+copy.Given as goal

abbrev pub invariant-copy::copy_items-loop-item : goal.invariant-copy::copy_items-loop-item
invariant-copy::copy_items-loop-item l = map view l.copies.items ≡ map view (take l.item-index l.items)

abbrev pub invariant-copy::copy_members-loop-name : goal.invariant-copy::copy_members-loop-name
invariant-copy::copy_members-loop-name l = map member_view l.copies.items ≡ map member_view (take l.name-index l.members)
