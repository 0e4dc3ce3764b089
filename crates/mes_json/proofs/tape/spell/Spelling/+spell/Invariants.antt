use Rattle.std.proofs.Common.{◌≡◌, ◌++◌, take}
use Rattle.mes_json.specs.Tokens.{tokens_of_items, tokens_of_members}
use Rattle.mes_json.specs.View.{items_view, members_view}
use Rattle.mes_json.proofs.tape.spell.Spelling.+spell.Given as goal

abbrev pub invariant-put_items-loop-item : goal.invariant-put_items-loop-item
invariant-put_items-loop-item l = l.self ≡ l.initial.self ++ tokens_of_items (items_view (take l.item-index l.items))

abbrev pub invariant-put_members-loop-name : goal.invariant-put_members-loop-name
invariant-put_members-loop-name l = l.self ≡ l.initial.self ++ tokens_of_members (members_view (take l.name-index l.members))
