use Rattle.std.proofs.Common.{[], ◌∷◌, ◌++◌, ◌∙◌, ap, List, ℕ}
use Rattle.mes_json.specs.Tokens.Token.{name}
use Rattle.mes_json.proofs.SpellLemmas.{item_put, member_put}
use Rattle.mes_json.proofs.tape.spell.Spelling.+spell.Goals as goal

pub put_items-loop-item-preserved : goal.put_items-loop-item-preserved
put_items-loop-item-preserved t c =
    item_put c.args.items.now c.item-item.result c.loop-item.item-index c.args.self.now c.loop-item.self c.put_value.new.self c.loop-item-test.true c.item-item.is
    c.loop-item.invariant c.in_ok-put_value.ensures

pub put_members-loop-name-preserved : goal.put_members-loop-name-preserved
put_members-loop-name-preserved t c =
    member_put c.args.members.now c.loop-name-item.result c.loop-name.name-index c.args.self.now c.loop-name.self c.put_text.new.self c.put_value.new.self
    c.loop-name-test.true c.loop-name-item.is c.loop-name.invariant
    (c.in_ok-put_text.ensures ∙ ap (λ (b : List ℕ). c.loop-name.self ++ name b ∷ []) c.as_str.ensures) c.in_ok-put_value.ensures
