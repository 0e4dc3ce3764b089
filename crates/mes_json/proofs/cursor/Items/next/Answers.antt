use Rattle.std.proofs.Common.{◌≡◌, ◌<◌, true, List, length, sym, ◌∙◌, subst}
use Rattle.mes_json.specs.Tokens.{Token, BeginsItems}
use Rattle.mes_json.specs.Passing.{is_end}
use Rattle.mes_json.proofs.NextLemmas.{no_item, next_item, shorter_item}
use Rattle.mes_json.proofs.cursor.Items.next.Goals as goal

pub returns-then-is_end-clause-item : goal.returns-then-is_end-clause-item
returns-then-is_end-clause-item c ts begins =
    no_item c.args.self.now ts (subst (λ (xs : List Token). is_end xs ≡ true) c.self.view_is (sym c.is_end.ensures ∙ c.if-is_end.true)) begins

pub returns-clause-item : goal.returns-clause-item
returns-clause-item c ts begins =
    next_item c.self.inside.next c.replace.result c.replace.new.dest ts (sym c.is_end.ensures ∙ c.if-is_end.false) c.replace.ensures.value
    (c.replace.ensures.after ∙ c.following-following.ensures) (subst (λ (xs : List Token). BeginsItems xs ts) (sym c.self.view_is) begins)

pub returns-clause-shorter : goal.returns-clause-shorter
returns-clause-shorter c =
    subst (λ (xs : List Token). length c.replace.new.dest < length xs) c.self.view_is
    (shorter_item c.self.inside.next c.replace.new.dest (sym c.is_end.ensures ∙ c.if-is_end.false) (c.replace.ensures.after ∙ c.following-following.ensures))
