use Rattle.std.proofs.Common.{◌<◌, List, length, sym, subst}
use Rattle.mes_json.specs.Tokens.{Token, BeginsMembers}
use Rattle.mes_json.proofs.NextLemmas.{next_member, shorter_member}
use Rattle.mes_json.proofs.cursor.Members.next.Goals as goal

pub returns-clause-member : goal.returns-clause-member
returns-clause-member c ms begins =
    next_member c.self.inside.next c.inside-value.result c.following-self-inside.result ms c.in_ok-name.name.now (sym c.in_ok-name.ensures) c.inside-value.ensures
    c.following-self-inside.ensures (subst (λ (xs : List Token). BeginsMembers xs ms) (sym c.self.view_is) begins)

pub returns-clause-shorter : goal.returns-clause-shorter
returns-clause-shorter c =
    subst (λ (xs : List Token). length c.following-self-inside.result < length xs) c.self.view_is
    (shorter_member c.self.inside.next c.inside-value.result c.following-self-inside.result c.in_ok-name.name.now (sym c.in_ok-name.ensures) c.inside-value.ensures
    c.following-self-inside.ensures)
