use Rattle.std.proofs.Common.{refl, ◌∙◌}
use Rattle.mes_double_http.proofs.PageRuleLemmas.{same_joined}
use Rattle.mes_double_http.proofs.page_rules.is_joined.Goals as goal

pub returns-then-same_text : goal.returns-then-same_text
returns-then-same_text c =
    rw c.if-same_text.true at
    (same_joined c.args.text.now c.args.first.now c.args.second.now _ _ c.same_text.result c.same_text-then-same_text.result c.split.ensures.front c.split.ensures.rest
    c.same_text.ensures c.same_text-then-same_text.ensures)

pub returns-else-same_text : goal.returns-else-same_text
returns-else-same_text c =
    c.if-same_text.false
    ∙ (rw c.if-same_text.false at
    (same_joined c.args.text.now c.args.first.now c.args.second.now _ _ c.same_text.result _ c.split.ensures.front c.split.ensures.rest c.same_text.ensures refl))
