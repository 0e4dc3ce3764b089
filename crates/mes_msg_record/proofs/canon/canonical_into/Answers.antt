use Rattle.std.proofs.Common.{List, ℕ, subst, arith}
use Rattle.mes_model_schema.proofs.AppendLemmas.{appended_is_text}
use Rattle.mes_model_schema.specs.Appended.{Appends}
use Rattle.mes_model_schema.specs.JsonLimits.{MAX_NESTING}
use Rattle.mes_msg_record.proofs.canon.canonical_into.Goals as goal

pub returns-clause-again : goal.returns-clause-again
returns-clause-again g c =
    let tree = g.T.Part.kind.tree c.args.value.now in
    let text = c.write_json.new.out.items in
    let depth = c.in_ok-depth.depth in
    let whole = subst (λ (old : List ℕ). Appends old tree text depth) c.clear.ensures.items c.in_ok-depth.ensures.text in
    (tree, appended_is_text tree text depth MAX_NESTING whole (omega (arith, c.if-depth.false)) (omega arith), c.in_ok-depth.ensures.back)
