use Rattle.std.proofs.Common.{List, map, ◌∙◌, ap}
use Rattle.std.proofs.lemmas.List.{take_all}
use Rattle.mes_json.specs.Tree.{Tree}
use Rattle.mes_json.specs.Tree.Tree.{array}
use Rattle.mes_json.specs.View.{view, items_of}
use Rattle.mes_model_schema.proofs.ListLemmas.{trees_next}
use Rattle.mes_model_schema.proofs.TreeLemmas.{view_list}
use Rattle.mes_double_state.proofs.json.array_json.Goals as goal

pub loop-value-preserved : goal.loop-value-preserved
loop-value-preserved g c =
    rw (c.in_ok-push.ensures.items)
    (trees_next view g.T.ToJson.tree c.args.values.now c.loop-value.value-index c.value-item.result _ _ c.loop-value-test.true c.value-item.is
    c.loop-value.invariant c.in_ok-to_json.ensures)

pub returns : goal.returns
returns g c =
    view_list c.loop-value.trees ∙ ap (λ (ts : List Tree). array (items_of ts))
    (c.loop-value.invariant ∙ ap (map g.T.ToJson.tree) (take_all c.loop-value.value-index c.args.values.now c.loop-value-test.false))
