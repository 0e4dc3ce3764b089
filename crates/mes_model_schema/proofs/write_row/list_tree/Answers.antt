use Rattle.std.proofs.Common.{List, map, ◌∙◌, ap}
use Rattle.std.proofs.lemmas.List.{take_all}
use Rattle.mes_json.specs.Tree.{Tree}
use Rattle.mes_json.specs.Tree.Tree.{array}
use Rattle.mes_json.specs.View.{view, items_of}
use Rattle.mes_model_schema.proofs.ListLemmas.{trees_next, returns_next}
use Rattle.mes_model_schema.proofs.TreeLemmas.{view_list}
use Rattle.mes_model_schema.proofs.write_row.list_tree.Goals as goal

pub loop-value-preserved : goal.loop-value-preserved
loop-value-preserved g c = (
  rw (c.in_ok-push.ensures.items)
      (trees_next view g.T.Part.kind.tree c.as_slice-value-items.result.now c.loop-value.value-index c.value-item.result _ _ c.loop-value-test.true c.value-item.is
      c.loop-value.invariant.0 c.in_ok-tree.ensures.tree),
  returns_next g.T.Part.kind c.as_slice-value-items.result.now c.loop-value.value-index c.value-item.result c.loop-value-test.true c.value-item.is
      c.loop-value.invariant.1 c.in_ok-tree.ensures.back,
)

pub returns-clause-tree : goal.returns-clause-tree
returns-clause-tree g c =
    let all = c.loop-value.invariant.0
    ∙ ap (map g.T.Part.kind.tree) (take_all c.loop-value.value-index c.as_slice-value-items.result.now c.loop-value-test.false ∙ c.as_slice-value-items.ensures) in
    view_list c.loop-value.trees ∙ ap (λ (ts : List Tree). array (items_of ts)) all
