use Rattle.std.proofs.Common.{List, map, ◌∙◌, ap}
use Rattle.std.proofs.lemmas.List.{take_all}
use Rattle.mes_json.specs.Tree.{Tree}
use Rattle.mes_json.specs.Tree.Tree.{array}
use Rattle.mes_json.specs.View.{view, items_of}
use Rattle.mes_model_schema.proofs.TreeLemmas.{view_list}
use Rattle.mes_double_state.specs.States.{id_tree}
use Rattle.mes_double_state.proofs.ItemLemmas.{tree_more, none_missing}
use Rattle.mes_double_state.proofs.tasks.launched_json.Goals.{in-Some+in_ok-push_id, in_default}
use Rattle.mes_double_state.proofs.tasks.launched_json.Goals as goal

pub loop-index-preserved : goal.loop-index-preserved
loop-index-preserved c = elim c.match-launched_at.branch [
  | in-Some+in_ok-push_id w ↦ rw w.trees-is (tree_more id_tree c.args.master.now.launched c.loop-index.index w.in-Some.id.now (map view c.loop-index.trees.items) _ (rw w.in-Some.is at c.launched_at.ensures) c.loop-index.invariant w.in_ok-push_id.ensures)
  | in_default w ↦ absurd (none_missing id_tree c.args.master.now.launched c.loop-index.index (rw c.launched_len-index-end.ensures at c.loop-index-test.true) (rw w.in_default.is at c.launched_at.ensures))
]

pub returns : goal.returns
returns c =
    view_list c.loop-index.trees ∙ ap (λ (ts : List Tree). array (items_of ts))
    (c.loop-index.invariant ∙ ap (map id_tree) (take_all c.loop-index.index c.args.master.now.launched (rw c.launched_len-index-end.ensures at c.loop-index-test.false)))
