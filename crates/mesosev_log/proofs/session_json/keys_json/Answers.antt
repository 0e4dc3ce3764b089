use Rattle.std.proofs.Common.{List, map, ◌∙◌, ap}
use Rattle.std.proofs.lemmas.List.{take_all}
use Rattle.mes_json.specs.Tree.{Tree}
use Rattle.mes_json.specs.Tree.Tree.{array}
use Rattle.mes_json.specs.View.{view, items_of}
use Rattle.mes_model_schema.proofs.TreeLemmas.{view_list}
use Rattle.mesosev_log.specs.SessionJson.{key_tree}
use Rattle.mesosev_log.proofs.SessionLemmas.{tree_more, none_missing}
use Rattle.mesosev_log.proofs.session_json.keys_json.Goals.{in-Some+in_ok-push_key, in_default}
use Rattle.mesosev_log.proofs.session_json.keys_json.Goals as goal

pub loop-index-preserved : goal.loop-index-preserved
loop-index-preserved c = elim c.match-owed_at.branch [
  | in-Some+in_ok-push_key w ↦ rw w.trees-is (tree_more key_tree c.args.session.now.owed c.loop-index.index w.in-Some.key.now (map view c.loop-index.trees.items) _ (rw w.in-Some.is at c.owed_at.ensures) c.loop-index.invariant w.in_ok-push_key.ensures)
  | in_default w ↦ absurd (none_missing key_tree c.args.session.now.owed c.loop-index.index (rw c.owed_len-index-end.ensures at c.loop-index-test.true) (rw w.in_default.is at c.owed_at.ensures))
]

pub returns : goal.returns
returns c =
    view_list c.loop-index.trees ∙ ap (λ (ts : List Tree). array (items_of ts))
    (c.loop-index.invariant ∙ ap (map key_tree) (take_all c.loop-index.index c.args.session.now.owed (rw c.owed_len-index-end.ensures at c.loop-index-test.false)))
