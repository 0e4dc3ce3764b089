use Rattle.std.proofs.Common.{◌≡◌, take, map}
use Rattle.mes_json.specs.View.{view}
use Rattle.mes_model_schema.specs.Rows.{ReturnsEach}
use Rattle.mes_model_schema.proofs.write_row.list_tree.Given as goal

abbrev pub invariant-loop-value : goal.invariant-loop-value
invariant-loop-value g l =
    (map view l.trees.items ≡ map g.T.Part.kind.tree (take l.value-index l.value-items))
    × ReturnsEach g.T.Part.kind (take l.value-index l.value-items)
