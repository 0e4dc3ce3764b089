use Rattle.std.proofs.Common.{map, take}
use Rattle.mes_model_schema.specs.Appended.{AppendsItems}
use Rattle.mes_model_schema.specs.Rows.{ReturnsEach}
use Rattle.mes_model_schema.proofs.append.append_items.Given as goal

abbrev pub invariant-loop-value : goal.invariant-loop-value
invariant-loop-value g l =
    AppendsItems l.initial.out.items (map g.T.Part.kind.tree (take l.value-index l.values)) l.out.items l.deepest
    × ReturnsEach g.T.Part.kind (take l.value-index l.values)
