use Rattle.std.proofs.Common.{◌≡◌, take, map}
use Rattle.mes_json.specs.View.{view}
use Rattle.mes_double_state.proofs.json.array_json.Given as goal

-- the trees of the first values
abbrev pub invariant-loop-value : goal.invariant-loop-value
invariant-loop-value g l = map view l.trees.items ≡ map g.T.ToJson.tree (take l.value-index l.values)
