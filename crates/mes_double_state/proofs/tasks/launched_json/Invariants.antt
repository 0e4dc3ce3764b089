use Rattle.std.proofs.Common.{◌≡◌, take, map}
use Rattle.mes_json.specs.View.{view}
use Rattle.mes_double_state.specs.States.{id_tree}
use Rattle.mes_double_state.proofs.tasks.launched_json.Given as goal

-- the trees of the first ones
abbrev pub invariant-loop-index : goal.invariant-loop-index
invariant-loop-index l = map view l.trees.items ≡ map id_tree (take l.index l.master.launched)
