use Rattle.std.proofs.Common.{◌≡◌, take}
use Rattle.mes_json.specs.Tape.{spelled}
use Rattle.mes_json.specs.Build.{building_view}
use Rattle.mes_json.proofs.tree_builder.to_json.Given as goal

abbrev pub invariant-loop-node : goal.invariant-loop-node
invariant-loop-node l = building_view l.building ≡ spelled l.texts (take l.node-index l.nodes)
