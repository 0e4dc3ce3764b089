use Rattle.std.proofs.Common.{◌+◌, refl}
use Rattle.mes_json.specs.Build.{building_view}
use Rattle.mes_json.specs.declared.tape.Node.TheVariants.{Null}
use Rattle.mes_json.proofs.BuildLemmas.{node_taken}
use Rattle.mes_json.proofs.TreeLemmas.{found_early}
use Rattle.mes_json.proofs.tree_builder.to_json.Goals as goal

pub loop-node-preserved : goal.loop-node-preserved
loop-node-preserved c =
    node_taken c.args.texts.now c.args.nodes.now Null c.loop-node.node-index _ _ c.loop-node-test.true c.loop-node.invariant c.in_ok-apply.ensures

pub returns-then-is_whole : goal.returns-then-is_whole
returns-then-is_whole c =
    found_early c.args.texts.now c.args.nodes.now (c.loop-node.node-index + 1) (building_view c.apply.new.self) c.finish.result
    (node_taken c.args.texts.now c.args.nodes.now Null c.loop-node.node-index _ _ c.loop-node-test.true c.loop-node.invariant c.in_ok-apply.ensures)
    (c.if-is_whole.ensures refl) c.finish.ensures
