use Rattle.mes_double_live.proofs.LaunchLemmas.{adds-groups, adds-group, adds-none}
use Rattle.mes_double_live.proofs.live.accepting.plan_all.Goals as goal

pub loop-operation-init : goal.loop-operation-init
loop-operation-init c = adds-none c.args.master.now.launched c.args.offers.now _

pub loop-operation-preserved : goal.loop-operation-preserved
loop-operation-preserved c =
    adds-group _ c.args.operations.now c.loop-operation.operation-index _ _ _ _ _ _ c.loop-operation-test.true c.operation-item.is (cc) c.loop-operation.invariant c.in_ok-plan_group.ensures

pub returns : goal.returns
returns c = adds-groups _ c.args.operations.now c.loop-operation.operation-index _ _ _ c.loop-operation-test.false c.loop-operation.invariant
