use Rattle.mes_double_live.proofs.LaunchLemmas.{adds-all, adds-next, adds-none}
use Rattle.mes_double_live.proofs.live.accepting.plan_group.Goals as goal

pub loop-task-init : goal.loop-task-init
loop-task-init c = adds-none c.args.master.now.launched c.args.offers.now _

pub loop-task-preserved : goal.loop-task-preserved
loop-task-preserved c =
    adds-next _ c.args.tasks.now c.loop-task.task-index _ _ _ _ _ c.loop-task-test.true c.task-item.is c.loop-task.invariant c.in_ok-plan_task.ensures

pub returns : goal.returns
returns c = adds-all _ c.args.tasks.now c.loop-task.task-index _ _ _ c.loop-task-test.false c.loop-task.invariant
