use Rattle.mes_double_cluster.specs.Tasks.{killed}
use Rattle.mes_double_cluster.proofs.ListLemmas.{mapped_more}
use Rattle.mes_double_cluster.proofs.task_list.killed.Goals as goal

pub loop-task-preserved : goal.loop-task-preserved
loop-task-preserved c =
    mapped_more c.args.tasks.now c.loop-task.task-index c.loop-task-test.true (killed c.args.id.now) c.loop-task.tasks c.task-item.result c.killed.new.self
    c.loop-task.invariant c.killed.ensures
