use Rattle.mes_double_cluster.specs.Stock.{after_task}
use Rattle.mes_double_cluster.proofs.ListLemmas.{mapped_more}
use Rattle.mes_double_cluster.proofs.stock.task_ended.Goals as goal

pub loop-stocked-preserved : goal.loop-stocked-preserved
loop-stocked-preserved c =
    mapped_more c.args.stock.now c.loop-stocked.stocked-index c.loop-stocked-test.true (after_task c.args.launch c.args.now) c.loop-stocked.stock c.stocked-item.result c.task_ended.new.self
    c.loop-stocked.invariant c.task_ended.ensures
