use Rattle.mes_double_cluster.specs.Stock.{accepted}
use Rattle.mes_double_cluster.proofs.ListLemmas.{mapped_more}
use Rattle.mes_double_cluster.proofs.stock.accepted.Goals as goal

pub loop-stocked-preserved : goal.loop-stocked-preserved
loop-stocked-preserved c =
    mapped_more c.args.stock.now c.loop-stocked.stocked-index c.loop-stocked-test.true (accepted c.args.ids.now c.args.launch c.args.tasks c.args.from) c.loop-stocked.stock c.stocked-item.result c.accepted.new.self
    c.loop-stocked.invariant c.accepted.ensures
