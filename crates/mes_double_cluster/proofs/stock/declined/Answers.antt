use Rattle.mes_double_cluster.specs.Stock.{declined}
use Rattle.mes_double_cluster.proofs.ListLemmas.{mapped_more}
use Rattle.mes_double_cluster.proofs.stock.declined.Goals as goal

pub loop-stocked-preserved : goal.loop-stocked-preserved
loop-stocked-preserved c =
    mapped_more c.args.stock.now c.loop-stocked.stocked-index c.loop-stocked-test.true (declined c.args.ids.now c.args.from) c.loop-stocked.stock c.stocked-item.result c.declined.new.self
    c.loop-stocked.invariant c.declined.ensures
