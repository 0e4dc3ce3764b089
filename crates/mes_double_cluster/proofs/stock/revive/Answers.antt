use Rattle.mes_double_cluster.specs.Stock.{revived}
use Rattle.mes_double_cluster.proofs.ListLemmas.{mapped_more}
use Rattle.mes_double_cluster.proofs.stock.revive.Goals as goal

pub loop-stocked-preserved : goal.loop-stocked-preserved
loop-stocked-preserved c =
    mapped_more c.args.stock.now c.loop-stocked.stocked-index c.loop-stocked-test.true revived c.loop-stocked.stock c.stocked-item.result c.revive.new.self
    c.loop-stocked.invariant c.revive.ensures
