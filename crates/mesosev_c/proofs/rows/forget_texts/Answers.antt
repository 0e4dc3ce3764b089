use Rattle.std.proofs.Common.{arith}
use Rattle.mesosev_c.proofs.RowLemmas.{forgets_more}
use Rattle.mesosev_c.proofs.rows.forget_texts.Goals as goal

pub loop-row-preserved : goal.loop-row-preserved
loop-row-preserved c = forgets_more c.args.rows.now c.loop-row.row-index _ (omega arith) c.loop-row.rows c.loop-row.invariant
