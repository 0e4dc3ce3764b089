use Rattle.mes_frame.proofs.Writes.{wrote_more}
use Rattle.mes_frame.proofs.write.write_all.Goals as goal

pub loop-sent-preserved : goal.loop-sent-preserved
loop-sent-preserved g c =
    wrote_more _ _ _ _ _ _ _ _ _ c.loop-sent.invariant c.loop-sent-test.true c.in-Ok.count-test.1 c.in-Ok.ensures.within c.in-Ok.ensures.bytes c.in-Ok.ensures.counted
