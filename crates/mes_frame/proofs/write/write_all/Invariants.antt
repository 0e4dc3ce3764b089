use Rattle.std.proofs.Common.{◌-◌, length}
use Rattle.mes_frame.proofs.Writes.{Wrote}
use Rattle.mes_frame.proofs.write.write_all.Given as goal

-- the bytes before `sent` are written
abbrev pub invariant-loop-sent : goal.invariant-loop-sent
invariant-loop-sent g l = Wrote (g.W.Sink.device l.fn.writer).bytes (g.W.Sink.device l.writer).bytes (g.W.Sink.device l.fn.writer).counts (g.W.Sink.device l.writer).counts l.bytes l.sent

abbrev pub decreases-loop-sent : goal.decreases-loop-sent
decreases-loop-sent g l = length l.bytes - l.sent
