use Rattle.mes_frame.proofs.SizeLines.{LineSoFar}
use Rattle.mes_frame.proofs.size_line.chunk_line.Given as goal

-- the buffer has the last digits of the size, from `start` on
abbrev pub invariant-loop-rest : goal.invariant-loop-rest
invariant-loop-rest l = LineSoFar l.size l.start l.rest l.buffer

abbrev pub decreases-loop-rest : goal.decreases-loop-rest
decreases-loop-rest l = l.start
