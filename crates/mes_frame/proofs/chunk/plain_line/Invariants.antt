use Rattle.std.proofs.Common.{◌-◌}
use Rattle.mes_frame.proofs.ChunkFraming.{SizeSoFar}
use Rattle.mes_frame.proofs.chunk.plain_line.Given as goal

abbrev pub invariant-loop-at : goal.invariant-loop-at
invariant-loop-at l = SizeSoFar l.piece l.start l.at l.size

abbrev pub decreases-loop-at : goal.decreases-loop-at
decreases-loop-at l = l.most - l.at
