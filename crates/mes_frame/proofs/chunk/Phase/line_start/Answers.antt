use Rattle.std.proofs.Common.{◌≡◌, arith}
use Rattle.mes_frame.proofs.ChunkFraming.{end_passes}
use Rattle.mes_frame.proofs.chunk.Phase.line_start.Goals as goal

pub returns-then-piece-eq10-clause-passes : goal.returns-then-piece-eq10-clause-passes
returns-then-piece-eq10-clause-passes c = λ w body represents.
    let none : c.in-Data-eq0.left ≡ 0 = omega (arith, c.in-Data-eq0.left-test) in
    end_passes w body c.args.piece.now (omega (arith, c.if-piece-ge2.true)) c.if-piece-eq13.true c.if-piece-eq10.true (rw none at (rw c.in-Data-eq0.is at represents))
