use Rattle.std.proofs.Common.{arith}
use Rattle.mes_frame.proofs.ChunkFraming.{digits_fit, digit_more, has_digit, line_passes}
use Rattle.mes_frame.proofs.chunk.plain_line.Goals as goal

pub overflow_mul-size : goal.overflow_mul-size
overflow_mul-size c =
    omega (arith, digits_fit c.args.piece.now c.args.start c.loop-at.at c.loop-at.size 0 c.loop-at.invariant (omega (arith, c.loop-at-test.true, c.min-most.ensures)) (omega arith))

pub overflow_add-size : goal.overflow_add-size
overflow_add-size c =
    omega (arith, c.from.ensures, digits_fit c.args.piece.now c.args.start c.loop-at.at c.loop-at.size c.in-Some.digit c.loop-at.invariant (omega (arith, c.loop-at-test.true, c.min-most.ensures)) c.in-Some.ensures.1)

pub loop-at-preserved : goal.loop-at-preserved
loop-at-preserved c =
    rw c.from.ensures
    (digit_more c.args.piece.now c.args.start c.loop-at.at c.loop-at.size c.in-Some.digit c.loop-at.invariant (omega (arith, c.loop-at-test.true, c.min-most.ensures))
    (omega (arith, c.loop-at-test.true, c.min-most.ensures)) c.in-Some.ensures.0 c.in-Some.ensures.1)

pub returns-then-piece-at-eq10-clause-passes : goal.returns-then-piece-at-eq10-clause-passes
returns-then-piece-at-eq10-clause-passes c = λ w body passes.
    line_passes w body c.args.piece.now c.loop-at.at _ c.loop-at.size (omega (arith, c.if-piece-at-ge2.true)) (has_digit c.args.piece.now c.args.start c.loop-at.at c.loop-at.size c.loop-at.invariant c.if-size-gt0.true)
    c.if-size-gt0.true c.if-piece-at-eq13.true c.if-piece-at-eq10.true (c.loop-at.invariant.passes w body passes)
