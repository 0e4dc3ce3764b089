use Rattle.std.proofs.Common.{arith}
use Rattle.mes_fixed.proofs.DigitValues.{cut_half, cut_below, above_zero}
use Rattle.mes_fixed.proofs.digits.cut_of.Goals as goal
use Rattle.mes_fixed.proofs.digits.cut_of.Goals.{else-dropped-places-via-then-dropped-places+else-dropped-ge53, else-dropped-places-via-else-dropped-places}

pub returns-then-dropped-ge53 : goal.returns-then-dropped-ge53
returns-then-dropped-ge53 c = cut_half c.args.dropped.now c.args.places c.requires.digits (omega arith) c.requires.some (omega arith)

pub returns-else-dropped-places : goal.returns-else-dropped-places
returns-else-dropped-places c = (
  above_zero c.are_zeros.result _ c.are_zeros.ensures c.if-are_zeros.false,
  elim c.else-dropped-places.branch [
    | else-dropped-places-via-then-dropped-places+else-dropped-ge53 w ↦
        cut_below c.args.dropped.now c.args.places c.requires.digits c.requires.short (λ _. omega arith) c.requires.some
    | else-dropped-places-via-else-dropped-places w ↦
        cut_below c.args.dropped.now c.args.places c.requires.digits c.requires.short (λ e. absurd (omega arith)) c.requires.some
  ],
)
