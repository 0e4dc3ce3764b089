use Rattle.std.proofs.Common.{arith}
use Rattle.mes_fixed.proofs.PlainNumbers.{one_more}
use Rattle.mes_fixed.proofs.plain.with_digits.Goals as goal

pub loop-digit-preserved : goal.loop-digit-preserved
loop-digit-preserved c =
    let digit = c.if-not-is_ascii_digit.ensures.cases in (
      one_more c.args.value c.args.digits.now c.loop-digit.digit-index c.loop-digit.more c.in_ok-more.more c.loop-digit-test.true digit.0 digit.1 c.loop-digit.invariant.0
          (omega (arith, c.in_ok-checked_mul.ensures, c.in_ok-more.ensures, c.from.ensures)),
      omega (arith, c.in_ok-more.ensures),
    )
