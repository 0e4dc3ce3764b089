use Rattle.std.proofs.Common.{arith, ◌+◌}
use Rattle.mes_fixed.proofs.Scaling.{cut_rounded_up, huge_rounded}
use Rattle.mes_fixed.proofs.Options.{some_if, none_if}
use Rattle.mes_fixed.proofs.decimal.Decimal.rounded.Goals as goal

pub returns-in_err-scaled-clause-none : goal.returns-in_err-scaled-clause-none
returns-in_err-scaled-clause-none c = rw c.from_residual.ensures (huge_rounded _ _ c.in_err-scaled.ensures.none)

pub returns-in-HalfOrMore-clause-some : goal.returns-in-HalfOrMore-clause-some
returns-in-HalfOrMore-clause-some c = some_if c.checked_add.result _ _ _ c.checked_add.ensures (λ _. cut_rounded_up _ _ c.in_ok-scaled.scaled c.in_ok-scaled.ensures.some c.in-HalfOrMore.is)

pub returns-in-HalfOrMore-clause-none : goal.returns-in-HalfOrMore-clause-none
returns-in-HalfOrMore-clause-none c =
    none_if c.checked_add.result _ _ _ c.checked_add.ensures
    (λ over. (c.in_ok-scaled.scaled.whole + 1, cut_rounded_up _ _ c.in_ok-scaled.scaled c.in_ok-scaled.ensures.some c.in-HalfOrMore.is, omega (arith, over)))
