use Rattle.mes_fixed.proofs.Scaling.{cut_no_whole}
use Rattle.mes_fixed.proofs.decimal.Decimal.whole.Goals as goal

pub returns-in-BelowHalf : goal.returns-in-BelowHalf
returns-in-BelowHalf c = record { some = tt; bound = tt; none = λ v e. absurd (cut_no_whole _ _ v c.in_ok-scaled.scaled c.in_ok-scaled.ensures.some c.in-BelowHalf.is e) }
