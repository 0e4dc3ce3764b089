use Rattle.mes_frame.specs.RecordState.{RecordStands}
use Rattle.mes_frame.proofs.Records.{digit_kept}
use Rattle.mes_frame.proofs.record.after_digit.Goals as goal

pub returns-clause-steps : goal.returns-clause-steps
unfolding RecordStands
returns-clause-steps c = λ x r limit kept.
    (digit_kept _ _ c.saturating_mul.result c.from-digit.result _ _ x r kept c.if-digits-ge-MAX_SIZE_DIGITS.false c.requires c.saturating_mul.ensures c.from-digit.ensures c.saturating_add.ensures, kept.empty)
