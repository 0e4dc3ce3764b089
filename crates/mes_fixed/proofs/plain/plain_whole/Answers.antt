use Rattle.mes_fixed.proofs.Options.{if_some_both}
use Rattle.mes_fixed.proofs.PlainNumbers.{digits_give}
use Rattle.mes_fixed.proofs.plain.plain_whole.Goals as goal

pub returns : goal.returns
returns c =
    if_some_both c.with_digits.result _ _ _ c.with_digits.ensures.digits c.with_digits.ensures.bound
    (λ v reported bound. digits_give v c.args.text.now (c.may_be_int.ensures c.if-not-may_be_int.false reported.0) c.if-text-gt-MAX_NUMBER_TEXT.false reported.1 bound)
