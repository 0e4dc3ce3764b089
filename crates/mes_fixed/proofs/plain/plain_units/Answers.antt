use Rattle.mes_fixed.proofs.Options.{if_some_so}
use Rattle.mes_fixed.proofs.PlainNumbers.{units_plain}
use Rattle.mes_fixed.proofs.plain.plain_units.Goals as goal

pub returns : goal.returns
returns c =
    let whole = c.in_ok-with_digits.ensures.digits in
    let all = c.in_ok-value.ensures.digits in
    if_some_so c.with_zeros.result _ _ c.with_zeros.ensures.some
    (λ units is le. units_plain c.args.places c.in_ok-point.point c.in_ok-with_digits.field-0 c.in_ok-value.value units c.args.text.now c.split_at.result.0.now c.split_at.result.1.now
    c.requires c.if-text-gt-MAX_NUMBER_TEXT.false c.in_ok-point.ensures.0 c.in_ok-point.ensures.1 c.split_at.ensures.front c.split_at.ensures.back
    (c.may_be_int.ensures c.if-not-may_be_int.false whole.0) whole.1 c.if-is_empty.ensures c.if-fraction-places.false all.0 all.1 is le)
