use Rattle.std.proofs.Common.{Err, refl}
use Rattle.mes_fixed.specs.declared.fault.NumFault.TheVariants.{Range}
use Rattle.mes_fixed.specs.Value.{GivesSigned, LacksSigned, signed}
use Rattle.mes_fixed.proofs.Options.{some_if, none_if}
use Rattle.mes_fixed.proofs.Readings.{decimal_digits, signed_only, signed_given, signed_lacks, signed_outside, given_ok, given_err}
use Rattle.mes_fixed.proofs.whole.read_i32.Goals as goal

pub whole-requires : goal.whole-requires
whole-requires c = decimal_digits c.args.text.now c.in_ok-decimal.decimal c.in_ok-decimal.ensures.ok

pub returns-in_default-clause-fault : goal.returns-in_default-clause-fault
returns-in_default-clause-fault c = signed_lacks c.args.text.now c.in_ok-decimal.decimal c.in_ok-decimal.ensures.ok c.in_default.ensures.none

pub returns-in_default-clause-only : goal.returns-in_default-clause-only
returns-in_default-clause-only c =
    signed_only c.args.text.now (Err Range) tt (signed_lacks c.args.text.now c.in_ok-decimal.decimal c.in_ok-decimal.ensures.ok c.in_default.ensures.none)

pub returns-clause-ok : goal.returns-clause-ok
returns-clause-ok c =
    let d = c.in_ok-decimal.decimal in
    given_ok GivesSigned c.args.text.now c.with_sign.result c.ok_or.result c.ok_or.ensures.value
    (some_if c.with_sign.result _ _ _ c.with_sign.ensures
    (λ fits. signed_given c.args.text.now d c.in-Some.size (signed d.negative c.in-Some.size) c.in_ok-decimal.ensures.ok c.in-Some.ensures.some c.in-Some.ensures.bound refl fits))

pub returns-clause-fault : goal.returns-clause-fault
returns-clause-fault c =
    given_err LacksSigned c.args.text.now c.with_sign.result c.ok_or.result c.ok_or.ensures.value
    (none_if c.with_sign.result _ _ _ c.with_sign.ensures
    (λ outside. signed_outside c.args.text.now c.in_ok-decimal.decimal c.in-Some.size c.in_ok-decimal.ensures.ok c.in-Some.ensures.some c.in-Some.ensures.bound outside))

pub returns-clause-only : goal.returns-clause-only
returns-clause-only c = signed_only c.args.text.now c.ok_or.result (returns-clause-ok c) (returns-clause-fault c)
