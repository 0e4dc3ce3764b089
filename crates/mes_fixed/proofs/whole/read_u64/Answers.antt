use Rattle.std.proofs.Common.{Err, Ok}
use Rattle.mes_fixed.specs.declared.fault.NumFault.TheVariants.{Range}
use Rattle.mes_fixed.specs.Value.{GivesWhole, LacksWhole}
use Rattle.mes_fixed.proofs.Options.{if_some_both, if_none_map, refuted}
use Rattle.mes_fixed.proofs.Readings.{decimal_digits, whole_only, whole_below_zero, whole_given, whole_lacks, given_ok, given_err}
use Rattle.mes_fixed.proofs.whole.read_u64.Goals as goal

pub is_below_zero-requires : goal.is_below_zero-requires
is_below_zero-requires c = decimal_digits c.args.text.now c.in_ok-decimal.decimal c.in_ok-decimal.ensures.ok

pub returns-then-is_below_zero-clause-fault : goal.returns-then-is_below_zero-clause-fault
returns-then-is_below_zero-clause-fault c =
    whole_below_zero c.args.text.now c.in_ok-decimal.decimal c.in_ok-decimal.ensures.ok (c.is_below_zero.ensures.0 c.if-is_below_zero.true)

pub returns-then-is_below_zero-clause-only : goal.returns-then-is_below_zero-clause-only
returns-then-is_below_zero-clause-only c =
    whole_only c.args.text.now (Err Range) tt
    (whole_below_zero c.args.text.now c.in_ok-decimal.decimal c.in_ok-decimal.ensures.ok (c.is_below_zero.ensures.0 c.if-is_below_zero.true))

pub whole-requires : goal.whole-requires
whole-requires c = decimal_digits c.args.text.now c.in_ok-decimal.decimal c.in_ok-decimal.ensures.ok

pub returns-clause-ok : goal.returns-clause-ok
returns-clause-ok c =
    given_ok GivesWhole c.args.text.now c.whole.result c.ok_or.result c.ok_or.ensures.value
    (if_some_both c.whole.result _ _ _ c.whole.ensures.some c.whole.ensures.bound
    (λ v whole bound. whole_given c.args.text.now c.in_ok-decimal.decimal v c.in_ok-decimal.ensures.ok (refuted c.is_below_zero.result _ c.is_below_zero.ensures c.if-is_below_zero.false) whole bound))

pub returns-clause-fault : goal.returns-clause-fault
returns-clause-fault c =
    given_err LacksWhole c.args.text.now c.whole.result c.ok_or.result c.ok_or.ensures.value
    (if_none_map c.whole.result _ _ (λ none. whole_lacks c.args.text.now c.in_ok-decimal.decimal c.in_ok-decimal.ensures.ok none) c.whole.ensures.none)

pub returns-clause-only : goal.returns-clause-only
returns-clause-only c = whole_only c.args.text.now c.ok_or.result (returns-clause-ok c) (returns-clause-fault c)

pub returns-in-Some-clause-only : goal.returns-in-Some-clause-only
returns-in-Some-clause-only c = whole_only c.args.text.now (Ok c.in-Some.value) c.in-Some.ensures tt
