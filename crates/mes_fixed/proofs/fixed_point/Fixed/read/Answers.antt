use Rattle.std.proofs.Common.{arith, Err, Ok, subst, sym}
use Rattle.mes_fixed.specs.declared.fault.NumFault.TheVariants.{Range}
use Rattle.mes_fixed.specs.Value.{GivesUnits, LacksUnits, Reads}
use Rattle.mes_fixed.proofs.Options.{some_if, none_if, refuted}
use Rattle.mes_fixed.proofs.Readings.{decimal_digits, units_only, units_below_zero, units_huge, units_given, units_above, given_ok, given_err}
use Rattle.mes_fixed.proofs.fixed_point.Fixed.read.Goals as goal

pub is_below_zero-requires : goal.is_below_zero-requires
is_below_zero-requires g c = decimal_digits c.args.text.now c.in_ok-decimal.decimal c.in_ok-decimal.ensures.ok

pub returns-then-is_below_zero-clause-only : goal.returns-then-is_below_zero-clause-only
returns-then-is_below_zero-clause-only g c =
    units_only g.row.P c.args.text.now (Err Range) tt
    (units_below_zero g.row.P c.args.text.now c.in_ok-decimal.decimal c.in_ok-decimal.ensures.ok (c.is_below_zero.ensures.0 c.if-is_below_zero.true))

pub returns-then-is_below_zero-clause-fault : goal.returns-then-is_below_zero-clause-fault
returns-then-is_below_zero-clause-fault g c =
    units_below_zero g.row.P c.args.text.now c.in_ok-decimal.decimal c.in_ok-decimal.ensures.ok (c.is_below_zero.ensures.0 c.if-is_below_zero.true)

pub rounded-requires-clause-digits : goal.rounded-requires-clause-digits
rounded-requires-clause-digits g c = decimal_digits c.args.text.now c.in_ok-decimal.decimal c.in_ok-decimal.ensures.ok

pub returns-in_default-rounded-clause-only : goal.returns-in_default-rounded-clause-only
returns-in_default-rounded-clause-only g c =
    units_only g.row.P c.args.text.now (Err Range) tt
    (units_huge g.row.P c.args.text.now c.in_ok-decimal.decimal c.in_ok-decimal.ensures.ok c.requires.places.1 c.in_default-rounded.ensures.none)

pub returns-in_default-rounded-clause-fault : goal.returns-in_default-rounded-clause-fault
returns-in_default-rounded-clause-fault g c =
    units_huge g.row.P c.args.text.now c.in_ok-decimal.decimal c.in_ok-decimal.ensures.ok c.requires.places.1 c.in_default-rounded.ensures.none

pub returns-clause-ok : goal.returns-clause-ok
returns-clause-ok g c =
    given_ok (GivesUnits g.row.P) c.args.text.now c.of_units-2.result c.ok_or.result c.ok_or.ensures.value
    (some_if c.of_units-2.result _ c.in-Some-rounded.units _ c.of_units-2.ensures
    (λ fits. units_given g.row.P c.args.text.now c.in_ok-decimal.decimal c.in-Some-rounded.units c.in_ok-decimal.ensures.ok c.requires.places.1 (refuted c.is_below_zero.result _ c.is_below_zero.ensures c.if-is_below_zero.false) c.in-Some-rounded.ensures.some fits))

pub returns-clause-fault : goal.returns-clause-fault
returns-clause-fault g c =
    given_err (LacksUnits g.row.P) c.args.text.now c.of_units-2.result c.ok_or.result c.ok_or.ensures.value
    (none_if c.of_units-2.result _ c.in-Some-rounded.units _ c.of_units-2.ensures
    (λ over. units_above g.row.P c.args.text.now c.in_ok-decimal.decimal c.in-Some-rounded.units c.in_ok-decimal.ensures.ok c.requires.places.1 c.in-Some-rounded.ensures.some (omega (arith, over))))

pub returns-clause-only : goal.returns-clause-only
returns-clause-only g c = units_only g.row.P c.args.text.now c.ok_or.result (returns-clause-ok g c) (returns-clause-fault g c)

pub returns-in-Some-of_units-clause-only : goal.returns-in-Some-of_units-clause-only
returns-in-Some-of_units-clause-only g c = units_only g.row.P c.args.text.now (Ok c.in-Some-of_units.fixed)
    (subst (Reads (GivesUnits g.row.P) c.args.text.now) (sym c.in-Some-of_units.ensures.1) (c.in-Some.ensures c.in-Some-of_units.ensures.0)) tt
