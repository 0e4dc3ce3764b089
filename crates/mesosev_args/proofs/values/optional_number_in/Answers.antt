use Rattle.std.proofs.Common.{refl, rules, arith}
use Rattle.clap.specs.Words.{found_of}
use Rattle.mesosev_args.proofs.OptionLemmas.{optional_absent, optional_given, optional_out, optional_unread}
use Rattle.mesosev_args.proofs.values.optional_number_in.Goals.{in_default-via-in-Ok-Some+then-least-number+else-number-greatest, in_default-via-in-Ok-Some+else-least-number, in_default-via-in_default}
use Rattle.mesosev_args.proofs.values.optional_number_in.Goals as goal

pub returns-in-Ok-None-clause-ok : goal.returns-in-Ok-None-clause-ok
returns-in-Ok-None-clause-ok c =
    optional_absent c.args.name.now (found_of c.args.matches.now) c.try_get_one.result c.try_get_one.ensures.value (first_of (search rules, cc))

pub returns-in-Ok-Some-clause-ok : goal.returns-in-Ok-Some-clause-ok
returns-in-Ok-Some-clause-ok c =
    optional_given c.args.name.now (found_of c.args.matches.now) c.try_get_one.result c.try_get_one.ensures.value c.try_get_one.ensures.none c.in-Ok-Some.number
    (first_of (search rules, cc))

pub returns-in_default-clause-err : goal.returns-in_default-clause-err
returns-in_default-clause-err c = (
  refl,
  elim c.in_default.branch [
    | in_default-via-in-Ok-Some+then-least-number+else-number-greatest w ↦
        optional_out c.args.name.now (found_of c.args.matches.now) c.try_get_one.result c.try_get_one.ensures.value c.try_get_one.ensures.none c.args.least c.args.greatest
        w.in-Ok-Some.number (first_of (search rules, cc)) (λ r. omega (arith, r.1, w.if-number-greatest.false))
    | in_default-via-in-Ok-Some+else-least-number w ↦
        optional_out c.args.name.now (found_of c.args.matches.now) c.try_get_one.result c.try_get_one.ensures.value c.try_get_one.ensures.none c.args.least c.args.greatest
        w.in-Ok-Some.number (first_of (search rules, cc)) (λ r. omega (arith, r.0, w.if-least-number.false))
    | in_default-via-in_default w ↦
        optional_unread c.args.name.now (found_of c.args.matches.now) c.try_get_one.result c.try_get_one.ensures.value c.try_get_one.ensures.none c.args.least c.args.greatest
        c.ranges.greatest.fits _ w.in_default.is
  ],
)
