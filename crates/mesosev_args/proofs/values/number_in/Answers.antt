use Rattle.std.proofs.Common.{refl, arith}
use Rattle.clap.specs.Words.{found_of}
use Rattle.mesosev_args.proofs.NumberLemmas.{number_out, number_read, number_unread}
use Rattle.mesosev_args.proofs.values.number_in.Goals.{in_default-via-in-Some+then-least-number+else-number-greatest, in_default-via-in-Some+else-least-number, in_default-via-in_default}
use Rattle.mesosev_args.proofs.values.number_in.Goals as goal

pub returns-in-Some-clause-ok : goal.returns-in-Some-clause-ok
returns-in-Some-clause-ok c =
    number_read (found_of c.args.matches.now) c.args.name.now c.get_one.result c.get_one.ensures.value c.get_one.ensures.none c.in-Some.number c.in-Some.is

pub returns-in_default-clause-err : goal.returns-in_default-clause-err
returns-in_default-clause-err c = (
  refl,
  elim c.in_default.branch [
    | in_default-via-in-Some+then-least-number+else-number-greatest w ↦
        number_out (found_of c.args.matches.now) c.args.name.now c.get_one.result c.get_one.ensures.value c.get_one.ensures.none c.args.least c.args.greatest
        w.in-Some.number w.in-Some.is (λ r. omega (arith, r.1, w.if-number-greatest.false))
    | in_default-via-in-Some+else-least-number w ↦
        number_out (found_of c.args.matches.now) c.args.name.now c.get_one.result c.get_one.ensures.value c.get_one.ensures.none c.args.least c.args.greatest
        w.in-Some.number w.in-Some.is (λ r. omega (arith, r.0, w.if-least-number.false))
    | in_default-via-in_default w ↦
        number_unread (found_of c.args.matches.now) c.args.name.now c.get_one.result c.get_one.ensures.value c.args.least c.args.greatest c.ranges.greatest.fits w.in_default.is
  ],
)
