use Rattle.std.proofs.Common.{refl, rules}
use Rattle.clap.specs.Words.{found_of}
use Rattle.mesosev_args.proofs.OptionLemmas.{most_absent, most_given, most_out, most_unread}
use Rattle.mesosev_args.proofs.values.most_of.Goals as goal

pub returns-in-Ok-None-clause-ok : goal.returns-in-Ok-None-clause-ok
returns-in-Ok-None-clause-ok c =
    most_absent (found_of c.args.matches.now) c.try_get_one.result c.try_get_one.ensures.value (first_of (search rules, cc))

pub returns-in-Some-clause-ok : goal.returns-in-Some-clause-ok
returns-in-Some-clause-ok c =
    most_given (found_of c.args.matches.now) c.try_get_one.result c.try_get_one.ensures.value c.try_get_one.ensures.none c.in-Ok-Some.most c.in-Some.size
    (first_of (search rules, cc)) (c.in-Some.ensures.1)

pub returns-in-None-clause-err : goal.returns-in-None-clause-err
returns-in-None-clause-err c = (
  refl,
  most_out (found_of c.args.matches.now) c.try_get_one.result c.try_get_one.ensures.value c.try_get_one.ensures.none c.in-Ok-Some.most
      (first_of (search rules, cc)) c.in-None.ensures,
)

pub returns-in-Err-clause-err : goal.returns-in-Err-clause-err
returns-in-Err-clause-err c = (
  refl,
  most_unread (found_of c.args.matches.now) c.try_get_one.result c.try_get_one.ensures.value c.try_get_one.ensures.none c.in-Err.field-0 c.in-Err.is,
)
