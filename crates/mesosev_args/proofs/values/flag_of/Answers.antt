use Rattle.std.proofs.Common.{rules}
use Rattle.clap.specs.Words.{found_of}
use Rattle.mesosev_args.proofs.OptionLemmas.{flag_read, flag_unset}
use Rattle.mesosev_args.proofs.values.flag_of.Goals as goal

pub returns-in-Some : goal.returns-in-Some
returns-in-Some c =
    flag_read _ c.args.name.now (found_of c.args.matches.now) c.get_one.result c.get_one.ensures.value c.get_one.ensures.none c.in-Some.is_set c.in-Some.is

pub returns-in-None : goal.returns-in-None
returns-in-None c =
    flag_unset _ c.args.name.now (found_of c.args.matches.now) c.get_one.result c.get_one.ensures.value (λ e. first_of (search rules, cc))
