use Rattle.std.proofs.Common.{refl, rules}
use Rattle.std.specs.Prelude.{codes}
use Rattle.clap.specs.Words.{found_of, rows_of}
use Rattle.mesosev_args.specs.NamedOptions.{the_size}
use Rattle.mesosev_args.proofs.SettingLemmas.{bad_read, loopback_good}
use Rattle.mesosev_args.proofs.loopback.read.Goals as goal

pub returns-in_err-most : goal.returns-in_err-most
returns-in_err-most c =
    bad_read (codes "loopback") (rows_of (found_of c.args.found.now)) the_size c.in_err-most.field-0.0 c.from_residual.result (search rules) refl
    (loopback_good (rows_of (found_of c.args.found.now))) c.in_err-most.ensures.err
