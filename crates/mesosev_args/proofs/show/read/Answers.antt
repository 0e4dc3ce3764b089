use Rattle.std.proofs.Common.{refl, rules}
use Rattle.std.specs.Prelude.{codes}
use Rattle.clap.specs.Words.{found_of, rows_of}
use Rattle.mesosev_args.specs.NamedOptions.{lines_or_chunked, the_limit}
use Rattle.mesosev_args.proofs.SettingLemmas.{bad_read, conflict_read, show_good}
use Rattle.mesosev_args.proofs.show.read.Goals as goal

pub returns-in_err-limit : goal.returns-in_err-limit
returns-in_err-limit c =
    bad_read (codes "show") (rows_of (found_of c.args.found.now)) the_limit c.in_err-limit.field-0.0 c.from_residual.result (search rules) refl
    (λ h. (show_good (rows_of (found_of c.args.found.now)) h).0) c.in_err-limit.ensures.err

pub returns-in_err-framing : goal.returns-in_err-framing
returns-in_err-framing c =
    conflict_read (codes "show") (rows_of (found_of c.args.found.now)) lines_or_chunked c.in_err-framing.field-0.0 c.from_residual-in_err-framing.result (search rules) refl
    (λ h. (show_good (rows_of (found_of c.args.found.now)) h).1) c.in_err-framing.ensures.err
