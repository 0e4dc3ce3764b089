use Rattle.std.proofs.Common.{refl, rules}
use Rattle.std.specs.Prelude.{codes}
use Rattle.clap.specs.Words.{found_of, rows_of}
use Rattle.mesosev_args.specs.NamedOptions.{json_or_most, lines_or_chunked, the_limit, the_most}
use Rattle.mesosev_args.proofs.SettingLemmas.{bad_format, bad_read, conflict_read, convert_good}
use Rattle.mesosev_args.proofs.convert.read.Goals as goal

pub returns-in_err-limit : goal.returns-in_err-limit
returns-in_err-limit c =
    bad_read (codes "convert") (rows_of (found_of c.args.found.now)) the_limit c.in_err-limit.field-0.0 c.from_residual.result (search rules) refl
    (λ h. (convert_good (rows_of (found_of c.args.found.now)) h).0) c.in_err-limit.ensures.err

pub returns-in_err-most : goal.returns-in_err-most
returns-in_err-most c =
    bad_read (codes "convert") (rows_of (found_of c.args.found.now)) the_most c.in_err-most.field-0.0 c.from_residual-in_err-most.result (search rules) refl
    (λ h. (convert_good (rows_of (found_of c.args.found.now)) h).1) c.in_err-most.ensures.err

pub returns-in_err-format : goal.returns-in_err-format
returns-in_err-format c =
    let rows = rows_of (found_of c.args.found.now) in
    conflict_read (codes "convert") rows json_or_most c.in_err-format.field-0.0 c.from_residual-in_err-format.result (search rules) refl
    (λ h. (convert_good rows h).2) (bad_format rows c.in_ok-most.most c.flag_of.result c.in_err-format.field-0.0 c.in_ok-most.ensures.ok c.flag_of.ensures c.in_err-format.ensures.err)

pub returns-in_err-framing : goal.returns-in_err-framing
returns-in_err-framing c =
    conflict_read (codes "convert") (rows_of (found_of c.args.found.now)) lines_or_chunked c.in_err-framing.field-0.0 c.from_residual-in_err-framing.result (search rules) refl
    (λ h. (convert_good (rows_of (found_of c.args.found.now)) h).3) c.in_err-framing.ensures.err
