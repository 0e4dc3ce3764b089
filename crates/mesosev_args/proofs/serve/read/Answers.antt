use Rattle.std.proofs.Common.{refl, rules}
use Rattle.std.specs.Prelude.{codes}
use Rattle.clap.specs.Words.{found_of, rows_of}
use Rattle.mesosev_args.specs.NamedOptions.{the_count, the_port, the_stream}
use Rattle.mesosev_args.proofs.SettingLemmas.{bad_read, serve_good}
use Rattle.mesosev_args.proofs.serve.read.Goals as goal

pub returns-in_err-port : goal.returns-in_err-port
returns-in_err-port c =
    bad_read (codes "serve") (rows_of (found_of c.args.found.now)) the_port c.in_err-port.field-0.0 c.from_residual.result (search rules) refl
    (λ h. (serve_good (rows_of (found_of c.args.found.now)) h).0) c.in_err-port.ensures.err

pub returns-in_err-count : goal.returns-in_err-count
returns-in_err-count c =
    bad_read (codes "serve") (rows_of (found_of c.args.found.now)) the_count c.in_err-count.field-0.0 c.from_residual-in_err-count.result (search rules) refl
    (λ h. (serve_good (rows_of (found_of c.args.found.now)) h).1) c.in_err-count.ensures.err

pub returns-in_err-stream : goal.returns-in_err-stream
returns-in_err-stream c =
    bad_read (codes "serve") (rows_of (found_of c.args.found.now)) the_stream c.in_err-stream.field-0.0 c.from_residual-in_err-stream.result (search rules) refl
    (λ h. (serve_good (rows_of (found_of c.args.found.now)) h).2) c.in_err-stream.ensures.err
