use Rattle.std.proofs.Common.{inl, refl, rules}
use Rattle.std.specs.Prelude.{codes}
use Rattle.clap.specs.Words.{found_of, rows_of}
use Rattle.mesosev_args.specs.NamedOptions.{the_name, the_reads, the_to, the_user}
use Rattle.mesosev_args.proofs.SettingLemmas.{bad_read, bad_text, subscribe_good}
use Rattle.mesosev_args.proofs.subscribe.read.Goals as goal

pub returns-in_err-reads : goal.returns-in_err-reads
returns-in_err-reads c =
    bad_read (codes "subscribe") (rows_of (found_of c.args.found.now)) the_reads c.in_err-reads.field-0.0 c.from_residual.result (search rules) refl
    (λ h. (subscribe_good (rows_of (found_of c.args.found.now)) h).3) c.in_err-reads.ensures.err

pub returns-in_err-to : goal.returns-in_err-to
returns-in_err-to c =
    bad_read (codes "subscribe") (rows_of (found_of c.args.found.now)) the_to c.in_err-to.field-0.0 c.from_residual-in_err-to.result (search rules) refl
    (λ h. (subscribe_good (rows_of (found_of c.args.found.now)) h).0) c.in_err-to.ensures.err

pub returns-in_err-user : goal.returns-in_err-user
returns-in_err-user c =
    bad_text (codes "subscribe") (rows_of (found_of c.args.found.now)) the_user c.in_err-user.field-0.0 c.from_residual-in_err-user.result (search rules) refl
    (λ h. (subscribe_good (rows_of (found_of c.args.found.now)) h).1) (inl refl) c.in_err-user.ensures.err

pub returns-in_err-name : goal.returns-in_err-name
returns-in_err-name c =
    bad_text (codes "subscribe") (rows_of (found_of c.args.found.now)) the_name c.in_err-name.field-0.0 c.from_residual-in_err-name.result (search rules) refl
    (λ h. (subscribe_good (rows_of (found_of c.args.found.now)) h).2) (inl refl) c.in_err-name.ensures.err
