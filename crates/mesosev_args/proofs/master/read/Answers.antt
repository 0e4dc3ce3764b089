use Rattle.std.proofs.Common.{inl, inr, refl, rules, subst, sym}
use Rattle.std.specs.Prelude.{codes}
use Rattle.clap.specs.Words.{found_of, rows_of}
use Rattle.mesosev_args.specs.NamedOptions.{the_fault, the_finish_after, the_heartbeat, the_master_port, the_rate, the_resend, the_seconds, the_seed, the_size}
use Rattle.mesosev_args.specs.OptionValues.{HasFaults, HasRandom, IsPlan, fault_texts}
use Rattle.mes_double_faults.specs.Plans.{Plan}
use Rattle.mesosev_args.proofs.FaultLemmas.{faults_ranged}
use Rattle.mesosev_args.proofs.SettingLemmas.{bad_read, bad_text, master_good}
use Rattle.mesosev_args.proofs.master.read.Goals as goal

pub returns-in_err-port : goal.returns-in_err-port
returns-in_err-port c =
    bad_read (codes "master") (rows_of (found_of c.args.found.now)) the_master_port c.in_err-port.field-0.0 c.from_residual.result (search rules) refl
    (λ h. (master_good (rows_of (found_of c.args.found.now)) h).port) c.in_err-port.ensures.err

pub returns-in_err-heartbeat : goal.returns-in_err-heartbeat
returns-in_err-heartbeat c =
    bad_read (codes "master") (rows_of (found_of c.args.found.now)) the_heartbeat c.in_err-heartbeat.field-0.0 c.from_residual-in_err-heartbeat.result (search rules) refl
    (λ h. (master_good (rows_of (found_of c.args.found.now)) h).heartbeat) c.in_err-heartbeat.ensures.err

pub returns-in_err-resend : goal.returns-in_err-resend
returns-in_err-resend c =
    bad_read (codes "master") (rows_of (found_of c.args.found.now)) the_resend c.in_err-resend.field-0.0 c.from_residual-in_err-resend.result (search rules) refl
    (λ h. (master_good (rows_of (found_of c.args.found.now)) h).resend) c.in_err-resend.ensures.err

pub returns-in_err-finish_after : goal.returns-in_err-finish_after
returns-in_err-finish_after c =
    bad_read (codes "master") (rows_of (found_of c.args.found.now)) the_finish_after c.in_err-finish_after.field-0.0 c.from_residual-in_err-finish_after.result (search rules) refl
    (λ h. (master_good (rows_of (found_of c.args.found.now)) h).finish_after) c.in_err-finish_after.ensures.err

pub returns-in_err-seconds : goal.returns-in_err-seconds
returns-in_err-seconds c =
    bad_read (codes "master") (rows_of (found_of c.args.found.now)) the_seconds c.in_err-seconds.field-0.0 c.from_residual-in_err-seconds.result (search rules) refl
    (λ h. (master_good (rows_of (found_of c.args.found.now)) h).seconds) c.in_err-seconds.ensures.err

pub returns-in_err-most : goal.returns-in_err-most
returns-in_err-most c =
    bad_read (codes "master") (rows_of (found_of c.args.found.now)) the_size c.in_err-most.field-0.0 c.from_residual-in_err-most.result (search rules) refl
    (λ h. (master_good (rows_of (found_of c.args.found.now)) h).most) c.in_err-most.ensures.err

pub returns-in_err-random : goal.returns-in_err-random
returns-in_err-random c =
    let rows = rows_of (found_of c.args.found.now) in
    elim c.in_err-random.ensures.err [
      | inl bad ↦
          bad_read (codes "master") rows the_rate c.in_err-random.field-0.0 c.from_residual-in_err-random.result (search rules) refl
          (λ h. (master_good rows h).rate) bad
      | inr bad ↦
          bad_read (codes "master") rows the_seed c.in_err-random.field-0.0 c.from_residual-in_err-random.result (search rules) refl
          (λ h. (master_good rows h).seed) bad
    ]

pub returns-in_err-faults : goal.returns-in_err-faults
returns-in_err-faults c =
    bad_text (codes "master") (rows_of (found_of c.args.found.now)) the_fault c.in_err-faults.field-0.0 c.from_residual-in_err-faults.result (search rules) refl
    (λ h. (master_good (rows_of (found_of c.args.found.now)) h).fault) (inr refl) c.in_err-faults.ensures.err

pub returns : goal.returns
returns c =
    let rows = rows_of (found_of c.args.found.now) in
    let made = sym c.new.ensures in
    let faults = subst (λ (plan : Plan). HasFaults rows plan.faults) made c.in_ok-faults.ensures.ok in
    let random = subst (λ (plan : Plan). HasRandom rows plan.random) made c.in_ok-random.ensures.ok in
    let range = subst IsPlan made (faults_ranged (fault_texts rows) c.in_ok-faults.faults.items c.in_ok-faults.ensures.ok, c.in_ok-random.ensures.ranged) in (
      (
        refl,
        c.in_ok-port.ensures.ok,
        c.in_ok-heartbeat.ensures.ok,
        c.in_ok-resend.ensures.ok,
        c.in_ok-finish_after.ensures.ok,
        c.in_ok-seconds.ensures.ok,
        c.in_ok-most.ensures.ok,
        c.flag_of-once.ensures,
        faults,
        random,
      ),
      (
        c.in_ok-port.ensures.ranged,
        c.in_ok-heartbeat.ensures.ranged,
        c.in_ok-resend.ensures.ranged,
        c.in_ok-finish_after.ensures.ranged,
        c.in_ok-seconds.ensures.ranged,
        c.in_ok-most.ensures.ranged,
        range,
      ),
    )
