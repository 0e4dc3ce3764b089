use Rattle.std.proofs.Common.{◌≡◌, true, inl, inr, refl}
use Rattle.mes_frame.specs.Devices.{Device}
use Rattle.mesosev_stream.specs.declared.exit_status.ExitStatus.TheVariants as exit
use Rattle.mesosev_stream.proofs.PrintLemmas.{prints_meant}
use Rattle.mesosev.proofs.run.report_error.Goals as goal

pub returns-then-use_stderr : goal.returns-then-use_stderr
returns-then-use_stderr g c =
    let old : Device = g.E.Sink.device c.args.err.now in
    let new : Device = g.E.Sink.device c.print_text.new.out in
    inl (
      c.as_str.result.now,
      inl (c.use_stderr.ensures.0 c.if-use_stderr.true, prints_meant old new _ exit.Usage _ _ c.print_text.ensures c.after.ensures, refl),
    )

pub returns : goal.returns
returns g c =
    let old : Device = g.O.Sink.device c.args.out.now in
    let new : Device = g.O.Sink.device c.print_text-else-use_stderr.new.out in
    inl (
      c.as_str-else-use_stderr.result.now,
      inr (
        λ mistake. let shown : c.use_stderr.result ≡ true = c.use_stderr.ensures.1 mistake in let hidden = c.if-use_stderr.false in absurd (cc),
        prints_meant old new _ exit.Success _ _ c.print_text-else-use_stderr.ensures c.after-else-use_stderr.ensures,
        refl,
      ),
    )
