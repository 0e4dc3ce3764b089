use Rattle.std.proofs.Common.{◌≡◌, inl, refl, ◌∙◌}
use Rattle.mes_frame.specs.Devices.{Device}
use Rattle.mesosev_stream.specs.declared.exit_status.ExitStatus.TheVariants as exit
use Rattle.mesosev_stream.proofs.PrintLemmas.{prints_meant}
use Rattle.mesosev.specs.Reporting.{conflict_line}
use Rattle.mesosev.proofs.CommandLemmas.{prints_line}
use Rattle.mesosev.proofs.run.tell_conflict.Goals as goal

pub returns-in-Ok : goal.returns-in-Ok
returns-in-Ok g c =
    let line : c.as_str.result.now ≡ conflict_line c.args.option.now c.args.other.now = c.as_str.ensures.value ∙ c.in-Ok.ensures.ok in
    let old : Device = record { bytes = (g.E.Sink.device c.args.err.now).bytes; counts = (g.E.Sink.device c.args.err.now).counts } in
    let new : Device = record { bytes = (g.E.Sink.device c.print_text.new.out).bytes; counts = (g.E.Sink.device c.print_text.new.out).counts } in
    inl (prints_line old new c.as_str.result.now (conflict_line c.args.option.now c.args.other.now) exit.Usage c.after.result line (prints_meant old new c.as_str.result.now exit.Usage _ _ c.print_text.ensures c.after.ensures), refl)
