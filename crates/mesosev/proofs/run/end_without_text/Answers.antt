use Rattle.mes_frame.specs.Devices.{Device}
use Rattle.mesosev_stream.specs.declared.exit_status.ExitStatus.TheVariants as exit
use Rattle.mesosev_stream.proofs.PrintLemmas.{prints_meant}
use Rattle.mesosev.proofs.run.end_without_text.Goals as goal

pub returns : goal.returns
returns g c =
    let old : Device = g.E.Sink.device c.args.err.now in
    let new : Device = g.E.Sink.device c.print_text.new.out in
    (new, c.after-ended.result, prints_meant old new _ exit.Usage _ _ c.print_text.ensures c.after-ended.ensures, c.finish.ensures)
