use Rattle.std.proofs.Common.{Ok, Err}
use Rattle.mes_frame.specs.Devices.{Device}
use Rattle.mesosev_stream.specs.declared.exit_status.ExitStatus.TheVariants as exit
use Rattle.mesosev_stream.proofs.PrintLemmas.{prints_meant}
use Rattle.mesosev_log.proofs.ReplayLemmas.{read_all, replays}
use Rattle.mesosev_log.proofs.replaying.replay.Goals as goal

pub returns-in-Ok : goal.returns-in-Ok
returns-in-Ok g c =
    replays c.args.limit _ _ _ _ _ c.read_log.new.entries.items (Ok c.in-Ok._report) (read_all c.args.limit _ _ _ c.read_log.new.entries.items (Ok c.in-Ok._report) c.new-entries.ensures.items c.in-Ok.ensures)
    (rw c.as_slice.ensures.value at c.report_replay.ensures)

pub returns : goal.returns
returns g c =
    let out : Device = g.O.Sink.device c.args.out.now in
    let printed : Device = g.O.Sink.device c.print_fault.new.out in
    replays c.args.limit _ _ _ _ _ c.read_log.new.entries.items (Err c.in-Err.stop) (read_all c.args.limit _ _ _ c.read_log.new.entries.items (Err c.in-Err.stop) c.new-entries.ensures.items c.in-Err.ensures)
    (prints_meant out printed _ exit.Fault _ _ c.print_fault.ensures c.after.ensures)
