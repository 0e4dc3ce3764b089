use Rattle.mesosev_log.proofs.ReplayLemmas.{writes_all, writes_none}
use Rattle.mesosev_log.proofs.relogging.send.Goals as goal

pub returns-in-Ok : goal.returns-in-Ok
returns-in-Ok g c = writes_all g.O.Sink.device c.args.limit c.args.entries.now c.args.out.now c.write_log.new.writer _ c.in-Ok.ensures.ok

pub returns-in-Err : goal.returns-in-Err
returns-in-Err g c =
    writes_none g.O.Sink.device c.args.limit c.args.entries.now c.args.out.now c.write_log.new.writer _ _ c.in-Err.fault
    c.in-Err.ensures.err (c.print_send_fault.result, c.print_send_fault.ensures)
