use Rattle.std.proofs.Common.{Ok, Err, refl}
use Rattle.mesosev_log.proofs.ReplayLemmas.{read_all, relogs}
use Rattle.mesosev_log.proofs.relogging.relog.Goals as goal

pub returns-in-Ok : goal.returns-in-Ok
returns-in-Ok g c =
    relogs c.args.limit _ _ _ _ _ _ _ c.read_log.new.entries.items (Ok c.in-Ok._report) (read_all c.args.limit _ _ _ c.read_log.new.entries.items (Ok c.in-Ok._report) c.new-entries.ensures.items c.in-Ok.ensures)
    (rw c.as_slice.ensures.value at c.send.ensures)

pub returns : goal.returns
returns g c =
    relogs c.args.limit _ _ _ _ _ _ _ c.read_log.new.entries.items (Err c.in-Err.stop) (read_all c.args.limit _ _ _ c.read_log.new.entries.items (Err c.in-Err.stop) c.new-entries.ensures.items c.in-Err.ensures)
    (refl, (c.print_fault.result, c.print_fault.ensures), refl)
