use Rattle.std.proofs.Common.{Ok, Err, refl}
use Rattle.mesosev_log.proofs.ReplayLemmas.{read_all, replays_json}
use Rattle.mesosev_log.proofs.replaying_json.replay_json.Goals as goal

pub returns-in-Ok : goal.returns-in-Ok
returns-in-Ok g c =
    replays_json c.args.limit _ _ _ _ _ _ _ c.read_log.new.entries.items (Ok c.in-Ok._report) (read_all c.args.limit _ _ _ c.read_log.new.entries.items (Ok c.in-Ok._report) c.new-entries.ensures.items c.in-Ok.ensures)
    (rw c.as_slice.ensures.value at c.report_replay.ensures)

pub returns : goal.returns
returns g c =
    replays_json c.args.limit _ _ _ _ _ _ _ c.read_log.new.entries.items (Err c.in-Err.stop) (read_all c.args.limit _ _ _ c.read_log.new.entries.items (Err c.in-Err.stop) c.new-entries.ensures.items c.in-Err.ensures)
    ((c.print_fault.result, c.print_fault.ensures), refl, refl)
