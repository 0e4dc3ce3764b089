use Rattle.std.proofs.Common.{inr, refl}
use Rattle.mesosev_stream.specs.declared.exit_status.ExitStatus.TheVariants as exit
use Rattle.mesosev_stream.proofs.PrintLemmas.{prints_told}
use Rattle.mesosev_log.proofs.replaying_json.report_session.Goals as goal

pub returns-in-Err : goal.returns-in-Err
returns-in-Err g c =
    inr (prints_told (g.E.Sink.device c.args.err.now) (g.E.Sink.device c.out_of_memory.new.out) _ exit.Fault c.out_of_memory.result c.out_of_memory.ensures, refl, refl)
