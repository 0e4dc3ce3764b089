use Rattle.mesosev_stream.specs.declared.exit_status.ExitStatus.TheVariants as exit
use Rattle.mesosev_stream.proofs.PrintLemmas.{prints_told}
use Rattle.mesosev_serve.proofs.exporting.tell_refused.Goals as goal

pub returns-clause-told : goal.returns-clause-told
returns-clause-told g c = prints_told (g.E.Sink.device c.args.err.now) (g.E.Sink.device c.report_refused.new.out) _ exit.Fault c.report_refused.result c.report_refused.ensures
