use Rattle.mesosev_serve.proofs.ExportLemmas.{unsent_told}
use Rattle.mesosev_serve.proofs.exporting.tell_unsent.Goals as goal

pub returns-clause-told : goal.returns-clause-told
returns-clause-told g c = unsent_told (g.E.Sink.device c.args.err.now) (g.E.Sink.device c.report_unsent.new.out) c.args.fault.now c.report_unsent.result c.report_unsent.ensures
