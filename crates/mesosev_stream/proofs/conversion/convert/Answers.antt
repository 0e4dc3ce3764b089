use Rattle.std.proofs.Common.{Ok, Err, refl}
use Rattle.mesosev_stream.specs.Messages.{shown_as}
use Rattle.mesosev_stream.proofs.ConvertLemmas.{converts}
use Rattle.mesosev_stream.proofs.conversion.convert.Goals as goal

pub returns-in-Ok : goal.returns-in-Ok
returns-in-Ok g c =
    converts (shown_as g.M.Part.kind g.M.ShownMessage.word g.M.ShownMessage.lines) c.args.framing c.args.limit c.args.format _ _ _ _ _ _ _ _ c.read_all-outcome.new.messages.items (Ok c.in-Ok._report) c.read_all-outcome.result.1 c.new-messages.ensures.items (rw c.in-Ok.is at c.read_all-outcome.ensures) (rw c.as_slice.ensures.value at c.send.ensures)

pub returns : goal.returns
returns g c =
    converts (shown_as g.M.Part.kind g.M.ShownMessage.word g.M.ShownMessage.lines) c.args.framing c.args.limit c.args.format _ _ _ _ _ _ _ _ c.read_all-outcome.new.messages.items (Err c.in-Err.stop) c.read_all-outcome.result.1 c.new-messages.ensures.items (rw c.in-Err.is at c.read_all-outcome.ensures) (refl, (c.print_stop.result, c.print_stop.ensures), refl)
