use Rattle.mesosev_stream.specs.Messages.{shown_as}
use Rattle.mesosev_stream.proofs.ConvertLemmas.{sends_all, sends_none}
use Rattle.mesosev_stream.proofs.conversion.send.Goals as goal

pub returns-in-Ok : goal.returns-in-Ok
returns-in-Ok g c = sends_all (shown_as g.M.Part.kind g.M.ShownMessage.word g.M.ShownMessage.lines) g.O.Sink.device c.args.limit c.args.format c.args.messages.now c.args.out.now c.write_messages.new.out _ c.in-Ok.ensures.ok

pub returns-in-Err : goal.returns-in-Err
returns-in-Err g c =
    sends_none (shown_as g.M.Part.kind g.M.ShownMessage.word g.M.ShownMessage.lines) g.O.Sink.device c.args.limit c.args.format c.args.messages.now c.args.out.now c.write_messages.new.out _ _ c.in-Err.fault
    c.in-Err.ensures.err (c.print_unsent.result, rw c.word.ensures.text at c.print_unsent.ensures)
