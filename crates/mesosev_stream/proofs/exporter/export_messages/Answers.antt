use Rattle.mesosev_stream.specs.Messages.{shown_as}
use Rattle.mesosev_stream.proofs.JsonLineLemmas.{sends_lines, stops_lines}
use Rattle.mesosev_stream.proofs.exporter.export_messages.Goals as goal

pub returns-in-Ok-flush : goal.returns-in-Ok-flush
returns-in-Ok-flush g c = λ n is.
    sends_lines (shown_as g.M.Part.kind g.M.ShownMessage.word g.M.ShownMessage.lines) c.args.lines.now c.hold_lines.new.lines c.flush.new.self (g.O.Sink.device c.args.out.now)
    (g.O.Sink.device c.hold_lines.new.out) (g.O.Sink.device c.flush.new.out) c.args.limit n c.args.messages.now c.in-Ok.progress (c.in-Ok.ensures.ok n is)
    c.in-Ok-flush.ensures.ok c.in-Ok-flush.ensures.ok_held

pub returns-in-Err-flush : goal.returns-in-Err-flush
returns-in-Err-flush g c = λ n is.
    stops_lines (shown_as g.M.Part.kind g.M.ShownMessage.word g.M.ShownMessage.lines) c.args.lines.now c.hold_lines.new.lines (g.O.Sink.device c.args.out.now)
    (g.O.Sink.device c.hold_lines.new.out) (g.O.Sink.device c.flush.new.out) c.args.limit n c.args.messages.now c.in-Ok.progress c.in-Err-flush.fault (c.in-Ok.ensures.ok n is)
    c.in-Err-flush.ensures.err
