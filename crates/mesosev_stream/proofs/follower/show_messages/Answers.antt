use Rattle.mesosev_stream.specs.Messages.{shown_as}
use Rattle.mesosev_stream.proofs.HoldLemmas.{sends_shown, sends_not}
use Rattle.mesosev_stream.proofs.follower.show_messages.Goals as goal

pub returns-in-Ok-flush-clause-ok : goal.returns-in-Ok-flush-clause-ok
returns-in-Ok-flush-clause-ok g c = λ n is.
    sends_shown (shown_as g.M.Part.kind g.M.ShownMessage.word g.M.ShownMessage.lines) c.args.lines.now c.hold_messages.new.lines c.flush.new.self (g.O.Sink.device c.args.out.now)
    (g.O.Sink.device c.hold_messages.new.out) (g.O.Sink.device c.flush.new.out) n c.args.messages.now c.in-Ok.shown (c.in-Ok.ensures.ok n is)
    c.in-Ok-flush.ensures.ok c.in-Ok-flush.ensures.ok_held

pub returns-in-Err-flush-clause-err : goal.returns-in-Err-flush-clause-err
returns-in-Err-flush-clause-err g c = λ n is.
    sends_not (shown_as g.M.Part.kind g.M.ShownMessage.word g.M.ShownMessage.lines) c.args.lines.now c.hold_messages.new.lines (g.O.Sink.device c.args.out.now)
    (g.O.Sink.device c.hold_messages.new.out) (g.O.Sink.device c.flush.new.out) n c.args.messages.now c.in-Ok.shown c.in-Err-flush.fault (c.in-Ok.ensures.ok n is)
    c.in-Err-flush.ensures.err
