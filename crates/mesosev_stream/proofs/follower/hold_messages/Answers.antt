use Rattle.std.proofs.Common.{◌∙◌, arith}
use Rattle.mesosev_stream.specs.Messages.{shown_as}
use Rattle.mesosev_stream.proofs.HoldLemmas.{holds_none, holds_more, holds_not, holds_all}
use Rattle.mesosev_stream.proofs.ShowLemmas.{messages_at}
use Rattle.mesosev_stream.proofs.follower.hold_messages.Goals as goal

pub loop-message-init : goal.loop-message-init
loop-message-init g c = λ n is. (holds_none c.args.lines.now (g.O.Sink.device c.args.out.now), omega (arith, is))

pub returns-in-Err-clause-ok : goal.returns-in-Err-clause-ok
returns-in-Err-clause-ok g c = λ n is.
    (_, c.message-item.result, _, messages_at (shown_as g.M.Part.kind g.M.ShownMessage.word g.M.ShownMessage.lines) c.args.messages.now c.message-item.result c.loop-message.message-index c.loop-message-test.true c.message-item.is, (c.loop-message.invariant n is).0)

pub returns-in-Err-hold-clause-err : goal.returns-in-Err-hold-clause-err
returns-in-Err-hold-clause-err g c = λ n is. let before = c.loop-message.invariant n is in
    holds_not (shown_as g.M.Part.kind g.M.ShownMessage.word g.M.ShownMessage.lines) c.args.lines.now c.loop-message.lines (g.O.Sink.device c.args.out.now) (g.O.Sink.device c.loop-message.out) (g.O.Sink.device c.hold.new.out)
    c.args.messages.now c.message-item.result c.loop-message.message-index n c.loop-message.number c.in-Err-hold.fault c.loop-message-test.true c.message-item.is before.1 before.0
    (rw (c.as_slice.ensures.value ∙ c.in_default.ensures, c.clear.ensures.items) at c.in-Err-hold.ensures.err)

pub loop-message-preserved : goal.loop-message-preserved
loop-message-preserved g c = λ n is. let before = c.loop-message.invariant n is in (
  holds_more (shown_as g.M.Part.kind g.M.ShownMessage.word g.M.ShownMessage.lines) c.args.lines.now c.loop-message.lines c.hold.new.self (g.O.Sink.device c.args.out.now) (g.O.Sink.device c.loop-message.out) (g.O.Sink.device c.hold.new.out)
      c.args.messages.now c.message-item.result c.loop-message.message-index n c.loop-message.number c.loop-message-test.true c.message-item.is before.1 before.0
      (rw (c.as_slice.ensures.value ∙ c.in_default.ensures, c.clear.ensures.items) at c.in_default-hold.ensures.ok),
  omega (arith, c.saturating_add-number.ensures, before.1),
)

pub returns-clause-ok : goal.returns-clause-ok
returns-clause-ok g c = λ n is. let before = c.loop-message.invariant n is in
    holds_all (shown_as g.M.Part.kind g.M.ShownMessage.word g.M.ShownMessage.lines) c.args.lines.now c.loop-message.lines (g.O.Sink.device c.args.out.now) (g.O.Sink.device c.loop-message.out) c.args.messages.now c.loop-message.message-index n c.loop-message.number
    (omega arith) (omega arith) before.1 before.0
