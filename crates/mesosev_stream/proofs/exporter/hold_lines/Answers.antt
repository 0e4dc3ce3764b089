use Rattle.std.proofs.Common.{◌∙◌, arith}
use Rattle.mesosev_stream.specs.Following.{HoldsText}
use Rattle.mesosev_stream.specs.Messages.{shown_as}
use Rattle.mesosev_stream.proofs.HoldLemmas.{holds_none}
use Rattle.mesosev_stream.proofs.JsonLineLemmas.{all_lines, have_more, have_none, holds_line, stops_line, until_here}
use Rattle.mesosev_stream.proofs.exporter.hold_lines.Goals as goal

pub loop-message-init : goal.loop-message-init
loop-message-init g c = (have_none (shown_as g.M.Part.kind g.M.ShownMessage.word g.M.ShownMessage.lines) c.args.limit, holds_none c.args.lines.now (g.O.Sink.device c.args.out.now), λ n is. omega (arith, is))

pub returns-in-Err-clause-ok : goal.returns-in-Err-clause-ok
returns-in-Err-clause-ok g c = λ n is. let before = c.loop-message.invariant in
    until_here (shown_as g.M.Part.kind g.M.ShownMessage.word g.M.ShownMessage.lines) (HoldsText c.args.lines.now c.loop-message.lines (g.O.Sink.device c.args.out.now) (g.O.Sink.device c.loop-message.out)) c.args.limit n c.loop-message.message-index c.loop-message.count
    c.args.messages.now c.message-item.result c.in-Err.why c.loop-message-test.true c.message-item.is before.0 c.in-Err.ensures.err before.1 (before.2 n is)

pub returns-in-Err-hold-clause-err : goal.returns-in-Err-hold-clause-err
returns-in-Err-hold-clause-err g c = let before = c.loop-message.invariant in
    stops_line (shown_as g.M.Part.kind g.M.ShownMessage.word g.M.ShownMessage.lines) c.args.lines.now c.loop-message.lines (g.O.Sink.device c.args.out.now) (g.O.Sink.device c.loop-message.out) (g.O.Sink.device c.hold.new.out)
    c.args.messages.now c.message-item.result c.loop-message.message-index c.in-Err-hold.fault c.loop-message-test.true c.message-item.is before.1
    (rw (c.as_slice.ensures.value ∙ c.in_default.ensures.ok) at c.in-Err-hold.ensures.err)

pub loop-message-preserved : goal.loop-message-preserved
loop-message-preserved g c = let before = c.loop-message.invariant in let line = c.in_default.ensures in (
  have_more (shown_as g.M.Part.kind g.M.ShownMessage.word g.M.ShownMessage.lines) c.args.limit c.args.messages.now c.message-item.result c.loop-message.message-index c.loop-message-test.true c.message-item.is before.0 line.good line.spells,
  holds_line (shown_as g.M.Part.kind g.M.ShownMessage.word g.M.ShownMessage.lines) c.args.lines.now c.loop-message.lines c.hold.new.self (g.O.Sink.device c.args.out.now) (g.O.Sink.device c.loop-message.out) (g.O.Sink.device c.hold.new.out)
      c.args.messages.now c.message-item.result c.loop-message.message-index c.loop-message-test.true c.message-item.is before.1
      (rw (c.as_slice.ensures.value ∙ line.ok) at c.in_default-hold.ensures.ok),
  λ n is. omega (arith, c.saturating_add-count.ensures, before.2 n is),
)

pub returns-clause-ok : goal.returns-clause-ok
returns-clause-ok g c = λ n is. let before = c.loop-message.invariant in
    all_lines (shown_as g.M.Part.kind g.M.ShownMessage.word g.M.ShownMessage.lines) (HoldsText c.args.lines.now c.loop-message.lines (g.O.Sink.device c.args.out.now) (g.O.Sink.device c.loop-message.out)) c.args.limit n c.loop-message.message-index c.loop-message.count
    c.args.messages.now (omega arith) (omega arith) before.0 before.1 (before.2 n is)
