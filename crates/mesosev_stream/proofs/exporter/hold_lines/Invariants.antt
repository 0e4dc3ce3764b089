use Rattle.std.proofs.Common.{◌≡◌, ◌+◌, ℕ, take}
use Rattle.mes_stream.specs.Stream.{saturated}
use Rattle.mesosev_stream.specs.Following.{HoldsText}
use Rattle.mesosev_stream.specs.JsonLines.{HaveLines, json_lines}
use Rattle.mesosev_stream.specs.Messages.{shown_as}
use Rattle.mesosev_stream.proofs.exporter.hold_lines.Given as goal

-- the lines of the messages so far are buffered or written
abbrev pub invariant-loop-message : goal.invariant-loop-message
invariant-loop-message g l =
    HaveLines (shown_as g.M.Part.kind g.M.ShownMessage.word g.M.ShownMessage.lines) l.limit (take l.message-index l.messages)
    × HoldsText l.fn.lines l.lines (g.O.Sink.device l.fn.out) (g.O.Sink.device l.out) (json_lines (shown_as g.M.Part.kind g.M.ShownMessage.word g.M.ShownMessage.lines) (take l.message-index l.messages))
    × ((n : ℕ) → l.before ≡ saturated n → l.count ≡ saturated (n + l.message-index))
