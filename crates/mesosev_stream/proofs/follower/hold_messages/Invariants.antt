use Rattle.std.proofs.Common.{◌≡◌, ◌+◌, ℕ, take}
use Rattle.mes_stream.specs.Stream.{saturated}
use Rattle.mesosev_stream.specs.Following.{HoldsText}
use Rattle.mesosev_stream.specs.Showing.{lines_from}
use Rattle.mesosev_stream.specs.Messages.{shown_as}
use Rattle.mesosev_stream.proofs.follower.hold_messages.Given as goal

-- the lines of the messages so far are buffered or written
abbrev pub invariant-loop-message : goal.invariant-loop-message
invariant-loop-message g l =
    (n : ℕ) → l.first ≡ saturated n
    → HoldsText l.fn.lines l.lines (g.O.Sink.device l.fn.out) (g.O.Sink.device l.out)
    (lines_from (shown_as g.M.Part.kind g.M.ShownMessage.word g.M.ShownMessage.lines) n (take l.message-index l.messages))
    × (l.number ≡ saturated (n + l.message-index))
