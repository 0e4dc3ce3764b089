use Rattle.std.proofs.Common.{take}
use Rattle.mesosev_stream.specs.JsonLines.{IsLinesOf}
use Rattle.mesosev_stream.specs.Messages.{shown_as}
use Rattle.mesosev_stream.proofs.json_lines.encode_lines.Given as goal

-- the lines of the messages encoded so far
abbrev pub invariant-loop-index : goal.invariant-loop-index
invariant-loop-index g l = IsLinesOf (shown_as g.M.Part.kind g.M.ShownMessage.word g.M.ShownMessage.lines) l.limit (take l.index l.messages) l.body.items
