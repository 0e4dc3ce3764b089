use Rattle.std.proofs.Common.{◌≡◌, ◌+◌, length}
use Rattle.memchr.specs.Find.{is_byte, places}
use Rattle.mesosev_stream.proofs.line_number.line_feeds_of.Given as goal

-- the line feeds counted and those left are all
abbrev pub invariant-loop-at : goal.invariant-loop-at
invariant-loop-at l = l.line_feeds + length l._at-iterator ≡ length (places (is_byte 10) l.bytes)
