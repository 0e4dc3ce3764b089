use Rattle.std.proofs.Common.{◌≡◌, ◌++◌, take}
use Rattle.mes_msg_event.specs.ShowLines.{hex_pairs}
use Rattle.mes_msg_event.proofs.line_fields.put_hex_pairs.Given as goal

abbrev pub invariant-loop-byte : goal.invariant-loop-byte
invariant-loop-byte l = l.line.items ≡ l.fn.line.items ++ hex_pairs (take l.byte-index l.bytes)
