use Rattle.std.proofs.Common.{◌≡◌, ◌++◌, take}
use Rattle.std.specs.List.{flat_map}
use Rattle.mes_session.specs.Printed.{hand_line}
use Rattle.mes_session.proofs.report.put_hand.Given as goal

-- the lines of the offers so far are appended
abbrev pub invariant-loop-index : goal.invariant-loop-index
invariant-loop-index l = l.lines.items ≡ l.fn.lines.items ++ flat_map hand_line (take l.index l.session.hand)
