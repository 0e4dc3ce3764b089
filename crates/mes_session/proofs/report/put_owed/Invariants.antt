use Rattle.std.proofs.Common.{◌≡◌, ◌++◌, take}
use Rattle.std.specs.List.{flat_map}
use Rattle.mes_session.specs.Printed.{owed_line}
use Rattle.mes_session.proofs.report.put_owed.Given as goal

-- the lines of the updates so far are appended
abbrev pub invariant-loop-index : goal.invariant-loop-index
invariant-loop-index l = l.lines.items ≡ l.fn.lines.items ++ flat_map owed_line (take l.index l.session.owed)
