use Rattle.std.proofs.Common.{◌-◌, length}
use Rattle.mes_double_http.proofs.LineSteps.{SkipsLines}
use Rattle.mes_double_http.proofs.lines.from_start_line.Given as goal

abbrev pub invariant-loop-start : goal.invariant-loop-start
invariant-loop-start l = SkipsLines l.taken l.start

abbrev pub decreases-loop-start : goal.decreases-loop-start
decreases-loop-start l = length l.taken - l.start
