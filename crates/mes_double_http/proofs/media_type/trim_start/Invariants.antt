use Rattle.std.proofs.Common.{◌-◌, length}
use Rattle.mes_double_http.proofs.TrimLemmas.{SkipsFront}
use Rattle.mes_double_http.proofs.media_type.trim_start.Given as goal

abbrev pub invariant-loop-start : goal.invariant-loop-start
invariant-loop-start l = SkipsFront l.text l.start

abbrev pub decreases-loop-start : goal.decreases-loop-start
decreases-loop-start l = length l.text - l.start
