use Rattle.mes_double_http.proofs.TrimLemmas.{SkipsBack}
use Rattle.mes_double_http.proofs.media_type.trim_end.Given as goal

abbrev pub invariant-loop-end : goal.invariant-loop-end
invariant-loop-end l = SkipsBack l.text l.end

abbrev pub decreases-loop-end : goal.decreases-loop-end
decreases-loop-end l = l.end
