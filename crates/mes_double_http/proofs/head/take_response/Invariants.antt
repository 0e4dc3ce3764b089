use Rattle.std.proofs.Common.{◌-◌, length}
use Rattle.mes_double_http.proofs.HeadLemmas.{TakesResponse}
use Rattle.mes_double_http.proofs.head.take_response.Given as goal
use Rattle.mes_double_http.specs.declared.limits.TheConstants.{MAX_HEAD}

abbrev pub invariant-loop-reader : goal.invariant-loop-reader
invariant-loop-reader g l = TakesResponse (g.S.Source.device l.fn.reader).bytes (g.S.Source.device l.reader).bytes (g.S.Source.device l.fn.reader).counts (g.S.Source.device l.reader).counts l.taken.items

abbrev pub decreases-loop-reader : goal.decreases-loop-reader
decreases-loop-reader g l = MAX_HEAD - length l.taken.items
