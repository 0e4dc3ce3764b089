use Rattle.std.proofs.Common.{◌-◌, length}
use Rattle.mes_double_http.proofs.BodyLemmas.{TakesBody}
use Rattle.mes_double_http.proofs.body.take_body.Given as goal

abbrev pub invariant-loop-body : goal.invariant-loop-body
invariant-loop-body g l = TakesBody (g.S.Source.device l.fn.reader).bytes (g.S.Source.device l.reader).bytes (g.S.Source.device l.fn.reader).counts (g.S.Source.device l.reader).counts l.body.items l.size

abbrev pub decreases-loop-body : goal.decreases-loop-body
decreases-loop-body g l = l.size - length l.body.items
