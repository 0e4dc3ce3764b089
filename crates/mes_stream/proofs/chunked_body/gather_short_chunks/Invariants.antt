use Rattle.std.proofs.Common.{length, ◌-◌}
use Rattle.mes_stream.proofs.GatherLemmas.{GatheredSoFar}
use Rattle.mes_stream.proofs.chunked_body.gather_short_chunks.Given as goal

abbrev pub invariant-loop-next : goal.invariant-loop-next
invariant-loop-next l = GatheredSoFar l.fn.chunks l.next l.piece l.most l.used l.bytes.items l.places.items

abbrev pub decreases-loop-next : goal.decreases-loop-next
decreases-loop-next l = length l.piece - l.used
