use Rattle.std.proofs.Common.{take}
use Rattle.mes_session_fit.specs.Fits.{in_range}
use Rattle.mes_session_fit.specs.Batches.{in_ends, Apart}
use Rattle.mes_session_fit.proofs.batch.range_is_apart.Given as goal

-- the range has no point of the elements of `taken` so far
abbrev pub invariant-loop-ends : goal.invariant-loop-ends
invariant-loop-ends l = Apart (λ x. in_ends x (take l.ends-index l.taken)) (λ x. in_range x l.range)
