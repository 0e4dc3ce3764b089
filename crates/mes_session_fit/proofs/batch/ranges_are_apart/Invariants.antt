use Rattle.std.proofs.Common.{take}
use Rattle.mes_session_fit.specs.Fits.{in_ranges}
use Rattle.mes_session_fit.specs.Batches.{in_ends, Apart}
use Rattle.mes_session_fit.proofs.batch.ranges_are_apart.Given as goal

-- the ranges so far have none of the points of `taken`
abbrev pub invariant-loop-range : goal.invariant-loop-range
invariant-loop-range l = Apart (λ x. in_ends x l.taken) (λ x. in_ranges x (take l.range-index l.ranges))
