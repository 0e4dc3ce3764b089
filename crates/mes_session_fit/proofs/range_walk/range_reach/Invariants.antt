use Rattle.std.proofs.Common.{take}
use Rattle.mes_session_fit.specs.Fits.{in_ranges}
use Rattle.mes_session_fit.specs.Looking.{Reaches}
use Rattle.mes_session_fit.proofs.range_walk.range_reach.Given as goal

-- `reach` is the largest end of the ranges so far that contain `at`
abbrev pub invariant-loop-range : goal.invariant-loop-range
invariant-loop-range l = Reaches (λ x. in_ranges x (take l.range-index l.ranges)) l.at l.reach
