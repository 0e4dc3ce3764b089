use Rattle.std.proofs.Common.{◌≡◌, ℕ, true, false, take}
use Rattle.mes_session_fit.specs.Fits.{in_ranges}
use Rattle.mes_session_fit.proofs.shared_pieces.ranges_meet.Given as goal

-- none of the ranges so far has a point in common with the other ranges
abbrev pub invariant-loop-range : goal.invariant-loop-range
invariant-loop-range l = (x : ℕ) → in_ranges x (take l.range-index l.ranges) ≡ true → in_ranges x l.others ≡ false
