use Rattle.std.proofs.Common.{◌≡◌, ℕ, true, false, take}
use Rattle.mes_session_fit.specs.Fits.{in_range, in_ranges}
use Rattle.mes_session_fit.proofs.shared_pieces.range_meets.Given as goal

-- no point of the range is in one of the other ranges so far
abbrev pub invariant-loop-other : goal.invariant-loop-other
invariant-loop-other l = (x : ℕ) → in_range x l.range ≡ true → in_ranges x (take l.other-index l.others) ≡ false
