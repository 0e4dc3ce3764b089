use Rattle.std.proofs.Common.{◌≡◌, ℕ, true, take}
use Rattle.mes_session_fit.specs.Fits.{in_ranges}
use Rattle.mes_session_fit.specs.Batches.{in_ends}
use Rattle.mes_session_fit.proofs.batch.add_ranges.Given as goal

-- `taken` retains its points and has those of the ranges so far
abbrev pub invariant-loop-range : goal.invariant-loop-range
invariant-loop-range l = record {
  kept : (x : ℕ) → in_ends x l.fn.taken.items ≡ true → in_ends x l.taken.items ≡ true;
  added : (x : ℕ) → in_ranges x (take l.range-index l.ranges) ≡ true → in_ends x l.taken.items ≡ true;
}
