use Rattle.std.proofs.Common.{◌≡◌, ℕ, true, take}
use Rattle.mes_session_fit.specs.Fits.{asked}
use Rattle.mes_session_fit.specs.Batches.{in_ends, has_point}
use Rattle.mes_session_fit.proofs.batch.add_tasks.Given as goal

-- `taken` has the points of the tasks so far
abbrev pub invariant-loop-index : goal.invariant-loop-index
invariant-loop-index l = (x : ℕ) → has_point x (asked (take l.index l.tasks)) ≡ true → in_ends x l.taken.items ≡ true
