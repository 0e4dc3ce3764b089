use Rattle.std.proofs.Common.{◌≡◌, ℕ, true, take}
use Rattle.mes_session_fit.specs.Batches.{in_ends, has_point}
use Rattle.mes_session_fit.proofs.batch.add_resources.Given as goal

-- `taken` retains its points and has those of the resources so far
abbrev pub invariant-loop-resource : goal.invariant-loop-resource
invariant-loop-resource l = record {
  kept : (x : ℕ) → in_ends x l.fn.taken.items ≡ true → in_ends x l.taken.items ≡ true;
  added : (x : ℕ) → has_point x (take l.resource-index l.resources) ≡ true → in_ends x l.taken.items ≡ true;
}
