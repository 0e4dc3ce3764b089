use Rattle.std.proofs.Common.{◌≡◌, false, ℕ, ◌<◌, [], map, bytes_eq, get_or}
use Rattle.mes_model_schema.proofs.found_rows.note_member.Given as goal

abbrev pub invariant-loop-i : goal.invariant-loop-i
invariant-loop-i g l = record {
  same : l.found ≡ l.initial.found;
  before : (k : ℕ) → k < l.i → bytes_eq l.name (get_or (map (λ n. n.now) l.names) k []) ≡ false;
}
