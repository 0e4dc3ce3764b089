use Rattle.std.proofs.Common.{◌≡◌, ◌≤◌, ℕ, List, drop}
use Rattle.mes_json.specs.Cursor.{tokens_held}
use Rattle.mes_json.specs.Passing.{following}
use Rattle.mes_json.proofs.skip.count_nodes.Given as goal

abbrev pub invariant-loop-i : goal.invariant-loop-i
invariant-loop-i l = record {
  below : l.depth ≤ l.i;
  same : (texts : List ℕ) → following 0 (tokens_held texts l.nodes) ≡ following l.depth (drop l.i (tokens_held texts l.nodes));
}
