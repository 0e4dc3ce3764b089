use Rattle.std.proofs.Common.{◌≡◌, ◌-◌, ◌<◌, ◌≤◌, ◌++◌, length, take, get_or}
use Rattle.mes_json.specs.Canonical.{escaped_text, IsKept}
use Rattle.mes_json.specs.Writable.{Extends}
use Rattle.mes_json.proofs.write_string.write_escaped.Given as goal

-- the escaped text before `place` is written, and the byte at `place` needs an escape
abbrev pub invariant-loop-place : goal.invariant-loop-place
invariant-loop-place l =
    (l.place ≤ length l.bytes) × (l.out.items ≡ l.fn.out.items ++ escaped_text (take l.place l.bytes)) × Extends l.fn.out.items l.out.items
    × (l.place < length l.bytes → IsKept (get_or l.bytes l.place 0) → ⊥)

abbrev pub decreases-loop-place : goal.decreases-loop-place
decreases-loop-place l = length l.bytes - l.place
