use Rattle.std.proofs.Common.{◌≡◌, ◌+◌, ◌-◌, ◌≤◌, length, take}
use Rattle.mes_json.specs.Canonical.{escaped_text}
use Rattle.mes_json.proofs.canonical_length.capacity_after_quoted.Given as goal

-- `room` is the sum of `free`, the length of the escaped text so far, and 2 for the quotation marks
abbrev pub invariant-loop-place : goal.invariant-loop-place
invariant-loop-place l = (l.place ≤ length l.bytes) × (l.free + length (escaped_text (take l.place l.bytes)) + 2 ≡ l.fn.room)

abbrev pub decreases-loop-place : goal.decreases-loop-place
decreases-loop-place l = length l.bytes - l.place
