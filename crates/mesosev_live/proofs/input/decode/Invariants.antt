use Rattle.std.proofs.Common.{◌≡◌, ℕ, List, ◌++◌, length}
use Rattle.mesosev_live.specs.Inputs.{Decodes}
use Rattle.mesosev_live.proofs.input.decode.Given as goal

-- the bytes that were decoded, and those that are left
abbrev pub invariant-loop-rest : goal.invariant-loop-rest
invariant-loop-rest l =
    (w : List ℕ) × (l.bytes ≡ w ++ l.rest) × Decodes l.fn.reading l.fn.events.items l.reading l.events.items w

abbrev pub decreases-loop-rest : goal.decreases-loop-rest
decreases-loop-rest l = length l.rest
