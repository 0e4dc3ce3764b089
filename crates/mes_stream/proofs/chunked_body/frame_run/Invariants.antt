use Rattle.std.proofs.Common.{◌≡◌, ℕ, List, length, ◌-◌, ◌≤◌}
use Rattle.mes_frame.specs.ChunkState.{ChunkRepresents, PassesFraming}
use Rattle.mes_stream.proofs.chunked_body.frame_run.Given as goal

abbrev pub invariant-loop-count : goal.invariant-loop-count
invariant-loop-count l =
    (l.count ≤ length l.rest) × (l.count ≡ 0 → l.chunks ≡ l.fn.chunks)
    × ((w body : List ℕ) → ChunkRepresents l.fn.chunks w body → PassesFraming l.chunks w body l.rest l.count)

abbrev pub decreases-loop-count : goal.decreases-loop-count
decreases-loop-count l = length l.rest - l.count
