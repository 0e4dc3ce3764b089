use Rattle.std.proofs.Common.{◌≡◌, ℕ, List, length, ◌-◌, ◌≤◌}
use Rattle.mes_frame.specs.RecordState.{RecordStands, limit_of}
use Rattle.mes_stream.proofs.SizeLemmas.{PassesSize}
use Rattle.mes_stream.proofs.record_body.size_run.Given as goal

abbrev pub invariant-loop-count : goal.invariant-loop-count
invariant-loop-count l =
    (l.count ≤ length l.run) × (limit_of l.records ≡ limit_of l.fn.records)
    × ((x r : List ℕ) → RecordStands l.fn.records x r → PassesSize l.records x r l.run l.count)

abbrev pub decreases-loop-count : goal.decreases-loop-count
decreases-loop-count l = length l.run - l.count
