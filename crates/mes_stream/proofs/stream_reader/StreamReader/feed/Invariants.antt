use Rattle.std.proofs.Common.{◌≡◌, ◌-◌, ◌≤◌, ℕ, List, ◌++◌, length, take}
use Rattle.mes_stream.specs.StreamReaders.{StreamRepresents}
use Rattle.mes_stream.specs.declared.stream_reader.Framing.{Framing}
use Rattle.mes_stream.proofs.stream_reader.StreamReader.feed.Given as goal

abbrev pub invariant-loop-at : goal.invariant-loop-at
invariant-loop-at g l =
    (l.at ≤ length l.piece)
    × ((ahead : ℕ) (framing : Framing) (limit : ℕ) (w : List ℕ) (values : List g.row.R-Value.Denot) → StreamRepresents g.R.RecordReader.holds g.R.RecordReader.spells ahead l.fn.self framing limit w values
    → (more : List g.row.R-Value.Denot) × (l.values.items ≡ l.fn.values.items ++ more)
    × StreamRepresents g.R.RecordReader.holds g.R.RecordReader.spells ahead l.self framing limit (w ++ take l.at l.piece) (values ++ more))

abbrev pub decreases-loop-at : goal.decreases-loop-at
decreases-loop-at g l = length l.piece - l.at
