use Rattle.std.proofs.Common.{ℕ, [], ◌-◌, ◌≤◌, length}
use Rattle.mes_stream.specs.declared.stream_reader.Framing.{Framing}
use Rattle.mesosev_c.proofs.InputLemmas.{Going, Counting}
use Rattle.mesosev_c.proofs.whole.read_all.Given as goal

abbrev pub invariant-loop-at : goal.invariant-loop-at
invariant-loop-at l =
    (l.at ≤ length l.bytes) × ((framing : Framing) (limit : ℕ) → Going l.fn.stream framing limit [] [] → Counting framing limit l.bytes l.stream l.at l.events)

abbrev pub decreases-loop-at : goal.decreases-loop-at
decreases-loop-at l = length l.bytes - l.at
