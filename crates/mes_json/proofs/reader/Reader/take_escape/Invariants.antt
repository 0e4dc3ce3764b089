use Rattle.std.proofs.Common.{◌≡◌, ◌-◌, length}
use Rattle.mes_json.specs.Reader.{Reached, RunsTo}
use Rattle.mes_json.proofs.EscapeTaken.{within}
use Rattle.mes_json.proofs.reader.Reader.take_escape.Given as goal

abbrev pub invariant-loop-place : goal.invariant-loop-place
invariant-loop-place l = record {
  runs : RunsTo l.fn.self l.bytes l.fn.from l.place l.self;
  reached : Reached l.self;
  at : l.self.at ≡ within l.fn.purpose l.escape;
}

abbrev pub decreases-loop-place : goal.decreases-loop-place
decreases-loop-place l = length l.bytes - l.place
