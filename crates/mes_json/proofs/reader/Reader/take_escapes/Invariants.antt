use Rattle.std.proofs.Common.{◌≡◌, ◌-◌, length}
use Rattle.mes_json.specs.Reader.{RunsTo}
use Rattle.mes_json.proofs.PlainLemmas.{inside}
use Rattle.mes_json.proofs.reader.Reader.take_escapes.Given as goal

abbrev pub invariant-loop-place : goal.invariant-loop-place
invariant-loop-place l = record {
  runs : RunsTo l.fn.self l.bytes l.fn.from l.place l.self;
  at : l.self.at ≡ inside l.fn.purpose;
}

abbrev pub decreases-loop-place : goal.decreases-loop-place
decreases-loop-place l = length l.bytes - l.place
