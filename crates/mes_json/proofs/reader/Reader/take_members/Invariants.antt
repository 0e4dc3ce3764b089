use Rattle.std.proofs.Common.{◌-◌, length}
use Rattle.mes_json.specs.Reader.{RunsTo}
use Rattle.mes_json.proofs.reader.Reader.take_members.Given as goal

abbrev pub invariant-loop-place : goal.invariant-loop-place
invariant-loop-place l = RunsTo l.fn.self l.bytes l.fn.from l.place l.self

abbrev pub decreases-loop-place : goal.decreases-loop-place
decreases-loop-place l = length l.bytes - l.place
