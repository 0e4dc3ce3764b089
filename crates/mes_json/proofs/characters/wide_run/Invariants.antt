use Rattle.std.proofs.Common.{◌-◌, ◌≤◌, length, take}
use Rattle.mes_json.specs.Reader.{StandAlone}
use Rattle.mes_json.proofs.characters.wide_run.Given as goal

abbrev pub invariant-loop-place : goal.invariant-loop-place
invariant-loop-place l = record {
  inside : l.place ≤ length l.bytes;
  whole : StandAlone (take l.place l.bytes);
}

abbrev pub decreases-loop-place : goal.decreases-loop-place
decreases-loop-place l = length l.bytes - l.place
