use Rattle.std.proofs.Common.{◌≡◌, ◌-◌, ◌≤◌, length, take, Some}
use Rattle.mes_json.specs.Machine.{run}
use Rattle.mes_json.specs.Reader.{Fits, state_view}
use Rattle.mes_json.specs.declared.limits.TheConstants.{MAX_NESTING}
use Rattle.mes_json.proofs.reader.Reader.take_bytes.Given as goal

abbrev pub invariant-loop-place : goal.invariant-loop-place
invariant-loop-place l = record {
  fits : Fits l.self;
  inside : l.place ≤ length l.bytes;
  reached : run MAX_NESTING (state_view l.fn.self) (take l.place l.bytes) ≡ Some (state_view l.self);
}

abbrev pub decreases-loop-place : goal.decreases-loop-place
decreases-loop-place l = length l.bytes - l.place
