use Rattle.std.proofs.Common.{◌≡◌, Some, take}
use Rattle.mes_fixed.specs.declared.automaton.NumberState.TheVariants.{AtStart}
use Rattle.mes_json.specs.Reader.{part_after}
use Rattle.mes_json.proofs.digits.number_run.Given as goal

abbrev pub invariant-loop-place : goal.invariant-loop-place
invariant-loop-place l = part_after AtStart (take l.place l.bytes) ≡ Some l.part
