use Rattle.std.proofs.Common.{take}
use Rattle.std.specs.List.{AllByRecursion}
use Rattle.mes_json.specs.Reader.{IsDigit}
use Rattle.mes_json.proofs.digits.digit_run.Given as goal

abbrev pub invariant-loop-place : goal.invariant-loop-place
invariant-loop-place l = AllByRecursion IsDigit (take l.place l.bytes)
