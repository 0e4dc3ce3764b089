use Rattle.std.proofs.Common.{take}
use Rattle.std.specs.List.{AllByRecursion}
use Rattle.mes_json.specs.Reader.{IsBlank}
use Rattle.mes_json.proofs.whitespace.blank_run.Given as goal

abbrev pub invariant-loop-place : goal.invariant-loop-place
invariant-loop-place l = AllByRecursion IsBlank (take l.place l.bytes)
