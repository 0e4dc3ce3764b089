use Rattle.std.proofs.Common.{take}
use Rattle.std.specs.List.{AllByRecursion}
use Rattle.mes_json.specs.Canonical.{IsKept}
use Rattle.mes_json.proofs.unescaped.kept_by_byte.Given as goal

abbrev pub invariant-loop-place : goal.invariant-loop-place
invariant-loop-place l = AllByRecursion IsKept (take l.place l.bytes)
