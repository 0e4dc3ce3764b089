use Rattle.std.proofs.Common.{take}
use Rattle.std.specs.List.{AllByRecursion}
use Rattle.mes_json.specs.Reader.{IsPlain}
use Rattle.mes_json.proofs.plain_scan.run_by_byte.Given as goal

abbrev pub invariant-loop-place : goal.invariant-loop-place
invariant-loop-place l = AllByRecursion IsPlain (take l.place l.bytes)
