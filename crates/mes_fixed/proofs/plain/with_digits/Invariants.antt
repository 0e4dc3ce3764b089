use Rattle.std.proofs.Common.{◌<◌, ◌^◌, take}
use Rattle.mes_fixed.proofs.PlainNumbers.{Digits}
use Rattle.mes_fixed.proofs.plain.with_digits.Given as goal

abbrev pub invariant-loop-digit : goal.invariant-loop-digit
invariant-loop-digit l = Digits l.value (take l.digit-index l.digits) l.more × (l.more < 2 ^ 64)
