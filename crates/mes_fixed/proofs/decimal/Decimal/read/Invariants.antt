-- The parts collected so far, continued over the remaining bytes, are the parts of the whole text.
use Rattle.std.proofs.Common.{◌≡◌, ◌≤◌, length, drop}
use Rattle.mes_fixed.specs.declared.automaton.NumberState.TheVariants.{AtStart}
use Rattle.mes_fixed.specs.Number.{Numeral}
use Rattle.mes_fixed.specs.Gathering.{blank, IsBeforePoint}
use Rattle.mes_fixed.specs.Decimal.{IsDecimal}
use Rattle.mes_fixed.specs.Gathering.{run}
use Rattle.mes_fixed.proofs.decimal.Decimal.read.Given as goal

abbrev pub invariant-loop-byte : goal.invariant-loop-byte
invariant-loop-byte l =
    (length l.decimal.digits.items ≤ l.byte-index)
    × ((n : Numeral) × (run AtStart blank l.text ≡ run l.state n (drop l.byte-index l.text)) × IsDecimal n l.decimal × IsBeforePoint l.state n)
