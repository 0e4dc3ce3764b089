-- The parts of a number, collected byte by byte along the automaton.
use Rattle.std.specs.Prelude.{◌≡◌, ℕ, ◌≤◌, Bool, true, false, List, [], ◌∷◌, ◌++◌, ◌==◌, if◌then◌else◌, Option, Some, None}
use Rattle.std.specs.Option.{option_and_then}
use Rattle.mes_fixed.specs.declared.automaton.NumberState.{NumberState}
use Rattle.mes_fixed.specs.declared.automaton.NumberState.TheVariants.{AtStart, AfterMinus, AfterZero, InWhole, InFraction, AfterSign, InExponent}
use Rattle.mes_fixed.specs.Number.{Numeral}
use Rattle.mes_fixed.specs.Automaton.{letter_of, number_next, is_final}

-- the numeral with the given minus, int, frac, minus of exp, and digits of exp
abbrev pub made : Bool → List ℕ → List ℕ → Bool → List ℕ → Numeral
made negative whole fraction lowers power = record {
  negative = negative;
  whole = whole;
  fraction = fraction;
  lowers = lowers;
  power = power;
}

-- the numeral before the first byte
abbrev pub blank : Numeral
blank = made false [] [] false []

-- the numeral n extended by the byte c, which led to the state
abbrev pub gathered : NumberState → ℕ → Numeral → Numeral
gathered AfterMinus c n = record n { negative = true }
gathered AfterZero c n = record n { whole = n.whole ++ c ∷ [] }
gathered InWhole c n = record n { whole = n.whole ++ c ∷ [] }
gathered InFraction c n = record n { fraction = n.fraction ++ c ∷ [] }
gathered AfterSign c n = record n { lowers = c == 45 }
gathered InExponent c n = record n { power = n.power ++ c ∷ [] }
gathered _ c n = n

-- the numeral n extended by the bytes, or None if no number ends after them
abbrev pub run : NumberState → Numeral → List ℕ → Option Numeral
run part n [] = if is_final part then Some n else None
run part n (c ∷ rest) = option_and_then (λ next. run next (gathered next c n) rest) (number_next part (letter_of c))

-- in the state InExponent, the byte c is a DIGIT
abbrev pub IsExponentDigit : NumberState → ℕ → Type 0
IsExponentDigit InExponent c = (48 ≤ c) × (c ≤ 57)
IsExponentDigit _ c = Unit {0}

-- in the states before the point, n has no digit of frac
abbrev pub IsBeforePoint : NumberState → Numeral → Type 0
IsBeforePoint AtStart n = n.fraction ≡ []
IsBeforePoint AfterMinus n = n.fraction ≡ []
IsBeforePoint AfterZero n = n.fraction ≡ []
IsBeforePoint InWhole n = n.fraction ≡ []
IsBeforePoint _ n = Unit {0}
