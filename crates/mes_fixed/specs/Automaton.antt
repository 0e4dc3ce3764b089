-- The automaton of JSON numbers (RFC 8259 section 6): the next state for each class of bytes.
use Rattle.std.specs.Prelude.{◌≡◌, ℕ, Bool, true, false, List, [], ◌∷◌, Option, Some, None, if◌then◌else◌, ◌==◌, nat_le, ◌&&◌, ◌||◌}
use Rattle.mes_fixed.specs.declared.automaton.NumberState.{NumberState}
use Rattle.mes_fixed.specs.declared.automaton.NumberState.TheVariants.{AtStart, AfterMinus, AfterZero, InWhole, AfterPoint, InFraction, AfterExponent, AfterSign, InExponent}

-- a class of bytes: zero, digit1-9, decimal-point, e, plus, minus, and any other byte
pub data Letter : Type 0 where
  nought digit point exponent plus dash neither : Letter

abbrev pub letter_of : ℕ → Letter
letter_of c =
    if c == 48 then nought
    else (if nat_le 49 c && nat_le c 57 then digit
    else (if c == 46 then point
    else (if c == 101 || c == 69 then exponent
    else (if c == 43 then plus
    else (if c == 45 then dash
    else neither)))))

-- the state after a letter, or None if no number can go on with that letter
abbrev pub number_next : NumberState → Letter → Option NumberState
number_next AtStart nought = Some AfterZero
number_next AtStart digit = Some InWhole
number_next AtStart dash = Some AfterMinus
number_next AtStart _ = None
number_next AfterMinus nought = Some AfterZero
number_next AfterMinus digit = Some InWhole
number_next AfterMinus _ = None
number_next AfterZero point = Some AfterPoint
number_next AfterZero exponent = Some AfterExponent
number_next AfterZero _ = None
number_next InWhole nought = Some InWhole
number_next InWhole digit = Some InWhole
number_next InWhole point = Some AfterPoint
number_next InWhole exponent = Some AfterExponent
number_next InWhole _ = None
number_next AfterPoint nought = Some InFraction
number_next AfterPoint digit = Some InFraction
number_next AfterPoint _ = None
number_next InFraction nought = Some InFraction
number_next InFraction digit = Some InFraction
number_next InFraction exponent = Some AfterExponent
number_next InFraction _ = None
number_next AfterExponent nought = Some InExponent
number_next AfterExponent digit = Some InExponent
number_next AfterExponent plus = Some AfterSign
number_next AfterExponent dash = Some AfterSign
number_next AfterExponent _ = None
number_next AfterSign nought = Some InExponent
number_next AfterSign digit = Some InExponent
number_next AfterSign _ = None
number_next InExponent nought = Some InExponent
number_next InExponent digit = Some InExponent
number_next InExponent _ = None

-- a number may end in the state
abbrev pub is_final : NumberState → Bool
is_final AfterZero = true
is_final InWhole = true
is_final InFraction = true
is_final InExponent = true
is_final _ = false

-- the automaton, started in the state, accepts the bytes
abbrev pub Ends : NumberState → List ℕ → Type 0
Ends part [] = is_final part ≡ true
Ends part (c ∷ rest) = (next : NumberState) × (number_next part (letter_of c) ≡ Some next) × Ends next rest
