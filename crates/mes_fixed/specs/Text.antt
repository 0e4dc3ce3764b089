-- The text that is written for a fixed-point number.
use Rattle.std.specs.Prelude.{ℕ, zero, suc, ◌+◌, ◌/◌, ◌%◌, ◌^◌, List, [], ◌∷◌, ◌++◌, decimal, if◌then◌else◌, ◌==◌}

-- the digits after the point of `rest` units of 10^-places, without needless trailing zeros
abbrev pub fraction_text : ℕ → ℕ → List ℕ
fraction_text zero rest = []
fraction_text (suc k) rest =
    (48 + rest / 10 ^ k) ∷ (if rest % 10 ^ k == 0 then [] else fraction_text k (rest % 10 ^ k))

-- the integer part, a point and the digits after it
abbrev pub text_of : ℕ → ℕ → List ℕ
text_of places units = decimal (units / 10 ^ places) ++ (46 ∷ fraction_text places (units % 10 ^ places))
