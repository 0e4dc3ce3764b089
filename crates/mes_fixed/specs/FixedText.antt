-- The form of a fixed-point number's text, stated without an algorithm.
use Rattle.std.specs.Prelude.{◌≡◌, ℕ, ◌-◌, ◌*◌, ◌^◌, ◌≤◌, List, [], ◌∷◌, ◌++◌, length}
use Rattle.std.specs.Str.Parse.{IsNumeral, digits_value}
use Rattle.mes_fixed.specs.Number.{IsInt}

-- the text has the form int "." 1*DIGIT without needless trailing zeros, and is `units` units of
-- 10^-places
pub record WritesUnits (places units : ℕ) (text : List ℕ) : Type 0 where
  pub whole : List ℕ
  pub fraction : List ℕ
  pub is : text ≡ whole ++ 46 ∷ fraction
  pub is_int : IsInt whole
  pub is_numeral : IsNumeral 10 fraction
  pub most : length fraction ≤ places
  pub last : (front : List ℕ) → fraction ≡ front ++ 48 ∷ [] → front ≡ []
  pub counts : digits_value 10 (whole ++ fraction) * 10 ^ (places - length fraction) ≡ units
