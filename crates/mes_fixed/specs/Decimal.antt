-- The parts of a number's text as the code represents them. The magnitude of the number, times
-- 10^places, is `multiplied` / `divisor`.
use Rattle.std.specs.Prelude.{◌≡◌, ℕ, ◌+◌, ◌-◌, ◌*◌, ◌^◌, ◌<◌, ◌≤◌, min, Bool, ◌++◌, length, if◌then◌else◌}
use Rattle.std.specs.Str.Parse.{digits_value}
use Rattle.mes_fixed.specs.declared.limits.TheConstants.{MAX_EXPONENT}
use Rattle.mes_fixed.specs.declared.decimal.Decimal.{Decimal}
use Rattle.mes_fixed.specs.declared.decimal.Scaled.{Scaled}
use Rattle.mes_fixed.specs.Number.{Numeral}
use Rattle.mes_fixed.specs.Cut.{CutIs}

-- `raise` and `lower`: the exponents of the powers of ten that multiply and divide the digits
abbrev pub raise : Bool → ℕ → ℕ → ℕ
raise lowers exponent places = (if lowers then 0 else exponent) + places

abbrev pub lower : Bool → ℕ → ℕ → ℕ
lower lowers exponent fraction_digits = fraction_digits + (if lowers then exponent else 0)

-- d represents the numeral n, with the exponent capped at MAX_EXPONENT
pub record IsDecimal (n : Numeral) (d : Decimal) : Type 0 where
  pub negative : d.negative ≡ n.negative
  pub digits : d.digits.items ≡ n.whole ++ n.fraction
  pub fraction_digits : d.fraction_digits ≡ length n.fraction
  pub lowers : d.lowers ≡ n.lowers
  pub exponent : d.exponent ≡ min MAX_EXPONENT (digits_value 10 n.power)

abbrev pub value : Decimal → ℕ
value d = digits_value 10 d.digits.items

abbrev pub raised : Decimal → ℕ → ℕ
raised d places = raise d.lowers d.exponent places

abbrev pub lowered : Decimal → ℕ
lowered d = lower d.lowers d.exponent d.fraction_digits

abbrev pub multiplied : Decimal → ℕ → ℕ
multiplied d places = value d * 10 ^ (raised d places - lowered d)

abbrev pub divisor : Decimal → ℕ → ℕ
divisor d places = 10 ^ (lowered d - raised d places)

-- s is m / w, truncated to an integer, and the comparison of the fraction with one half
pub record IsCut (m w : ℕ) (s : Scaled) : Type 0 where
  pub rest : ℕ
  pub is : m ≡ s.whole * w + rest
  pub below : rest < w
  pub cut : CutIs s.cut rest w

-- m / w is 2^64 or more
pub record IsHuge (m w : ℕ) : Type 0 where
  pub whole : ℕ
  pub rest : ℕ
  pub is : m ≡ whole * w + rest
  pub below : rest < w
  pub huge : 2 ^ 64 ≤ whole
