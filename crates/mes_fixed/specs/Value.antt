-- The value of a number's text, and the integers and numbers of units that it is read as.
use Rattle.std.specs.Prelude.{◌≡◌, ℕ, suc, ◌+◌, ◌*◌, ◌^◌, ◌<◌, ◌≤◌, ◌≢◌, ◌⊎◌, Bool, true, List, ◌++◌, length, ℤ, pos, negsuc, ◌+ℤ◌, ◌-ℤ◌, neg_ℤ, if◌then◌else◌, FitsSigned}
use Rattle.std.specs.Str.Parse.{digits_value}
use Rattle.std.specs.Int.{w32}
use Rattle.mes_fixed.specs.declared.limits.TheConstants.{MAX_NUMBER_TEXT, MAX_UNITS}
use Rattle.mes_fixed.specs.declared.fault.NumFault.{NumFault}
use Rattle.mes_fixed.specs.declared.fault.NumFault.TheVariants.{TooLong, Shape, Range}
use Rattle.mes_fixed.specs.Number.{Numeral, Spells, IsNumber}

-- m: the digits of int and of frac, joined
abbrev pub mantissa : Numeral → ℕ
mantissa n = digits_value 10 (n.whole ++ n.fraction)

-- -n if the flag (a minus sign) is true, otherwise n
abbrev pub signed : Bool → ℕ → ℤ
signed negative n = if negative then neg_ℤ (pos n) else pos n

-- e: the value of exp, less the number of digits of frac; the magnitude of the number is m * 10^e
abbrev pub exponent : Numeral → ℤ
exponent n = signed n.lowers (digits_value 10 n.power) -ℤ pos (length n.fraction)

-- n is the integer nearest to m / w, halves up: (2n - 1) w <= 2m < (2n + 1) w
pub record HalfUp (m w n : ℕ) : Type 0 where
  pub low : 2 * n * w ≤ 2 * m + w
  pub high : 2 * m < (2 * n + 1) * w

-- n is the integer nearest to m * 10^s; `negsuc k` is -(k + 1)
abbrev pub Nearest : ℕ → ℤ → ℕ → Type 0
Nearest m (pos k) n = n ≡ m * 10 ^ k
Nearest m (negsuc k) n = HalfUp m (10 ^ suc k) n

-- n is the number of units of 10^-places nearest to m * 10^e
abbrev pub Rounds : ℕ → ℤ → ℕ → ℕ → Type 0
Rounds m e places n = Nearest m (e +ℤ pos places) n

-- m * 10^e is the integer v
abbrev pub Whole : ℕ → ℤ → ℕ → Type 0
Whole m (pos k) v = v ≡ m * 10 ^ k
Whole m (negsuc k) v = m ≡ v * 10 ^ suc k

-- the number n, rounded, is `units` units of 10^-places, and neither negative nor above MAX_UNITS
pub record GivesUnits (places : ℕ) (n : Numeral) (units : ℕ) : Type 0 where
  pub unsigned : n.negative ≡ true → mantissa n ≡ 0
  pub rounds : Rounds (mantissa n) (exponent n) places units
  pub fits : units ≤ MAX_UNITS

-- the number n is the unsigned integer v of 64 bits
pub record GivesWhole (n : Numeral) (v : ℕ) : Type 0 where
  pub unsigned : n.negative ≡ true → mantissa n ≡ 0
  pub whole : Whole (mantissa n) (exponent n) v
  pub fits : v < 2 ^ 64

-- the number n is the signed integer z of 32 bits
pub record GivesSigned (n : Numeral) (z : ℤ) : Type 0 where
  pub size : ℕ
  pub whole : Whole (mantissa n) (exponent n) size
  pub is : z ≡ signed n.negative size
  pub fits : FitsSigned w32 z

-- the number has a minus sign and is not zero
abbrev pub IsBelowZero : Numeral → Type 0
IsBelowZero n = (n.negative ≡ true) × (mantissa n ≢ 0)

-- the number is negative, or rounds to more than MAX_UNITS
abbrev pub LacksUnits : ℕ → Numeral → Type 0
LacksUnits places n =
    IsBelowZero n
    ⊎ ((units : ℕ) × Rounds (mantissa n) (exponent n) places units × (MAX_UNITS < units))

-- the number is not an unsigned integer of 64 bits
abbrev pub LacksWhole : Numeral → Type 0
LacksWhole n = IsBelowZero n ⊎ ((v : ℕ) → Whole (mantissa n) (exponent n) v → 2 ^ 64 ≤ v)

-- the number is not a signed integer of 32 bits
abbrev pub LacksSigned : Numeral → Type 0
LacksSigned n =
    (size : ℕ) → Whole (mantissa n) (exponent n) size → ¬ (FitsSigned w32 (signed n.negative size))

-- the text has at most MAX_NUMBER_TEXT bytes and is a number; `Gives` relates that number to the
-- value x
pub record Reads {X : Type 0} (Gives : Numeral → X → Type 0) (text : List ℕ) (x : X) : Type 0 where
  pub short : length text ≤ MAX_NUMBER_TEXT
  pub numeral : Numeral
  pub spells : Spells text numeral
  pub gives : Gives numeral x

-- the error for a text: it is too long, it is no number, or `Lacks` holds: the type cannot
-- represent its number
abbrev pub Refuses : (Numeral → Type 0) → List ℕ → NumFault → Type 0
Refuses Lacks text TooLong = MAX_NUMBER_TEXT < length text
Refuses Lacks text Shape = (length text ≤ MAX_NUMBER_TEXT) × ¬ (IsNumber text)
Refuses Lacks text Range = (length text ≤ MAX_NUMBER_TEXT) × ((n : Numeral) × Spells text n × Lacks n)
