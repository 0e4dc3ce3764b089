-- The numbers of JSON (RFC 8259 section 6), each production under its ABNF. DIGIT is %x30-39 (RFC
-- 5234 appendix B.1); `AllDigits 10` is *DIGIT, `IsNumeral 10` is 1*DIGIT.
use Rattle.std.specs.Prelude.{◌≡◌, ℕ, ◌≤◌, Bool, true, false, ◌⊎◌, List, [], ◌∷◌, ◌++◌}
use Rattle.std.specs.Str.Parse.{AllDigits, IsNumeral}

-- the parts of a number: minus, the digits of int and frac, and the minus and digits of exp
pub record Numeral : Type 0 where
  pub negative : Bool
  pub whole : List ℕ
  pub fraction : List ℕ
  pub lowers : Bool
  pub power : List ℕ

-- minus = %x2D
-- [ minus ]
abbrev pub IsMinus : Bool → List ℕ → Type 0
IsMinus true text = text ≡ 45 ∷ []
IsMinus false text = text ≡ []

-- zero = %x30, digit1-9 = %x31-39
-- int = zero / ( digit1-9 *DIGIT )
abbrev pub IsInt : List ℕ → Type 0
IsInt [] = ⊥
IsInt (d ∷ ds) = ((d ≡ 48) × (ds ≡ [])) ⊎ ((49 ≤ d) × (d ≤ 57) × AllDigits 10 ds)

-- decimal-point = %x2E, frac = decimal-point 1*DIGIT
-- [ frac ]
abbrev pub IsFrac : List ℕ → List ℕ → Type 0
IsFrac [] text = text ≡ []
IsFrac (d ∷ ds) text = (text ≡ 46 ∷ d ∷ ds) × AllDigits 10 (d ∷ ds)

-- plus = %x2B
-- [ minus / plus ]
abbrev pub IsSign : Bool → List ℕ → Type 0
IsSign true text = text ≡ 45 ∷ []
IsSign false text = (text ≡ []) ⊎ (text ≡ 43 ∷ [])

-- e = %x65 / %x45
-- exp = e [ minus / plus ] 1*DIGIT
pub record IsPower (lowers : Bool) (digits : List ℕ) (text : List ℕ) : Type 0 where
  pub e : ℕ
  pub sign : List ℕ
  pub is : text ≡ e ∷ (sign ++ digits)
  pub is_e : (e ≡ 101) ⊎ (e ≡ 69)
  pub is_sign : IsSign lowers sign
  pub is_numeral : IsNumeral 10 digits

-- [ exp ]
abbrev pub IsExp : Bool → List ℕ → List ℕ → Type 0
IsExp lowers [] text = (lowers ≡ false) × (text ≡ [])
IsExp lowers (d ∷ ds) text = IsPower lowers (d ∷ ds) text

-- number = [ minus ] int [ frac ] [ exp ]; n has the parts of the text
pub record Spells (text : List ℕ) (n : Numeral) : Type 0 where
  pub minus : List ℕ
  pub frac : List ℕ
  pub exp : List ℕ
  pub is : text ≡ minus ++ (n.whole ++ (frac ++ exp))
  pub is_minus : IsMinus n.negative minus
  pub is_int : IsInt n.whole
  pub is_frac : IsFrac n.fraction frac
  pub is_exp : IsExp n.lowers n.power exp

-- the text is a number
abbrev pub IsNumber : List ℕ → Type 0
IsNumber text = (n : Numeral) × Spells text n
