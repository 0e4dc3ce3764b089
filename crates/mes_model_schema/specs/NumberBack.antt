-- Lemmas: a number is read back from the text that it is written as.
use Rattle.std.proofs.Common.{◌≡◌, inl, inr, ℕ, suc, ◌*◌, ◌^◌, ◌<◌, ◌≤◌, Bool, true, false, List, [], ◌∷◌, length, get_or, refl, sym, ◌∙◌, ap, subst, arith, lit<, ℤ, pos, negsuc}
use Rattle.std.specs.Prelude.{FitsSigned, decimal}
use Rattle.std.specs.Int.{w32}
use Rattle.std.specs.Str.Parse.{IsNumeral, digits_value}
use Rattle.std.proofs.lemmas.List.{append-nil}
use Rattle.std.proofs.lemmas.Str.Parse.{digit_from_value}
use Rattle.std.proofs.lemmas.Fmt.{decimal_is_IsNumeral, decimal_digit, first_decimal, length-decimal-le}
use Rattle.mes_fixed.proofs.Texts.{text_back}
use Rattle.std.proofs.lemmas.Bool.Decides.{eqb_tells}
use Rattle.mes_fixed.specs.declared.limits.TheConstants.{MAX_UNITS}
use Rattle.mes_fixed.specs.Number.{Numeral, Spells, IsInt}
use Rattle.mes_fixed.specs.Value.{mantissa, exponent, Whole}
use Rattle.mes_fixed.specs.Text.{text_of}
use Rattle.mes_model_schema.specs.Kinds.{Returns}
use Rattle.mes_model_schema.specs.Numbers.{whole, signed32, fixed}

-- the decimal text of a number has no leading zero
decimal_int : (q : ℕ) → q < 2 ^ 64 → IsInt (decimal q)
decimal_int q h = elim (eqb_tells q 0) [
  | inl e ↦ subst IsInt (sym (ap decimal e.1 ∙ decimal_digit 0 (lit< tt))) (inl (refl, refl))
  | inr e ↦ by_first (decimal q) (decimal_is_IsNumeral q h).0 (first_decimal q (omega (arith, e.1)) h)
]
  where
    by_first : (ds : List ℕ) → IsNumeral 10 ds → 48 < get_or ds 0 0 → IsInt ds
    by_first [] n f = absurd (omega (arith, n.0))
    by_first (d ∷ ds) n f = let r = digit_from_value d n.1.0 in inr (omega (arith, f), r.1, n.1.1)

-- the parts (`Numeral`) of the text of a whole number, given its sign and magnitude
written : Bool → ℕ → Numeral
written negative q = record { negative = negative; whole = decimal q; fraction = []; lowers = false; power = [] }

decimal_mantissa : (negative : Bool) (q : ℕ) → q < 2 ^ 64 → mantissa (written negative q) ≡ q
unfolding written
decimal_mantissa negative q h = ap (digits_value 10) (append-nil (decimal q)) ∙ (decimal_is_IsNumeral q h).1

decimal_short : (q : ℕ) → q < 2 ^ 64 → length (decimal q) ≤ 20
decimal_short q h = length-decimal-le 20 q (lit< tt) (omega (arith, h)) h

decimal_is : (negative : Bool) (q : ℕ) → q < 2 ^ 64 → Whole (mantissa (written negative q)) (exponent (written negative q)) q
unfolding written
decimal_is negative q h = sym (ap (λ (m : ℕ). m * 10 ^ 0) (decimal_mantissa negative q h) ∙ omega arith)

plain : (q : ℕ) → q < 2 ^ 64 → Spells (decimal q) (written false q)
unfolding written
plain q h = record {
  minus = [];
  frac = [];
  exp = [];
  is = sym (append-nil (decimal q));
  is_minus = refl;
  is_int = decimal_int q h;
  is_frac = refl;
  is_exp = (refl, refl);
}

minus : (q : ℕ) → q < 2 ^ 64 → Spells (45 ∷ decimal q) (written true q)
unfolding written
minus q h = record {
  minus = 45 ∷ [];
  frac = [];
  exp = [];
  is = ap (λ (x : List ℕ). 45 ∷ x) (sym (append-nil (decimal q)));
  is_minus = refl;
  is_int = decimal_int q h;
  is_frac = refl;
  is_exp = (refl, refl);
}

pub whole_returns : (v : ℕ) → v < 2 ^ 64 → Returns whole v
unfolding whole written
whole_returns v h = (
  decimal v,
  refl,
  record {
    short = omega (arith, decimal_short v h);
    numeral = written false v;
    spells = plain v h;
    gives = record { unsigned = λ e. absurd (cc); whole = decimal_is false v h; fits = h };
  },
)

pub signed32_returns : (z : ℤ) → FitsSigned w32 z → Returns signed32 z
unfolding signed32 written
signed32_returns (pos v) fits =
    let bound : v < 2 ^ 31 = fits.sfits in
    let h : v < 2 ^ 64 = omega (arith, bound) in (
      decimal v,
      refl,
      record {
        short = omega (arith, decimal_short v h);
        numeral = written false v;
        spells = plain v h;
        gives = record { size = v; whole = decimal_is false v h; is = refl; fits = fits };
      },
    )
signed32_returns (negsuc k) fits =
    let bound : k < 2 ^ 31 = fits.sfits in
    let h : suc k < 2 ^ 64 = omega (arith, bound) in (
      45 ∷ decimal (suc k),
      refl,
      record {
        short = omega (arith, decimal_short (suc k) h);
        numeral = written true (suc k);
        spells = minus (suc k) h;
        gives = record { size = suc k; whole = decimal_is true (suc k) h; is = refl; fits = fits };
      },
    )

pub fixed_returns : (places u : ℕ) → 1 ≤ places → places ≤ 6 → u ≤ MAX_UNITS → Returns (fixed places) u
unfolding fixed
fixed_returns places u low high le = (text_of places u, refl, text_back places u low high le)
