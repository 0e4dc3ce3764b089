-- Exactly one text writes the units of a fixed-point number.
use Rattle.std.proofs.Common.{◌≡◌, ℕ, zero, suc, ◌+◌, ◌-◌, ◌*◌, ◌^◌, ◌<◌, ◌≤◌, ◌≢◌, ◌⊎◌, inl, inr, true, false, ◌==◌, List, [], ◌∷◌, ◌++◌, length, refl, sym, ◌∙◌, ap, subst, arith, lit<}
use Rattle.std.specs.Prelude.{◌/◌, ◌%◌, decimal}
use Rattle.std.specs.Char.{digit_value}
use Rattle.std.specs.Str.Parse.{AllDigits, IsNumeral, digits_value}
use Rattle.std.proofs.lemmas.Bool.{cond-true, cond-false}
use Rattle.std.proofs.lemmas.Bool.Decides.{eqb_tells}
use Rattle.std.proofs.lemmas.Str.{digit_value_digit}
use Rattle.std.proofs.lemmas.Str.Parse.{digit_from_value, numerals_by_value, tells_digits}
use Rattle.std.proofs.lemmas.Nat.{div-add-mod', div-mul-add, mod-mul-add, mod_below, pow-add}
use Rattle.std.proofs.lemmas.Int.Digits.{digits_value-lt}
use Rattle.std.proofs.lemmas.Fmt.{decimal_is_IsNumeral, decimal-digits_value}
use Rattle.std.proofs.Math.Nat.{one-le-pow, mul-le-mul_left, mul-le-mul_right}
use Rattle.mes_fixed.specs.declared.limits.TheConstants.{MAX_UNITS}
use Rattle.mes_fixed.specs.Number.{IsInt}
use Rattle.mes_fixed.specs.Text.{fraction_text, text_of}
use Rattle.mes_fixed.specs.FixedText.{WritesUnits}
use Rattle.mes_fixed.proofs.Letters.{digit_is_value}
use Rattle.mes_fixed.proofs.DigitValues.{value_append, value_cons}
use Rattle.mes_fixed.proofs.Texts.{Fraction, left_behind, spread, fraction_is, decimal_int, whole_fits}

-- ---- digits that do not end with a zero, or only with a zero that is the only digit

abbrev ZeroAlone : List ℕ → Type 0
ZeroAlone ds = (front : List ℕ) → ds ≡ front ++ 48 ∷ [] → front ≡ []

abbrev NoZero : List ℕ → Type 0
NoZero ds = (front : List ℕ) → ds ≡ front ++ 48 ∷ [] → ⊥

not_none : (front : List ℕ) → [] ≡ front ++ 48 ∷ [] → ⊥
not_none [] e = absurd (cc)
not_none (c ∷ cs) e = absurd (cc)

one_alone : (d : ℕ) → ZeroAlone (d ∷ [])
one_alone d [] e = refl
one_alone d (c ∷ cs) e = absurd (not_none cs (cc))

one_no_zero : (d : ℕ) → d ≢ 48 → NoZero (d ∷ [])
one_no_zero d other [] e = other (cc)
one_no_zero d other (c ∷ cs) e = not_none cs (cc)

more_no_zero : (d : ℕ) (ds : List ℕ) → 0 < length ds → NoZero ds → NoZero (d ∷ ds)
more_no_zero d [] some last front e = absurd (omega (arith, some))
more_no_zero d (b ∷ ds) some last [] e = absurd (cc)
more_no_zero d (b ∷ ds) some last (c ∷ cs) e = last cs (cc)

rest_no_zero : (d e : ℕ) (ds : List ℕ) → ZeroAlone (d ∷ e ∷ ds) → NoZero (e ∷ ds)
rest_no_zero d e ds last front is = let none = last (d ∷ front) (ap (λ (x : List ℕ). d ∷ x) is) in absurd (cc)

-- ---- `text_of` writes a text of the form `WritesUnits`

fraction_no_zero : (k r : ℕ) → 0 < r → r < 10 ^ k → NoZero (fraction_text k r)
fraction_no_zero zero r some less = absurd (omega arith)
fraction_no_zero (suc k) r some less = elim (eqb_tells (r % 10 ^ k) 0) [
  | inl e ↦
      subst NoZero (ap (λ (x : List ℕ). (48 + r / 10 ^ k) ∷ x) (sym (cond-true (r % 10 ^ k == 0) [] (fraction_text k (r % 10 ^ k)) e.0)))
      (one_no_zero (48 + r / 10 ^ k) (λ z. first e.1 (omega (arith, z))))
  | inr e ↦
      subst NoZero (ap (λ (x : List ℕ). (48 + r / 10 ^ k) ∷ x) (sym (cond-false (r % 10 ^ k == 0) [] (fraction_text k (r % 10 ^ k)) e.0)))
      (more_no_zero (48 + r / 10 ^ k) (fraction_text k (r % 10 ^ k)) (fraction_is k (r % 10 ^ k) (left_behind k r e.1) below).numeral.0
      (fraction_no_zero k (r % 10 ^ k) (omega (arith, e.1)) below))
]
  where
    below : r % 10 ^ k < 10 ^ k
    below = mod_below r (10 ^ k) (one-le-pow k 10 (lit< tt))

    first : r % 10 ^ k ≡ 0 → r / 10 ^ k ≡ 0 → ⊥
    first rest none =
        let product : r / 10 ^ k * 10 ^ k ≡ 0 = ap (λ (x : ℕ). x * 10 ^ k) none ∙ omega arith in
        omega (arith, some, rest, product, div-add-mod' r (10 ^ k))

fraction_alone : (k r : ℕ) → 0 < k → r < 10 ^ k → ZeroAlone (fraction_text k r)
fraction_alone zero r some less = absurd (omega arith)
fraction_alone (suc k) r some less = elim (eqb_tells r 0) [
  | inl z ↦
      let rest : r % 10 ^ k ≡ 0 = omega (arith, z.1, div-add-mod' r (10 ^ k)) in
      by_rest (eqb_tells (r % 10 ^ k) 0) rest
  | inr other ↦ λ front e. absurd (fraction_no_zero (suc k) r (omega (arith, other.1)) less front e)
]
  where
    by_rest : ((r % 10 ^ k == 0 ≡ true) × (r % 10 ^ k ≡ 0)) ⊎ ((r % 10 ^ k == 0 ≡ false) × (r % 10 ^ k ≢ 0)) → r % 10 ^ k ≡ 0 → ZeroAlone (fraction_text (suc k) r)
    by_rest (inl e) rest =
        subst ZeroAlone (ap (λ (x : List ℕ). (48 + r / 10 ^ k) ∷ x) (sym (cond-true (r % 10 ^ k == 0) [] (fraction_text k (r % 10 ^ k)) e.0))) (one_alone (48 + r / 10 ^ k))
    by_rest (inr e) rest = absurd (e.1 rest)

-- the digits on both sides of the point, padded with zeros to all places
joined : (whole ds : List ℕ) (places : ℕ) → length ds ≤ places
    → digits_value 10 (whole ++ ds) * 10 ^ (places - length ds) ≡ digits_value 10 whole * 10 ^ places + digits_value 10 ds * 10 ^ (places - length ds)
joined whole ds places most =
    let power : 10 ^ length ds * 10 ^ (places - length ds) ≡ 10 ^ places =
    sym (pow-add 10 (length ds) (places - length ds)) ∙ ap (λ (i : ℕ). 10 ^ i) (omega (arith, most)) in
    ap (λ (x : ℕ). x * 10 ^ (places - length ds)) (value_append whole ds)
    ∙ spread (digits_value 10 whole) (10 ^ length ds) (digits_value 10 ds) (10 ^ (places - length ds))
    ∙ ap (λ (x : ℕ). digits_value 10 whole * x + digits_value 10 ds * 10 ^ (places - length ds)) power

pub text_writes : (places units : ℕ) → 1 ≤ places → places ≤ 6 → units ≤ MAX_UNITS → WritesUnits places units (text_of places units)
text_writes places units low high le = record {
  whole = decimal q;
  fraction = ds;
  is = refl;
  is_int = decimal_int q small;
  is_numeral = f.numeral;
  most = f.short;
  last = fraction_alone places r low below;
  counts =
      joined (decimal q) ds places f.short
      ∙ ap (λ (x : ℕ). x * 10 ^ places + digits_value 10 ds * 10 ^ (places - length ds)) (decimal_is_IsNumeral q small).1
      ∙ ap (λ (x : ℕ). q * 10 ^ places + x) f.value
      ∙ div-add-mod' units (10 ^ places);
}
  where
    q : ℕ
    q = units / 10 ^ places

    r : ℕ
    r = units % 10 ^ places

    ds : List ℕ
    ds = fraction_text places r

    small : units / 10 ^ places < 2 ^ 64
    small = whole_fits places units low high le

    below : r < 10 ^ places
    below = mod_below units (10 ^ places) (one-le-pow places 10 (lit< tt))

    f : Fraction places r ds
    f = fraction_is places r low below

-- ---- no other text has the form `WritesUnits`

-- the value of digits, padded with zeros to k digits, is below 10^k
scaled_below : (ds : List ℕ) (k : ℕ) → AllDigits 10 ds → length ds ≤ k → digits_value 10 ds * 10 ^ (k - length ds) < 10 ^ k
scaled_below ds k digits most =
    let power : 10 ^ length ds * 10 ^ (k - length ds) ≡ 10 ^ k = sym (pow-add 10 (length ds) (k - length ds)) ∙ ap (λ (i : ℕ). 10 ^ i) (omega (arith, most)) in
    let one = one-le-pow (k - length ds) 10 (lit< tt) in
    let scaled : suc (digits_value 10 ds) * 10 ^ (k - length ds) ≤ 10 ^ length ds * 10 ^ (k - length ds) = mul-le-mul_right (10 ^ (k - length ds)) (digits_value-lt 10 ds digits) in
    omega (arith, power, one, scaled)

some_value : (ds : List ℕ) → AllDigits 10 ds → 0 < length ds → NoZero ds → 0 < digits_value 10 ds
some_value [] digits some last = absurd (omega (arith, some))
some_value (d ∷ []) digits some last =
    let digit = digit_value_digit d (digit_from_value d digits.0) in
    let other : d ≢ 48 = λ e. last [] (ap (λ (x : ℕ). x ∷ []) e) in
    omega (arith, digit, digit_from_value d digits.0, other)
some_value (d ∷ e ∷ ds) digits some last =
    let rest = some_value (e ∷ ds) digits.1 (omega arith) (λ front is. last (d ∷ front) (ap (λ (x : List ℕ). d ∷ x) is)) in
    omega (arith, rest, value_cons d (e ∷ ds))

digit_is : (c : ℕ) → digit_value c < 10 → c ≡ 48 + digit_value c
digit_is c h = omega (arith, digit_value_digit c (digit_from_value c h), digit_from_value c h)

last_digit : (k r d : ℕ) → d * 10 ^ k ≡ r → (48 + d) ∷ [] ≡ fraction_text (suc k) r
last_digit k r d e = by_rest (eqb_tells (r % 10 ^ k) 0) where
  one : 0 < 10 ^ k
  one = one-le-pow k 10 (lit< tt)

  whole : d * 10 ^ k + 0 ≡ r
  whole = omega (arith, e)

  first : r / 10 ^ k ≡ d
  first = ap (λ (n : ℕ). n / 10 ^ k) (sym whole) ∙ div-mul-add d (10 ^ k) 0 one

  none : r % 10 ^ k ≡ 0
  none = ap (λ (n : ℕ). n % 10 ^ k) (sym whole) ∙ mod-mul-add d (10 ^ k) 0 one

  by_rest : ((r % 10 ^ k == 0 ≡ true) × (r % 10 ^ k ≡ 0)) ⊎ ((r % 10 ^ k == 0 ≡ false) × (r % 10 ^ k ≢ 0)) → (48 + d) ∷ [] ≡ fraction_text (suc k) r
  by_rest (inl z) =
      ap (λ (c : ℕ). (48 + c) ∷ []) (sym first)
      ∙ ap (λ (x : List ℕ). (48 + r / 10 ^ k) ∷ x) (sym (cond-true (r % 10 ^ k == 0) [] (fraction_text k (r % 10 ^ k)) z.0))
  by_rest (inr other) = absurd (other.1 none)

first_digit : (k r d s : ℕ) (ds : List ℕ) → d * 10 ^ k + s ≡ r → s < 10 ^ k → s ≢ 0 → ds ≡ fraction_text k s → (48 + d) ∷ ds ≡ fraction_text (suc k) r
first_digit k r d s ds e below some is = by_rest (eqb_tells (r % 10 ^ k) 0) where
  first : r / 10 ^ k ≡ d
  first = ap (λ (n : ℕ). n / 10 ^ k) (sym e) ∙ div-mul-add d (10 ^ k) s below

  rest : r % 10 ^ k ≡ s
  rest = ap (λ (n : ℕ). n % 10 ^ k) (sym e) ∙ mod-mul-add d (10 ^ k) s below

  by_rest : ((r % 10 ^ k == 0 ≡ true) × (r % 10 ^ k ≡ 0)) ⊎ ((r % 10 ^ k == 0 ≡ false) × (r % 10 ^ k ≢ 0)) → (48 + d) ∷ ds ≡ fraction_text (suc k) r
  by_rest (inl z) = absurd (some (sym rest ∙ z.1))
  by_rest (inr other) =
      ap (λ (x : List ℕ). (48 + d) ∷ x) is
      ∙ ap (λ (c : ℕ). (48 + c) ∷ fraction_text k s) (sym first)
      ∙ ap (λ (n : ℕ). (48 + r / 10 ^ k) ∷ fraction_text k n) (sym rest)
      ∙ ap (λ (x : List ℕ). (48 + r / 10 ^ k) ∷ x) (sym (cond-false (r % 10 ^ k == 0) [] (fraction_text k (r % 10 ^ k)) other.0))

fraction_only : (k r : ℕ) (ds : List ℕ) → IsNumeral 10 ds → length ds ≤ k → ZeroAlone ds → digits_value 10 ds * 10 ^ (k - length ds) ≡ r → ds ≡ fraction_text k r
fraction_only k r [] numeral most last counts = absurd (omega (arith, numeral.0))
fraction_only zero r (d ∷ ds) numeral most last counts = absurd (omega arith)
fraction_only (suc k) r (d ∷ []) numeral most last counts =
    let value : digits_value 10 (d ∷ []) ≡ digit_value d = omega arith in
    let scaled : digit_value d * 10 ^ k ≡ r = ap (λ (x : ℕ). x * 10 ^ k) (sym value) ∙ ap (λ (i : ℕ). digits_value 10 (d ∷ []) * 10 ^ i) (omega arith) ∙ counts in
    ap (λ (c : ℕ). c ∷ []) (digit_is d numeral.1.0) ∙ last_digit k r (digit_value d) scaled
fraction_only (suc k) r (d ∷ e ∷ ds) numeral most last counts =
    ap (λ (c : ℕ). c ∷ e ∷ ds) (digit_is d numeral.1.0)
    ∙ first_digit k r (digit_value d) rest (e ∷ ds) whole (scaled_below (e ∷ ds) k numeral.1.1 within) some
    (fraction_only k rest (e ∷ ds) (omega arith, numeral.1.1) within (λ front is. absurd (no_zero front is)) refl) where
      rest : ℕ
      rest = digits_value 10 (e ∷ ds) * 10 ^ (k - length (e ∷ ds))

      no_zero : NoZero (e ∷ ds)
      no_zero = rest_no_zero d e ds last

      within : length (e ∷ ds) ≤ k
      within = omega (arith, most)

      value : digits_value 10 (d ∷ []) ≡ digit_value d
      value = omega arith

      down : k - length (e ∷ ds) ≡ suc k - length (d ∷ e ∷ ds)
      down = omega arith

      whole : digit_value d * 10 ^ k + rest ≡ r
      whole =
          ap (λ (x : ℕ). x * 10 ^ k + rest) (sym value)
          ∙ sym (joined (d ∷ []) (e ∷ ds) k within)
          ∙ ap (λ (i : ℕ). digits_value 10 (d ∷ e ∷ ds) * 10 ^ i) down
          ∙ counts

      some : rest ≢ 0
      some none =
          let one = one-le-pow (k - length (e ∷ ds)) 10 (lit< tt) in
          let least : 1 * 10 ^ (k - length (e ∷ ds)) ≤ rest =
          mul-le-mul_right (10 ^ (k - length (e ∷ ds))) (some_value (e ∷ ds) numeral.1.1 (omega arith) no_zero) in
          omega (arith, one, least, none)

-- an int (RFC 8259 section 6) is the decimal text of its value
int_only : (ds : List ℕ) → IsInt ds → digits_value 10 ds < 2 ^ 64 → decimal (digits_value 10 ds) ≡ ds
int_only [] is small = absurd is
int_only (d ∷ ds) (inl h) small = decimal-digits_value (numerals_by_value (AllDigits 10) tells_digits) (d ∷ ds) (digit_is_value d (omega (arith, h.0)) (omega (arith, h.0)), subst (AllDigits 10) (sym h.1) tt) (omega arith) (λ e. ap (λ (x : List ℕ). length (d ∷ x)) h.1) small
int_only (d ∷ ds) (inr h) small =
    decimal-digits_value (numerals_by_value (AllDigits 10) tells_digits) (d ∷ ds) (digit_is_value d (omega (arith, h.0)) h.1, h.2) (omega arith) (λ e. absurd (omega (arith, h.0, e))) small

pub writes_only : (places units : ℕ) (text : List ℕ) → units ≤ MAX_UNITS → WritesUnits places units text → text ≡ text_of places units
writes_only places units text le w =
    w.is
    ∙ ap (λ (x : List ℕ). x ++ 46 ∷ w.fraction) (sym (int_only w.whole w.is_int small))
    ∙ ap (λ (q : ℕ). decimal q ++ 46 ∷ w.fraction) (sym front)
    ∙ ap (λ (x : List ℕ). decimal (units / 10 ^ places) ++ 46 ∷ x) (fraction_only places (units % 10 ^ places) w.fraction w.is_numeral w.most w.last (sym following)) where
      q : ℕ
      q = digits_value 10 w.whole

      rest : ℕ
      rest = digits_value 10 w.fraction * 10 ^ (places - length w.fraction)

      units_are : digits_value 10 w.whole * 10 ^ places + rest ≡ units
      units_are = sym (joined w.whole w.fraction places w.most) ∙ w.counts

      below : rest < 10 ^ places
      below = scaled_below w.fraction places w.is_numeral.1 w.most

      front : units / 10 ^ places ≡ q
      front = ap (λ (n : ℕ). n / 10 ^ places) (sym units_are) ∙ div-mul-add q (10 ^ places) rest below

      following : units % 10 ^ places ≡ rest
      following = ap (λ (n : ℕ). n % 10 ^ places) (sym units_are) ∙ mod-mul-add q (10 ^ places) rest below

      small : digits_value 10 w.whole < 2 ^ 64
      small =
          let one : q * 1 ≤ q * 10 ^ places = mul-le-mul_left q (one-le-pow places 10 (lit< tt)) in
          omega (arith, one, units_are, le)
