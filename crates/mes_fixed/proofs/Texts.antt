-- `Fixed::write` writes `text_of`, and reading that text returns the number again.
use Rattle.std.proofs.Common.{◌≡◌, ℕ, zero, suc, ◌+◌, ◌-◌, ◌*◌, ◌^◌, ◌<◌, ◌≤◌, ◌≢◌, inl, inr, false, ◌==◌, List, [], ◌∷◌, ◌++◌, length, get_or, refl, sym, ◌∙◌, ap, subst, arith, lit<, ℤ, append_assoc, length-append}
use Rattle.std.specs.Prelude.{◌/◌, ◌%◌, decimal}
use Rattle.std.specs.Char.{digit_value}
use Rattle.std.specs.Str.Parse.{IsNumeral, digits_value}
use Rattle.std.proofs.lemmas.Bool.{cond-true, cond-false}
use Rattle.std.proofs.lemmas.Bool.Decides.{eqb_tells}
use Rattle.std.proofs.lemmas.List.{append-nil}
use Rattle.std.proofs.lemmas.Str.{digit_value_digit}
use Rattle.std.proofs.lemmas.Str.Parse.{digit_from_value}
use Rattle.std.proofs.lemmas.Nat.{div-add-mod', mod_below, pow-add, div_below}
use Rattle.std.proofs.lemmas.Fmt.{decimal_is_IsNumeral, decimal_digit, first_decimal, length-decimal-le}
use Rattle.std.proofs.Math.Nat.{pow-succ', one-le-pow, pow-le-pow_right}
use Rattle.mes_fixed.specs.declared.limits.TheConstants.{MAX_UNITS}
use Rattle.mes_fixed.specs.Number.{IsInt, IsFrac}
use Rattle.mes_fixed.specs.Gathering.{made}
use Rattle.mes_fixed.specs.Value.{HalfUp, Nearest, Reads, GivesUnits}
use Rattle.mes_fixed.specs.Text.{fraction_text, text_of}
use Rattle.mes_fixed.proofs.Letters.{digit_is_value}
use Rattle.mes_fixed.proofs.PlainNumbers.{plain_gives}
use Rattle.mes_fixed.proofs.DigitValues.{value_append, value_cons}
use Rattle.mes_fixed.proofs.Scales.{shift_is, nearest_iff, one_half_up, power_none}

-- a loop that writes a fraction writes one more digit, if the rest is not 0
pub fraction_step : (k rest scale : ℕ) (old new all : List ℕ) → old ++ fraction_text (suc k) rest ≡ all → scale ≡ 10 ^ k → new ≡ old ++ (48 + rest / scale) ∷ [] → rest % scale ≢ 0 → new ++ fraction_text k (rest % scale) ≡ all
fraction_step k rest scale old new all h s n left = elim (eqb_tells (rest % 10 ^ k) 0) [
  | inl e ↦ absurd (left (ap (λ (w : ℕ). rest % w) s ∙ e.1))
  | inr e ↦
      ap (λ (x : List ℕ). x ++ fraction_text k (rest % scale)) n
      ∙ append_assoc old ((48 + rest / scale) ∷ []) (fraction_text k (rest % scale))
      ∙ ap (λ (w : ℕ). old ++ (48 + rest / w) ∷ fraction_text k (rest % w)) s
      ∙ ap (λ (x : List ℕ). old ++ (48 + rest / 10 ^ k) ∷ x) (sym (cond-false (rest % 10 ^ k == 0) [] (fraction_text k (rest % 10 ^ k)) e.0))
      ∙ h
]

-- the digits ds are a fraction of r units of 10^-k
pub record Fraction (k r : ℕ) (ds : List ℕ) : Type 0 where
  pub numeral : IsNumeral 10 ds
  pub short : length ds ≤ k
  pub value : digits_value 10 ds * 10 ^ (k - length ds) ≡ r

pub fraction_turn : (place rest scale char : ℕ) (old new all : List ℕ) → 0 < place → old ++ fraction_text place rest ≡ all → rest < 10 ^ place → length old + place ≤ 24 → scale ≡ 10 ^ (place - 1) → char ≡ 48 + rest / scale → (char < 128 → new ≡ old ++ char ∷ []) → rest % scale ≢ 0 → (new ++ fraction_text (place - 1) (rest % scale) ≡ all) × (rest % scale < 10 ^ (place - 1)) × (length new + (place - 1) ≤ 24)
fraction_turn zero rest scale char old new all some h lt room s c push left = absurd (omega arith)
fraction_turn (suc k) rest scale char old new all some h lt room s c push left =
    let back : k ≡ suc k - 1 = omega arith in
    let one : scale ≡ 10 ^ k = s ∙ ap (λ (i : ℕ). 10 ^ i) (sym back) in
    let small : rest / 10 ^ k < 10 = div_below rest (10 ^ k) 10 (one-le-pow k 10 (lit< tt)) (subst (λ (w : ℕ). rest < w) (pow-succ' 10 k) lt) in
    let digit : rest / scale ≡ rest / 10 ^ k = ap (λ (w : ℕ). rest / w) one in
    let n : new ≡ old ++ (48 + rest / scale) ∷ [] = push (omega (arith, digit, small, c)) ∙ ap (λ (x : ℕ). old ++ x ∷ []) c in
    let below : rest % scale < 10 ^ k = subst (λ (w : ℕ). rest % w < 10 ^ k) (sym one) (mod_below rest (10 ^ k) (one-le-pow k 10 (lit< tt))) in
    let len : length new ≡ length old + 1 = ap (length {A = ℕ}) n ∙ length-append old ((48 + rest / scale) ∷ []) in
    let P : ℕ → Type 0 = λ j. (new ++ fraction_text j (rest % scale) ≡ all) × (rest % scale < 10 ^ j) × (length new + j ≤ 24) in
    let turned : P k = (fraction_step k rest scale old new all h one n left, below, omega (arith, len, room)) in
    subst P back turned

digit_of : (d : ℕ) → d < 10 → (digit_value (48 + d) < 10) × (digit_value (48 + d) ≡ d)
digit_of d h =
    let v = digit_value_digit (48 + d) (omega arith, omega arith) in
    (digit_is_value (48 + d) (omega arith) (omega arith), omega (arith, v))

pub spread : (d p v q : ℕ) → (d * p + v) * q ≡ d * (p * q) + v * q
spread d p v q = omega arith

pub left_behind : (k r : ℕ) → r % 10 ^ k ≢ 0 → 0 < k
left_behind zero r h = let below = mod_below r 1 (lit< tt) in absurd (h (omega (arith, below)))
left_behind (suc k) r h = omega arith

fraction_last : (k r d : ℕ) → d < 10 → r ≡ d * 10 ^ k → Fraction (suc k) r ((48 + d) ∷ [])
fraction_last k r d h e = record {
  numeral = (lit< tt, ((digit_of d h).0, tt));
  short = omega arith;
  value =
      ap (λ (x : ℕ). x * 10 ^ (suc k - 1)) (omega (arith, (digit_of d h).1))
      ∙ ap (λ (i : ℕ). d * 10 ^ i) (omega arith) ∙ sym e;
}

fraction_more : (k r d s : ℕ) (es : List ℕ) → d < 10 → r ≡ d * 10 ^ k + s → Fraction k s es → Fraction (suc k) r ((48 + d) ∷ es)
fraction_more k r d s es h e f = record {
  numeral = (omega arith, ((digit_of d h).0, f.numeral.1));
  short = let le = f.short in omega arith;
  value =
      let le = f.short in
      let first = value_cons (48 + d) es in
      let digit : digit_value (48 + d) * 10 ^ length es ≡ d * 10 ^ length es = ap (λ (x : ℕ). x * 10 ^ length es) (digit_of d h).1 in
      let down : suc k - suc (length es) ≡ k - length es = omega arith in
      let up : 10 ^ length es * 10 ^ (k - length es) ≡ 10 ^ k = sym (pow-add 10 (length es) (k - length es)) ∙ ap (λ (i : ℕ). 10 ^ i) (omega arith) in
      ap (λ (i : ℕ). digits_value 10 ((48 + d) ∷ es) * 10 ^ i) down
      ∙ ap (λ (x : ℕ). x * 10 ^ (k - length es)) (first ∙ ap (λ (x : ℕ). x + digits_value 10 es) digit)
      ∙ spread d (10 ^ length es) (digits_value 10 es) (10 ^ (k - length es))
      ∙ ap (λ (x : ℕ). d * x + digits_value 10 es * 10 ^ (k - length es)) up
      ∙ ap (λ (x : ℕ). d * 10 ^ k + x) f.value
      ∙ sym e;
}

pub fraction_is : (k r : ℕ) → 0 < k → r < 10 ^ k → Fraction k r (fraction_text k r)
fraction_is zero r h lt = absurd (omega arith)
fraction_is (suc k) r h lt = elim (eqb_tells (r % 10 ^ k) 0) [
  | inl e ↦ subst (Fraction (suc k) r) (ap (λ (x : List ℕ). (48 + r / 10 ^ k) ∷ x) (sym (cond-true (r % 10 ^ k == 0) [] (fraction_text k (r % 10 ^ k)) e.0))) (fraction_last k r (r / 10 ^ k) digit (omega (arith, whole, e.1)))
  | inr e ↦ subst (Fraction (suc k) r) (ap (λ (x : List ℕ). (48 + r / 10 ^ k) ∷ x) (sym (cond-false (r % 10 ^ k == 0) [] (fraction_text k (r % 10 ^ k)) e.0))) (fraction_more k r (r / 10 ^ k) (r % 10 ^ k) (fraction_text k (r % 10 ^ k)) digit (sym whole) (fraction_is k (r % 10 ^ k) (left_behind k r e.1) below))
]
  where
    whole : r / 10 ^ k * 10 ^ k + r % 10 ^ k ≡ r
    whole = div-add-mod' r (10 ^ k)

    digit : r / 10 ^ k < 10
    digit = div_below r (10 ^ k) 10 (one-le-pow k 10 (lit< tt)) (subst (λ (w : ℕ). r < w) (pow-succ' 10 k) lt)

    below : r % 10 ^ k < 10 ^ k
    below = mod_below r (10 ^ k) (one-le-pow k 10 (lit< tt))

-- ---- the written text is read back

pub decimal_int : (q : ℕ) → q < 2 ^ 64 → IsInt (decimal q)
decimal_int q h = elim (eqb_tells q 0) [
  | inl e ↦ subst IsInt (sym (ap decimal e.1 ∙ decimal_digit 0 (lit< tt))) (inl (refl, refl))
  | inr e ↦ by_first (decimal q) (decimal_is_IsNumeral q h).0 (first_decimal q (omega (arith, e.1)) h)
]
  where
    by_first : (ds : List ℕ) → IsNumeral 10 ds → 48 < get_or ds 0 0 → IsInt ds
    by_first [] n f = absurd (omega (arith, n.0))
    by_first (d ∷ ds) n f = let r = digit_from_value d n.1.0 in inr (omega (arith, f), r.1, n.1.1)

whole_below : (places units : ℕ) → places ≤ 6 → units ≤ MAX_UNITS → units / 10 ^ places < 10 ^ (19 - places)
whole_below places units high le =
    let all : 19 ≡ (19 - places) + places = omega arith in
    let power : 10 ^ 19 ≡ 10 ^ (19 - places) * 10 ^ places = ap (λ (i : ℕ). 10 ^ i) all ∙ pow-add 10 (19 - places) places in
    div_below units (10 ^ places) (10 ^ (19 - places)) (one-le-pow places 10 (lit< tt)) (omega (arith, power, le))

pub whole_fits : (places units : ℕ) → 1 ≤ places → places ≤ 6 → units ≤ MAX_UNITS → units / 10 ^ places < 2 ^ 64
whole_fits places units low high le =
    let at : 19 - places ≤ 18 = omega arith in
    let power : 10 ^ (19 - places) ≤ 10 ^ 18 = pow-le-pow_right {n = 10} (lit< tt) at in
    omega (arith, whole_below places units high le, power)

pub text_short : (places units : ℕ) → 1 ≤ places → places ≤ 6 → units ≤ MAX_UNITS → length (decimal (units / 10 ^ places)) + 1 + places ≤ 24
text_short places units low high le =
    let len = length-decimal-le (19 - places) (units / 10 ^ places) (omega arith) (whole_below places units high le) (whole_fits places units low high le) in
    omega (arith, len)

back_of : (places q r units : ℕ) (ds : List ℕ) → places ≤ 6 → q < 2 ^ 64 → length (decimal q) + 1 + places ≤ 24 → Fraction places r ds → units ≡ q * 10 ^ places + r → units ≤ MAX_UNITS → Reads (GivesUnits places) (decimal q ++ (46 ∷ ds)) units
back_of places q r units ds high small room f is le =
    let short = f.short in
    let joined : digits_value 10 (decimal q ++ ds) ≡ q * 10 ^ length ds + digits_value 10 ds = value_append (decimal q) ds ∙ ap (λ (x : ℕ). x * 10 ^ length ds + digits_value 10 ds) (decimal_is_IsNumeral q small).1 in
    let power : 10 ^ length ds * 10 ^ (places - length ds) ≡ 10 ^ places = sym (pow-add 10 (length ds) (places - length ds)) ∙ ap (λ (i : ℕ). 10 ^ i) (omega arith) in
    let units_is : units ≡ digits_value 10 (decimal q ++ ds) * 10 ^ (places - length ds) =
    is
    ∙ ap (λ (x : ℕ). q * x + r) (sym power)
    ∙ ap (λ (x : ℕ). q * (10 ^ length ds * 10 ^ (places - length ds)) + x) (sym f.value)
    ∙ sym (spread q (10 ^ length ds) (digits_value 10 ds) (10 ^ (places - length ds)))
    ∙ ap (λ (x : ℕ). x * 10 ^ (places - length ds)) (sym joined) in
    plain_gives places units (decimal q) ds high (decimal_int q small) f.numeral short (omega (arith, room, short)) units_is le

pub text_back : (places units : ℕ) → 1 ≤ places → places ≤ 6 → units ≤ MAX_UNITS → Reads (GivesUnits places) (text_of places units) units
text_back places units low high le =
    back_of places (units / 10 ^ places) (units % 10 ^ places) units (fraction_text places (units % 10 ^ places)) high
    (whole_fits places units low high le)
    (text_short places units low high le)
    (fraction_is places (units % 10 ^ places) low (mod_below units (10 ^ places) (one-le-pow places 10 (lit< tt))))
    (sym (div-add-mod' units (10 ^ places)))
    le

pub pow_fits : (places : ℕ) → places ≤ 6 → 10 ^ places < 2 ^ 64
pow_fits places h = let power : 10 ^ places ≤ 10 ^ 6 = pow-le-pow_right {n = 10} (lit< tt) h in omega (arith, power)

pub pow_above : (places scale : ℕ) → scale ≡ 10 ^ places → 0 < scale
pow_above places scale e = let one = one-le-pow places 10 (lit< tt) in omega (arith, one, e)

pub rest_below_power : (places scale units : ℕ) → scale ≡ 10 ^ places → units % scale < 10 ^ places
rest_below_power places scale units e = subst (λ (w : ℕ). units % w < 10 ^ places) (sym e) (mod_below units (10 ^ places) (one-le-pow places 10 (lit< tt)))

-- the integer part, the point and the fraction, written consecutively, are `text_of`
pub text_is : (places units scale : ℕ) (cleared front whole pointed all : List ℕ) → scale ≡ 10 ^ places → cleared ≡ [] → front ≡ cleared ++ whole → whole ≡ decimal (units / scale) → pointed ≡ front ++ 46 ∷ [] → all ≡ pointed ++ fraction_text places (units % scale) → all ≡ text_of places units
text_is places units scale cleared front whole pointed all s c f w p a =
    let begun : front ≡ decimal (units / 10 ^ places) = f ∙ ap (λ (x : List ℕ). x ++ whole) c ∙ w ∙ ap (λ (k : ℕ). decimal (units / k)) s in
    a
    ∙ ap (λ (k : ℕ). pointed ++ fraction_text places (units % k)) s
    ∙ ap (λ (x : List ℕ). x ++ fraction_text places (units % 10 ^ places)) (p ∙ ap (λ (x : List ℕ). x ++ 46 ∷ []) begun)
    ∙ append_assoc (decimal (units / 10 ^ places)) (46 ∷ []) (fraction_text places (units % 10 ^ places))

pub text_room : (places units scale : ℕ) (cleared front whole pointed : List ℕ) → 1 ≤ places → places ≤ 6 → units ≤ MAX_UNITS → scale ≡ 10 ^ places → cleared ≡ [] → front ≡ cleared ++ whole → whole ≡ decimal (units / scale) → pointed ≡ front ++ 46 ∷ [] → length pointed + places ≤ 24
text_room places units scale cleared front whole pointed low high le s c f w p =
    let begun : front ≡ decimal (units / 10 ^ places) = f ∙ ap (λ (x : List ℕ). x ++ whole) c ∙ w ∙ ap (λ (k : ℕ). decimal (units / k)) s in
    let len : length pointed ≡ length front + 1 = ap (length {A = ℕ}) p ∙ length-append front (46 ∷ []) in
    let same : length front ≡ length (decimal (units / 10 ^ places)) = ap (length {A = ℕ}) begun in
    omega (arith, len, same, text_short places units low high le)

pub written_back : (places units value : ℕ) (text : List ℕ) → 1 ≤ places → places ≤ 6 → units ≤ MAX_UNITS → units ≡ value → text ≡ text_of places units → Reads (GivesUnits places) text value
written_back places units value text low high le e t =
    let R : List ℕ → Type 0 = λ x. Reads (GivesUnits places) x value in
    let V : ℕ → Type 0 = λ v. Reads (GivesUnits places) (text_of places units) v in
    subst R (sym t) (subst V e (text_back places units low high le))
