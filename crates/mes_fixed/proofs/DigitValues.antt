-- The values of decimal digits: of a prefix, of two joined lists of digits, and of zeros.
use Rattle.std.proofs.Common.{◌≡◌, ℕ, suc, ◌+◌, ◌-◌, ◌*◌, ◌^◌, ◌<◌, ◌≤◌, Bool, false, List, [], ◌∷◌, ◌++◌, length, get_or, take, refl, sym, ◌∙◌, ap, arith, add-one, ◌≢◌, ◌⊎◌}
use Rattle.std.proofs.Common.{lit<, lit≤}
use Rattle.std.proofs.Common.{inl, inr, ◌↔◌, IsTrue, drop, zero, subst, length-drop, take-append-drop}
use Rattle.std.proofs.Math.Seq.{take-nil, drop-nil}
use Rattle.std.proofs.lemmas.Bool.Decides.{eqb_tells}
use Rattle.std.specs.Char.{digit_value}
use Rattle.std.specs.Str.Parse.{AllDigits, digits_value, digits_value_after}
use Rattle.std.proofs.Math.Nat.{pow-suc, mul_assoc, pow-le-pow_right, mul-le-mul_left, mul-le-mul_right, one-le-pow}
use Rattle.std.proofs.lemmas.Int.Digits.{digits_value_more, digits_value-lt}
use Rattle.std.proofs.lemmas.Str.Parse.{digits_value-take-le, digit_at, digit_from_value}
use Rattle.std.proofs.lemmas.Str.{digit_value_digit}

shifted : (a d p : ℕ) → (a * 10 + d) * p ≡ a * (p * 10) + (0 * 10 + d) * p
shifted a d p = omega arith

after_split : (a : ℕ) (ds : List ℕ) → digits_value_after 10 a ds ≡ a * 10 ^ length ds + digits_value 10 ds
after_split a [] = omega arith
after_split a (d ∷ ds) =
    let whole = after_split (a * 10 + digit_value d) ds in
    let first = after_split (0 * 10 + digit_value d) ds in
    let power : a * 10 ^ suc (length ds) ≡ a * (10 ^ length ds * 10) = ap (λ (x : ℕ). a * x) (pow-suc 10 (length ds)) in
    let shift = shifted a (digit_value d) (10 ^ length ds) in
    omega (arith, whole, first, power, shift)

pub value_append : (ds bs : List ℕ) → digits_value 10 (ds ++ bs) ≡ digits_value 10 ds * 10 ^ length bs + digits_value 10 bs
value_append ds bs = after_append 0 ds ∙ after_split (digits_value 10 ds) bs
  where
    after_append : (a : ℕ) (cs : List ℕ) → digits_value_after 10 a (cs ++ bs) ≡ digits_value_after 10 (digits_value_after 10 a cs) bs
    after_append a [] = refl
    after_append a (c ∷ cs) = after_append (a * 10 + digit_value c) cs

pub value_cons : (d : ℕ) (ds : List ℕ) → digits_value 10 (d ∷ ds) ≡ digit_value d * 10 ^ length ds + digits_value 10 ds
value_cons d ds = let e = after_split (0 * 10 + digit_value d) ds in omega (arith, e)

-- a prefix with one more digit has at most the value of all digits
pub value_more_le : (ds : List ℕ) (i : ℕ) → AllDigits 10 ds → i < length ds → digits_value 10 (take i ds) * 10 + (get_or ds i 0 - 48) ≤ digits_value 10 ds
value_more_le ds i h lt =
    let more = digits_value_more 10 ds i lt in
    let le = digits_value-take-le 10 ds (i + 1) (lit≤ tt) in
    let digit = digit_value_digit (get_or ds i 0) (digit_at ds i h lt) in
    omega (arith, more, le, digit)

pub value_more : (ds : List ℕ) (i : ℕ) → AllDigits 10 ds → i < length ds → digits_value 10 (take (i + 1) ds) ≡ digits_value 10 (take i ds) * 10 + (get_or ds i 0 - 48)
value_more ds i h lt =
    let more = digits_value_more 10 ds i lt in
    let digit = digit_value_digit (get_or ds i 0) (digit_at ds i h lt) in
    omega (arith, more, digit)

pub digit_low : (ds : List ℕ) (i : ℕ) → AllDigits 10 ds → i < length ds → 48 ≤ get_or ds i 0
digit_low ds i h lt = let r = digit_at ds i h lt in r.0

pub zeros_more : (n i : ℕ) → n * 10 ^ (i + 1) ≡ n * 10 ^ i * 10
zeros_more n i = let p = pow-suc 10 i in rw (add-one, p) (sym (mul_assoc n (10 ^ i) 10))

pub zeros_more_le : (n i k : ℕ) → i < k → n * 10 ^ i * 10 ≤ n * 10 ^ k
zeros_more_le n i k h =
    let le : n * 10 ^ (i + 1) ≤ n * 10 ^ k = mul-le-mul_left n (pow-le-pow_right {n = 10} (lit< tt) (omega arith)) in
    omega (arith, le, zeros_more n i)

nought_or_above : (d : ℕ) (ds : List ℕ) → digit_value d < 10 → ((d ≡ 48) × (digits_value 10 (d ∷ ds) ≡ digits_value 10 ds)) ⊎ ((d ≢ 48) × (0 < digits_value 10 (d ∷ ds)))
nought_or_above d ds h = elim (eqb_tells d 48) [
  | inl e ↦
      let v : digit_value d ≡ 0 = rw e.1 refl in
      let zero : digit_value d * 10 ^ length ds ≡ 0 = rw v (omega arith) in
      inl (e.1, omega (arith, value_cons d ds, zero))
  | inr e ↦
      let digit = digit_value_digit d (digit_from_value d h) in
      let low : 1 * 10 ^ length ds ≤ digit_value d * 10 ^ length ds = mul-le-mul_right (10 ^ length ds) (omega (arith, digit, digit_from_value d h, e.1)) in
      let one = one-le-pow (length ds) 10 (lit< tt) in
      inr (e.1, omega (arith, value_cons d ds, low, one))
]

abbrev pub EachNought : List ℕ → Type 0
EachNought ds = (k : ℕ) → k < length ds → get_or ds k 0 ≡ 48

-- if the value of the digits is 0, each of them is a zero
nought_value : (ds : List ℕ) → AllDigits 10 ds → EachNought ds → digits_value 10 ds ≡ 0
nought_value [] a h = refl
nought_value (d ∷ ds) a h = elim (nought_or_above d ds a.0) [
  | inl e ↦ e.1 ∙ nought_value ds a.1 (λ k lt. h (suc k) (omega arith))
  | inr e ↦ absurd (e.0 (h 0 (omega arith)))
]

value_nought : (ds : List ℕ) → AllDigits 10 ds → digits_value 10 ds ≡ 0 → EachNought ds
value_nought [] a z k lt = absurd (omega arith)
value_nought (d ∷ ds) a z zero lt = elim (nought_or_above d ds a.0) [ inl e ↦ e.0 | inr e ↦ absurd (omega (arith, e.1, z)) ]
value_nought (d ∷ ds) a z (suc k) lt = elim (nought_or_above d ds a.0) [
  | inl e ↦ value_nought ds a.1 (sym e.1 ∙ z) k (omega arith)
  | inr e ↦ absurd (omega (arith, e.1, z))
]

pub noughts_iff : (b : Bool) (ds : List ℕ) → AllDigits 10 ds → (IsTrue b ↔ EachNought ds) → IsTrue b ↔ (digits_value 10 ds ≡ 0)
noughts_iff b ds a e = (λ t. nought_value ds a (e.0 t), λ z. e.1 (value_nought ds a z))

pub above_zero : (b : Bool) (v : ℕ) → (IsTrue b ↔ (v ≡ 0)) → b ≡ false → 0 < v
above_zero b v h e = elim (eqb_tells v 0) [
  | inl z ↦ let t = h.1 z.1 in absurd (cc)
  | inr z ↦ omega (arith, z.1)
]

-- if the first digit after the point is 5 or more, the fraction is at least one half
pub cut_half : (ds : List ℕ) (places : ℕ) → AllDigits 10 ds → length ds ≡ places → 0 < places → 53 ≤ get_or ds 0 0 → 10 ^ places ≤ 2 * digits_value 10 ds
cut_half [] places a e some h = absurd (omega arith)
cut_half (d ∷ ds) places a e some h =
    let digit = digit_value_digit d (digit_from_value d a.0) in
    let low : 5 * 10 ^ length ds ≤ digit_value d * 10 ^ length ds = mul-le-mul_right (10 ^ length ds) (omega (arith, digit, h)) in
    let power : 10 ^ places ≡ 10 ^ length ds * 10 = ap (λ (k : ℕ). 10 ^ k) (sym e) ∙ pow-suc 10 (length ds) in
    omega (arith, value_cons d ds, low, power)

pub cut_below : (ds : List ℕ) (places : ℕ) → AllDigits 10 ds → length ds ≤ places → ((length ds ≡ places) → get_or ds 0 0 < 53) → 0 < places → 2 * digits_value 10 ds < 10 ^ places
cut_below [] places a le h some = let one = one-le-pow places 10 (lit< tt) in omega (arith, one)
cut_below (d ∷ ds) places a le h some = elim (cases_le (length (d ∷ ds)) places le) [
  | inl lt ↦
      let small = digits_value-lt 10 (d ∷ ds) a in
      let power : 10 ^ suc (length (d ∷ ds)) ≤ 10 ^ places = pow-le-pow_right {n = 10} (lit< tt) (omega arith) in
      omega (arith, small, power, pow-suc 10 (length (d ∷ ds)))
  | inr e ↦
      let digit = digit_value_digit d (digit_from_value d a.0) in
      let small = digits_value-lt 10 ds a.1 in
      let low : digit_value d * 10 ^ length ds ≤ 4 * 10 ^ length ds = mul-le-mul_right (10 ^ length ds) (omega (arith, digit, h e)) in
      let power : 10 ^ places ≡ 10 ^ length ds * 10 = ap (λ (k : ℕ). 10 ^ k) (sym e) ∙ pow-suc 10 (length ds) in
      omega (arith, value_cons d ds, small, low, power)
]
  where
    cases_le : (m n : ℕ) → m ≤ n → (m < n) ⊎ (m ≡ n)
    cases_le m n h = elim (eqb_tells m n) [ inl e ↦ inr e.1 | inr e ↦ inl (omega (arith, e.1)) ]

-- a division by 10^cut: the quotient is the value of the first digits, the remainder that of the
-- last `cut`
pub divided : (ds : List ℕ) (cut : ℕ) → AllDigits 10 ds → digits_value 10 ds ≡ digits_value 10 (take (length ds - cut) ds) * 10 ^ cut + digits_value 10 (drop (length ds - cut) ds)
divided ds cut a = elim (eqb_tells (cut - length ds) 0) [
  | inl e ↦
      let back : length (drop (length ds - cut) ds) ≡ cut = length-drop (length ds - cut) ds ∙ omega (arith, e.1) in
      ap (digits_value 10) (sym (take-append-drop (length ds - cut) ds))
      ∙ value_append (take (length ds - cut) ds) (drop (length ds - cut) ds)
      ∙ ap (λ (k : ℕ). digits_value 10 (take (length ds - cut) ds) * 10 ^ k + digits_value 10 (drop (length ds - cut) ds)) back
  | inr e ↦
      let none : 0 ≡ length ds - cut = omega (arith, e.1) in
      let P : ℕ → Type 0 = λ i. digits_value 10 ds ≡ digits_value 10 (take i ds) * 10 ^ cut + digits_value 10 (drop i ds) in
      let whole : P 0 = omega arith in
      subst P none whole
]

pub digits_take : (ds : List ℕ) (i : ℕ) → AllDigits 10 ds → AllDigits 10 (take i ds)
digits_take [] i a = rw take-nil tt
digits_take (d ∷ ds) zero a = tt
digits_take (d ∷ ds) (suc i) a = (a.0, digits_take ds i a.1)

pub digits_drop : (ds : List ℕ) (i : ℕ) → AllDigits 10 ds → AllDigits 10 (drop i ds)
digits_drop [] i a = rw drop-nil tt
digits_drop (d ∷ ds) zero a = a
digits_drop (d ∷ ds) (suc i) a = digits_drop ds i a.1

pub digits_append : (ds es : List ℕ) → AllDigits 10 ds → AllDigits 10 es → AllDigits 10 (ds ++ es)
digits_append [] es a b = b
digits_append (d ∷ ds) es a b = (a.0, digits_append ds es a.1 b)

pub rest_below : (ds : List ℕ) (cut : ℕ) → AllDigits 10 ds → digits_value 10 (drop (length ds - cut) ds) < 10 ^ cut
rest_below ds cut a =
    let small = digits_value-lt 10 (drop (length ds - cut) ds) (digits_drop ds (length ds - cut) a) in
    let len = length-drop (length ds - cut) ds in
    let power : 10 ^ length (drop (length ds - cut) ds) ≤ 10 ^ cut = pow-le-pow_right {n = 10} (lit< tt) (omega (arith, len)) in
    omega (arith, small, power)
