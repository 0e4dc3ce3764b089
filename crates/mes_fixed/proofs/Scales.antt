-- Numbers scaled by powers of ten: divided, rounded, and with an exponent above the cap.
use Rattle.std.proofs.Common.{◌≡◌, ℕ, suc, ◌+◌, ◌-◌, ◌*◌, ◌^◌, ◌<◌, ◌≤◌, ◌⊎◌, inl, inr, Bool, true, false, sym, ◌∙◌, ap, subst, arith, lit<, ℤ, pos, negsuc, ◌+ℤ◌, ◌-ℤ◌, ◌↔◌}
use Rattle.std.specs.Prelude.{min}
use Rattle.std.specs.Prelude.{◌/◌, ◌%◌}
use Rattle.std.proofs.lemmas.Nat.{div-add-mod', mod_below}
use Rattle.std.proofs.lemmas.Int.{ints}
use Rattle.std.proofs.lemmas.Bool.Decides.{eqb_tells}
use Rattle.std.proofs.Math.Nat.{pow-suc, pow-le-pow_right, mul-le-mul_right}
use Rattle.mes_fixed.specs.Value.{HalfUp, Nearest, Whole, signed}
use Rattle.mes_fixed.specs.Decimal.{raise, lower}

-- the code's exponents of 10 differ by e + places; x is the magnitude of the exponent, f the number
-- of digits after the point
pub shift_is : (lowers : Bool) (x f places : ℕ) → ((signed lowers x -ℤ pos f) +ℤ pos places) ≡ (pos (raise lowers x places) -ℤ pos (lower lowers x f))
shift_is true x f places = omega (arith, ints)
shift_is false x f places = omega (arith, ints)

pub base_is : (lowers : Bool) (x f : ℕ) → (signed lowers x -ℤ pos f) ≡ (pos (raise lowers x 0) -ℤ pos (lower lowers x f))
base_is true x f = omega (arith, ints)
base_is false x f = omega (arith, ints)

up_is : (up down : ℕ) → down ≤ up → (pos up -ℤ pos down) ≡ pos (up - down)
up_is up down h = omega (arith, ints)

down_is : (up down : ℕ) → up < down → (pos up -ℤ pos down) ≡ negsuc (down - up - 1)
down_is up down h = omega (arith, ints)

-- ---- the nearest whole number

pub half_up_below : (m w q r : ℕ) → m ≡ q * w + r → 2 * r < w → HalfUp m w q
half_up_below m w q r e h = record { low = omega arith; high = omega arith }

pub half_up_above : (m w q r : ℕ) → m ≡ q * w + r → r < w → w ≤ 2 * r → HalfUp m w (q + 1)
half_up_above m w q r e h g = record { low = omega arith; high = omega arith }

half_up_le : (m w a b : ℕ) → HalfUp m w a → HalfUp m w b → b ≤ a
half_up_le m w a b ha hb = elim (order a b) [
  | inl le ↦ le
  | inr lt ↦ let more : (a + 1) * w ≤ b * w = mul-le-mul_right w (omega arith) in absurd (omega (arith, more, ha.high, hb.low))
]
  where
    order : (a b : ℕ) → (b ≤ a) ⊎ (a < b)
    order a b = elim (eqb_tells (b - a) 0) [ inl e ↦ inl (omega (arith, e.1)) | inr e ↦ inr (omega (arith, e.1)) ]

pub half_up_once : (m w a b : ℕ) → HalfUp m w a → HalfUp m w b → a ≡ b
half_up_once m w a b ha hb = let h = half_up_le m w a b ha hb in let g = half_up_le m w b a hb ha in omega arith

pub half_up_some : (m w : ℕ) → 0 < w → (n : ℕ) × HalfUp m w n
half_up_some m w h = elim (order (2 * (m % w)) w) [
  | inl lt ↦ (m / w, half_up_below m w (m / w) (m % w) (sym (div-add-mod' m w)) lt)
  | inr le ↦ (m / w + 1, half_up_above m w (m / w) (m % w) (sym (div-add-mod' m w)) (mod_below m w h) le)
]
  where
    order : (a b : ℕ) → (a < b) ⊎ (b ≤ a)
    order a b = elim (eqb_tells (b - a) 0) [ inl e ↦ inr (omega (arith, e.1)) | inr e ↦ inl (omega (arith, e.1)) ]

half_up_one : (m n : ℕ) → HalfUp m 1 n → n ≡ m
half_up_one m n h = omega (arith, h.low, h.high)

pub one_half_up : (m n : ℕ) → n ≡ m → HalfUp m 1 n
one_half_up m n e = record { low = omega arith; high = omega arith }

half_up_zero : (m w n : ℕ) → 2 * m < w → HalfUp m w n → n ≡ 0
half_up_zero m w n h g = elim (eqb_tells n 0) [
  | inl e ↦ e.1
  | inr e ↦ let more : 1 * w ≤ n * w = mul-le-mul_right w (omega (arith, e.1)) in absurd (omega (arith, more, g.low))
]

zero_half_up : (m w n : ℕ) → 2 * m < w → n ≡ 0 → HalfUp m w n
zero_half_up m w n h e = subst (HalfUp m w) (sym e) (half_up_below m w 0 m (omega arith) h)

-- ---- `Nearest` and `Whole`, for m multiplied by one power of ten and divided by another

pub cases_le : (a b : ℕ) → (a ≤ b) ⊎ (b < a)
cases_le a b = elim (eqb_tells (a - b) 0) [ inl e ↦ inl (omega (arith, e.1)) | inr e ↦ inr (omega (arith, e.1)) ]

pub power_none : (k : ℕ) → k ≡ 0 → 10 ^ k ≡ 1
power_none k e = ap (λ (i : ℕ). 10 ^ i) e

pub times_none : (m k : ℕ) → k ≡ 0 → m * 10 ^ k ≡ m
times_none m k e = ap (λ (p : ℕ). m * p) (power_none k e) ∙ omega arith

pub nearest_iff : (m up down n : ℕ) → Nearest m (pos up -ℤ pos down) n ↔ HalfUp (m * 10 ^ (up - down)) (10 ^ (down - up)) n
nearest_iff m up down n = elim (cases_le down up) [
  | inl le ↦
      let one : 10 ^ (down - up) ≡ 1 = power_none (down - up) (omega arith) in
      let P : ℕ → Type 0 = λ w. HalfUp (m * 10 ^ (up - down)) w n in
      let N : ℤ → Type 0 = λ z. Nearest m z n in (
        λ h. let e : n ≡ m * 10 ^ (up - down) = subst N (up_is up down le) h in subst P (sym one) (one_half_up (m * 10 ^ (up - down)) n e),
        λ h. let e : N (pos (up - down)) = half_up_one (m * 10 ^ (up - down)) n (subst P one h) in subst N (sym (up_is up down le)) e,
      )
  | inr lt ↦
      let power : 10 ^ suc (down - up - 1) ≡ 10 ^ (down - up) = ap (λ (i : ℕ). 10 ^ i) (omega arith) in
      let all : m * 10 ^ (up - down) ≡ m = times_none m (up - down) (omega arith) in
      let P : ℕ → Type 0 = λ w. HalfUp m w n in
      let M : ℕ → Type 0 = λ x. HalfUp x (10 ^ (down - up)) n in
      let N : ℤ → Type 0 = λ z. Nearest m z n in (
        λ h. let e : P (10 ^ suc (down - up - 1)) = subst N (down_is up down lt) h in subst M (sym all) (subst P power e),
        λ h. let e : N (negsuc (down - up - 1)) = subst P (sym power) (subst M all h) in subst N (sym (down_is up down lt)) e,
      )
]

pub whole_iff : (m up down v : ℕ) → Whole m (pos up -ℤ pos down) v ↔ (m * 10 ^ (up - down) ≡ v * 10 ^ (down - up))
whole_iff m up down v = elim (cases_le down up) [
  | inl le ↦
      let one : v * 10 ^ (down - up) ≡ v = times_none v (down - up) (omega arith) in
      let N : ℤ → Type 0 = λ z. Whole m z v in (
        λ h. let e : v ≡ m * 10 ^ (up - down) = subst N (up_is up down le) h in sym e ∙ sym one,
        λ h. let e : N (pos (up - down)) = sym one ∙ sym h in subst N (sym (up_is up down le)) e,
      )
  | inr lt ↦
      let power : v * 10 ^ suc (down - up - 1) ≡ v * 10 ^ (down - up) = ap (λ (i : ℕ). v * 10 ^ i) (omega arith) in
      let all : m * 10 ^ (up - down) ≡ m = times_none m (up - down) (omega arith) in
      let N : ℤ → Type 0 = λ z. Whole m z v in (
        λ h. let e : m ≡ v * 10 ^ suc (down - up - 1) = subst N (down_is up down lt) h in all ∙ e ∙ power,
        λ h. let e : N (negsuc (down - up - 1)) = sym all ∙ h ∙ sym power in subst N (sym (down_is up down lt)) e,
      )
]

-- ---- exponents above the cap of 100

-- a bound above the largest values of all types
abbrev pub FAR : ℕ
FAR = 10 ^ 20

-- with twenty or more zeros appended, only 0 stays below FAR
zero_from_far : (m k n : ℕ) → n ≡ m * 10 ^ k → 20 ≤ k → n < FAR → m ≡ 0
zero_from_far m k n e h lt = elim (eqb_tells m 0) [
  | inl z ↦ z.1
  | inr z ↦
      let more : 1 * 10 ^ k ≤ m * 10 ^ k = mul-le-mul_right (10 ^ k) (omega (arith, z.1)) in
      let power : 10 ^ 20 ≤ 10 ^ k = pow-le-pow_right {n = 10} (lit< tt) h in
      absurd (omega (arith, more, power))
]

zero_times : (m k : ℕ) → m ≡ 0 → m * 10 ^ k ≡ 0
zero_times m k e = ap (λ (x : ℕ). x * 10 ^ k) e ∙ omega arith

half_small : (m len k : ℕ) → m < 10 ^ len → len < k → 2 * m < 10 ^ k
half_small m len k h lt =
    let power : 10 ^ suc len ≤ 10 ^ k = pow-le-pow_right {n = 10} (lit< tt) lt in
    omega (arith, power, pow-suc 10 len)

-- bounds that hold in a text of at most 64 bytes: m is its digits' value, f counts those after the
-- point
pub record AreFew (m f places : ℕ) : Type 0 where
  pub few : m < 10 ^ 64
  pub following : f ≤ 64
  pub short : places ≤ 6

half_far : (lowers : Bool) (m f places x y n : ℕ) → AreFew m f places → 100 ≤ x → 100 ≤ y → n < FAR → HalfUp (m * 10 ^ (raise lowers x places - lower lowers x f)) (10 ^ (lower lowers x f - raise lowers x places)) n → HalfUp (m * 10 ^ (raise lowers y places - lower lowers y f)) (10 ^ (lower lowers y f - raise lowers y places)) n
half_far false m f places x y n few hx hy lt h =
    let P : ℕ → Type 0 = λ w. HalfUp (m * 10 ^ ((x + places) - (f + 0))) w n in
    let e : n ≡ m * 10 ^ ((x + places) - (f + 0)) = half_up_one _ n (subst P (power_none ((f + 0) - (x + places)) (omega (arith, few.following))) h) in
    let zero : m ≡ 0 = zero_from_far m ((x + places) - (f + 0)) n e (omega (arith, few.following)) lt in
    let Q : ℕ → Type 0 = λ w. HalfUp (m * 10 ^ ((y + places) - (f + 0))) w n in
    let g : Q 1 = one_half_up _ n (e ∙ zero_times m ((x + places) - (f + 0)) zero ∙ sym (zero_times m ((y + places) - (f + 0)) zero)) in
    subst Q (sym (power_none ((f + 0) - (y + places)) (omega (arith, few.following)))) g
half_far true m f places x y n few hx hy lt h =
    let P : ℕ → Type 0 = λ x'. HalfUp x' (10 ^ ((f + x) - (0 + places))) n in
    let Q : ℕ → Type 0 = λ x'. HalfUp x' (10 ^ ((f + y) - (0 + places))) n in
    let zero : n ≡ 0 = half_up_zero m (10 ^ ((f + x) - (0 + places))) n (half_small m 64 ((f + x) - (0 + places)) few.few (omega (arith, few.short))) (subst P (times_none m ((0 + places) - (f + x)) (omega (arith, few.short))) h) in
    let g : Q m = zero_half_up m (10 ^ ((f + y) - (0 + places))) n (half_small m 64 ((f + y) - (0 + places)) few.few (omega (arith, few.short))) zero in
    subst Q (sym (times_none m ((0 + places) - (f + y)) (omega (arith, few.short)))) g

whole_far : (lowers : Bool) (m f x y v : ℕ) → AreFew m f 0 → 100 ≤ x → 100 ≤ y → v < FAR → m * 10 ^ (raise lowers x 0 - lower lowers x f) ≡ v * 10 ^ (lower lowers x f - raise lowers x 0) → m * 10 ^ (raise lowers y 0 - lower lowers y f) ≡ v * 10 ^ (lower lowers y f - raise lowers y 0)
whole_far false m f x y v few hx hy lt h =
    let e : v ≡ m * 10 ^ ((x + 0) - (f + 0)) = sym (h ∙ times_none v ((f + 0) - (x + 0)) (omega (arith, few.following))) in
    let zero : m ≡ 0 = zero_from_far m ((x + 0) - (f + 0)) v e (omega (arith, few.following)) lt in
    zero_times m ((y + 0) - (f + 0)) zero ∙ sym (zero_times m ((x + 0) - (f + 0)) zero) ∙ sym e ∙ sym (times_none v ((f + 0) - (y + 0)) (omega (arith, few.following)))
whole_far true m f x y v few hx hy lt h =
    let e : m ≡ v * 10 ^ ((f + x) - 0) = sym (times_none m (0 - (f + x)) (omega arith)) ∙ h in
    let small = half_small m 64 ((f + x) - 0) few.few (omega arith) in
    let zero : v ≡ 0 = elim (eqb_tells v 0) [
      | inl z ↦ z.1
      | inr z ↦ let more : 1 * 10 ^ ((f + x) - 0) ≤ v * 10 ^ ((f + x) - 0) = mul-le-mul_right (10 ^ ((f + x) - 0)) (omega (arith, z.1)) in absurd (omega (arith, more, small))
    ] in
    times_none m (0 - (f + y)) (omega arith) ∙ e ∙ zero_times v ((f + x) - 0) zero ∙ sym (zero_times v ((f + y) - 0) zero)

-- capping the exponent at 100 does not change the rounded value
pub half_capped : (lowers : Bool) (m f places x n : ℕ) → AreFew m f places → n < FAR → HalfUp (m * 10 ^ (raise lowers x places - lower lowers x f)) (10 ^ (lower lowers x f - raise lowers x places)) n ↔ HalfUp (m * 10 ^ (raise lowers (min 100 x) places - lower lowers (min 100 x) f)) (10 ^ (lower lowers (min 100 x) f - raise lowers (min 100 x) places)) n
half_capped lowers m f places x n few lt =
    let P : ℕ → Type 0 = λ y. HalfUp (m * 10 ^ (raise lowers y places - lower lowers y f)) (10 ^ (lower lowers y f - raise lowers y places)) n in
    elim (cases_le x 100) [
      | inl le ↦ let e : x ≡ min 100 x = omega arith in (λ h. subst P e h, λ h. subst P (sym e) h)
      | inr gt ↦ (half_far lowers m f places x (min 100 x) n few (omega arith) (omega arith) lt, half_far lowers m f places (min 100 x) x n few (omega arith) (omega arith) lt)
    ]

pub whole_capped : (lowers : Bool) (m f x v : ℕ) → AreFew m f 0 → v < FAR → (m * 10 ^ (raise lowers x 0 - lower lowers x f) ≡ v * 10 ^ (lower lowers x f - raise lowers x 0)) ↔ (m * 10 ^ (raise lowers (min 100 x) 0 - lower lowers (min 100 x) f) ≡ v * 10 ^ (lower lowers (min 100 x) f - raise lowers (min 100 x) 0))
whole_capped lowers m f x v few lt =
    let P : ℕ → Type 0 = λ y. m * 10 ^ (raise lowers y 0 - lower lowers y f) ≡ v * 10 ^ (lower lowers y f - raise lowers y 0) in
    elim (cases_le x 100) [
      | inl le ↦ let e : x ≡ min 100 x = omega arith in (λ h. subst P e h, λ h. subst P (sym e) h)
      | inr gt ↦ (whole_far lowers m f x (min 100 x) v few (omega arith) (omega arith) lt, whole_far lowers m f (min 100 x) x v few (omega arith) (omega arith) lt)
    ]
