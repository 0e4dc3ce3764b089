-- Digits scaled by powers of ten and truncated: the integer, and the dropped remainder.
use Rattle.std.proofs.Common.{◌≡◌, ℕ, ◌+◌, ◌-◌, ◌*◌, ◌^◌, ◌<◌, ◌≤◌, ◌⊎◌, inl, inr, List, length, take, drop, refl, sym, ◌∙◌, ap, subst, arith, lit<}
use Rattle.std.specs.Str.Parse.{AllDigits, digits_value}
use Rattle.std.proofs.Math.Nat.{one-le-pow, mul-le-mul_left, mul-le-mul_right}
use Rattle.mes_fixed.specs.declared.digits.Cut.{Cut}
use Rattle.mes_fixed.specs.declared.digits.Cut.TheVariants.{Nothing, BelowHalf, HalfOrMore}
use Rattle.mes_fixed.specs.declared.decimal.Scaled.{Scaled}
use Rattle.mes_fixed.specs.Cut.{CutIs}
use Rattle.mes_fixed.specs.Decimal.{IsCut, IsHuge}
use Rattle.mes_fixed.specs.Value.{HalfUp}
use Rattle.mes_fixed.proofs.DigitValues.{divided, rest_below, digits_take, digits_drop}
use Rattle.mes_fixed.proofs.Scales.{power_none, times_none, half_up_below, half_up_above, cases_le}

order : (a b : ℕ) → (a < b) ⊎ (b ≤ a)
order a b = elim (cases_le b a) [ inl le ↦ inr le | inr lt ↦ inl lt ]

grown : (v k : ℕ) → v ≤ v * 10 ^ k
grown v k = let more : v * 1 ≤ v * 10 ^ k = mul-le-mul_left v (one-le-pow k 10 (lit< tt)) in omega (arith, more)

huge_by : (m w : ℕ) → w ≡ 1 → 2 ^ 64 ≤ m → IsHuge m w
huge_by m w e h = record { whole = m; rest = 0; is = rw e (omega arith); below = omega arith; huge = h }

pub huge_zeros : (v up down number more less : ℕ) → number ≡ v → more ≡ up → less ≡ down → less ≤ more → 2 ^ 64 ≤ number * 10 ^ (more - less) → IsHuge (v * 10 ^ (up - down)) (10 ^ (down - up))
huge_zeros v up down number more less n m l le h =
    let same : number * 10 ^ (more - less) ≡ v * 10 ^ (up - down) = cc in
    huge_by (v * 10 ^ (up - down)) (10 ^ (down - up)) (power_none (down - up) (omega arith)) (omega (arith, same, h))

pub huge_value : (v up down : ℕ) → down ≤ up → 2 ^ 64 ≤ v → IsHuge (v * 10 ^ (up - down)) (10 ^ (down - up))
huge_value v up down le h = huge_by (v * 10 ^ (up - down)) (10 ^ (down - up)) (power_none (down - up) (omega arith)) (omega (arith, grown v (up - down), h))

pub cut_zeros : (v up down number more less whole : ℕ) → number ≡ v → more ≡ up → less ≡ down → less ≤ more → whole ≡ number * 10 ^ (more - less) → IsCut (v * 10 ^ (up - down)) (10 ^ (down - up)) (record { whole = whole; cut = Nothing })
cut_zeros v up down number more less whole n m l le h =
    let same : number * 10 ^ (more - less) ≡ v * 10 ^ (up - down) = cc in
    let one : 10 ^ (down - up) ≡ 1 = power_none (down - up) (omega arith) in
    record { rest = 0; is = rw one (omega (arith, same, h)); below = omega (arith, one); cut = refl }

pub cut_part : (ds kept dropped : List ℕ) (up down whole : ℕ) (cut : Cut) → AllDigits 10 ds → up < down → kept ≡ take (length ds - (down - up)) ds → dropped ≡ drop (length ds - (down - up)) ds → whole ≡ digits_value 10 kept → CutIs cut (digits_value 10 dropped) (10 ^ (down - up)) → IsCut (digits_value 10 ds * 10 ^ (up - down)) (10 ^ (down - up)) (record { whole = whole; cut = cut })
cut_part ds kept dropped up down whole cut a lt k d w h = record {
  rest = digits_value 10 dropped;
  is =
      times_none (digits_value 10 ds) (up - down) (omega arith)
      ∙ divided ds (down - up) a
      ∙ ap (λ (n : ℕ). n * 10 ^ (down - up) + digits_value 10 (drop (length ds - (down - up)) ds)) (ap (digits_value 10) (sym k) ∙ sym w)
      ∙ ap (λ (n : ℕ). whole * 10 ^ (down - up) + n) (ap (digits_value 10) (sym d));
  below = let P : List ℕ → Type 0 = λ x. digits_value 10 x < 10 ^ (down - up) in subst P (sym d) (rest_below ds (down - up) a);
  cut = h;
}

pub huge_part : (ds kept : List ℕ) (up down : ℕ) → AllDigits 10 ds → up < down → kept ≡ take (length ds - (down - up)) ds → 2 ^ 64 ≤ digits_value 10 kept → IsHuge (digits_value 10 ds * 10 ^ (up - down)) (10 ^ (down - up))
huge_part ds kept up down a lt k h = record {
  whole = digits_value 10 (take (length ds - (down - up)) ds);
  rest = digits_value 10 (drop (length ds - (down - up)) ds);
  is = times_none (digits_value 10 ds) (up - down) (omega arith) ∙ divided ds (down - up) a;
  below = rest_below ds (down - up) a;
  huge = let P : List ℕ → Type 0 = λ x. 2 ^ 64 ≤ digits_value 10 x in subst P k h;
}

pub digits_taken : (ds kept : List ℕ) (i : ℕ) → AllDigits 10 ds → kept ≡ take i ds → AllDigits 10 kept
digits_taken ds kept i a e = subst (AllDigits 10) (sym e) (digits_take ds i a)

pub digits_dropped : (ds kept : List ℕ) (i : ℕ) → AllDigits 10 ds → kept ≡ drop i ds → AllDigits 10 kept
digits_dropped ds kept i a e = subst (AllDigits 10) (sym e) (digits_drop ds i a)

-- ---- the results of `rounded` and `whole`, from the truncated number

pub cut_rounded : (m w : ℕ) (s : Scaled) → IsCut m w s → (s.cut ≡ Nothing) ⊎ (s.cut ≡ BelowHalf) → HalfUp m w s.whole
cut_rounded m w s h e = half_up_below m w s.whole h.rest h.is (elim e [
  | inl n ↦ let zero = subst (λ (c : Cut). CutIs c h.rest w) n h.cut in omega (arith, zero, h.below)
  | inr b ↦ let half = subst (λ (c : Cut). CutIs c h.rest w) b h.cut in half.1
])

pub cut_rounded_up : (m w : ℕ) (s : Scaled) → IsCut m w s → s.cut ≡ HalfOrMore → HalfUp m w (s.whole + 1)
cut_rounded_up m w s h e = half_up_above m w s.whole h.rest h.is h.below (subst (λ (c : Cut). CutIs c h.rest w) e h.cut)

pub huge_rounded : (m w : ℕ) → IsHuge m w → (n : ℕ) × HalfUp m w n × (2 ^ 64 ≤ n)
huge_rounded m w h = elim (order (2 * h.rest) w) [
  | inl lt ↦ (h.whole, half_up_below m w h.whole h.rest h.is lt, h.huge)
  | inr le ↦ (h.whole + 1, half_up_above m w h.whole h.rest h.is h.below le, omega (arith, h.huge))
]

pub cut_whole : (m w : ℕ) (s : Scaled) → IsCut m w s → s.cut ≡ Nothing → m ≡ s.whole * w
cut_whole m w s h e = let zero = subst (λ (c : Cut). CutIs c h.rest w) e h.cut in omega (arith, h.is, zero)

-- if v * w is q * w plus a remainder below w, v is at most q
multiple_le : (v q w rest : ℕ) → v * w ≡ q * w + rest → rest < w → v ≤ q
multiple_le v q w rest e h = elim (order q v) [
  | inl lt ↦ let more : (q + 1) * w ≤ v * w = mul-le-mul_right w (omega arith) in absurd (omega (arith, more, e, h))
  | inr le ↦ le
]

multiple_ge : (v q w rest : ℕ) → v * w ≡ q * w + rest → rest < w → q ≤ v
multiple_ge v q w rest e h = elim (order v q) [
  | inl lt ↦ let more : (v + 1) * w ≤ q * w = mul-le-mul_right w (omega arith) in absurd (omega (arith, more, e, h))
  | inr le ↦ le
]

pub cut_no_whole : (m w v : ℕ) (s : Scaled) → IsCut m w s → (s.cut ≡ BelowHalf) ⊎ (s.cut ≡ HalfOrMore) → m ≡ v * w → ⊥
cut_no_whole m w v s h e is =
    let le = multiple_le v s.whole w h.rest (sym is ∙ h.is) h.below in
    let ge = multiple_ge v s.whole w h.rest (sym is ∙ h.is) h.below in
    let same : v * w ≡ s.whole * w = ap (λ (n : ℕ). n * w) (omega arith) in
    let none : h.rest ≡ 0 = omega (arith, same, is, h.is) in
    elim e [
      | inl b ↦ let half = subst (λ (c : Cut). CutIs c h.rest w) b h.cut in omega (arith, half.0, none)
      | inr b ↦ let half = subst (λ (c : Cut). CutIs c h.rest w) b h.cut in omega (arith, half, none, h.below)
    ]

pub huge_whole : (m w v : ℕ) → IsHuge m w → m ≡ v * w → 2 ^ 64 ≤ v
huge_whole m w v h is =
    let ge = multiple_ge v h.whole w h.rest (sym is ∙ h.is) h.below in
    omega (arith, ge, h.huge)
