-- Hexadecimal digits, and the tests for the ranges of their values.
use Rattle.std.proofs.Common.{◌≡◌, ℕ, ◌-◌, ◌<◌, ◌≤◌, ◌⊎◌, inl, inr, Bool, true, false, ◌&&◌, Some, if◌then◌else◌, nat_le, List, refl, arith}
use Rattle.std.proofs.lemmas.Bool.{cases_lt}
use Rattle.std.proofs.lemmas.Bool.Decides.{nat_tests}
use Rattle.std.specs.Char.{IsScalar}
use Rattle.mes_json.specs.Grammar.{IsHex, IsHex4}
use Rattle.mes_json.specs.Escape.{Move, hex_of, by_hex, two_digits, four_digits}
use Rattle.mes_json.specs.Escape.Escape.{unit2, high}
use Rattle.mes_json.specs.Escape.Move.{on, makes, refused}

pub scalar_from : (c : ℕ) → (c < 0xD800) ⊎ ((0xE000 ≤ c) × (c < 0x11_0000)) → IsScalar c
scalar_from c h = grind (arith, nat_tests)

pub in_range : (l c m : ℕ) → (nat_le l c && nat_le c m) ≡ true → (l ≤ c) × (c ≤ m)
in_range l c m e = grind (arith, nat_tests)

pub out_of_range : (l c m : ℕ) → (nat_le l c && nat_le c m) ≡ false → (c < l) ⊎ (m < c)
out_of_range l c m e = by (cases_lt c l) (cases_lt m c)
  where
    by : (c < l) ⊎ (l ≤ c) → (m < c) ⊎ (c ≤ m) → (c < l) ⊎ (m < c)
    by (inl h) _ = inl h
    by (inr h) (inl k) = inr k
    by (inr h) (inr k) = absurd (grind (arith, nat_tests))

-- P holds for a choice by the range of c, if P holds for each branch under the branch's condition
pub by_range : {A : Type 0} (P : A → Type 0) (l c m : ℕ) (x y : A) → ((l ≤ c) × (c ≤ m) → P x) → ((c < l) ⊎ (m < c) → P y) → P (if nat_le l c && nat_le c m then x else y)
by_range {A} P l c m x y f g = by (nat_le l c && nat_le c m) (λ e. f (in_range l c m e)) (λ e. g (out_of_range l c m e))
  where
    by : (b : Bool) → (b ≡ true → P x) → (b ≡ false → P y) → P (if b then x else y)
    by true h k = h refl
    by false h k = k refl

pub hex_below : (c v : ℕ) → IsHex c v → v < 16
hex_below c v (inl h) = omega arith
hex_below c v (inr (inl h)) = omega arith
hex_below c v (inr (inr h)) = omega arith

pub hex_some : (c v : ℕ) → IsHex c v → hex_of c ≡ Some v
hex_some c v (inl h) = let k : c - 48 ≡ v = omega arith in grind (arith, nat_tests)
hex_some c v (inr (inl h)) = let k : c - 55 ≡ v = omega arith in grind (arith, nat_tests)
hex_some c v (inr (inr h)) = let k : c - 87 ≡ v = omega arith in grind (arith, nat_tests)

pub by_digit : (P : Move → Type 0) (c : ℕ) (f : ℕ → Move) → P refused → ((v : ℕ) → IsHex c v → P (f v)) → P (by_hex (hex_of c) f)
by_digit P c f none some =
    by_range (λ o. P (by_hex o f)) 48 c 57 _ _ (λ h. some (c - 48) (inl (h.0, h.1, omega arith))) (λ _.
    by_range (λ o. P (by_hex o f)) 65 c 70 _ _ (λ h. some (c - 55) (inr (inl (h.0, h.1, omega arith)))) (λ _.
    by_range (λ o. P (by_hex o f)) 97 c 102 _ _ (λ h. some (c - 87) (inr (inr (h.0, h.1, omega arith)))) (λ _. none)))

pub hex4_below : (b : List ℕ) (v : ℕ) → IsHex4 b v → v < 0x1_0000
hex4_below b v h = omega (arith, hex_below h.c0 h.v0 h.d0, hex_below h.c1 h.v1 h.d1, hex_below h.c2 h.v2 h.d2, hex_below h.c3 h.v3 h.d3, h.value)

pub two_on : (v : ℕ) → (v < 0xDC) ⊎ (0xE0 ≤ v) → two_digits v ≡ on (unit2 v)
two_on v h = grind (arith, nat_tests)

pub four_on : (v : ℕ) → 0xD800 ≤ v → v ≤ 0xDBFF → four_digits v ≡ on (high v)
four_on v l h = grind (arith, nat_tests)

pub four_makes : (v : ℕ) → (v < 0xD800) ⊎ (0xDBFF < v) → four_digits v ≡ makes v
four_makes v h = grind (arith, nat_tests)
