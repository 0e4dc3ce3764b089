-- The letter of a byte (its class in the automaton), and the bytes of a letter.
use Rattle.std.proofs.Common.{◌≡◌, ℕ, ◌<◌, ◌≤◌, ◌⊎◌, ◌==◌, true, inl, inr, arith, Some}
use Rattle.std.specs.Prelude.{nat_le, ◌&&◌, ◌||◌}
use Rattle.std.specs.Char.{digit_value}
use Rattle.std.proofs.lemmas.Bool.{cond_both, eqb-true}
use Rattle.std.proofs.lemmas.Bool.Decides.{nat_tests, eqb_tells}
use Rattle.std.proofs.lemmas.Str.Parse.{digit_from_value}
use Rattle.mes_fixed.specs.declared.automaton.NumberState.{NumberState}
use Rattle.mes_fixed.specs.Automaton.{Letter, nought, digit, point, exponent, plus, dash, neither, letter_of, number_next}

abbrev pub LetterIs : Letter → ℕ → Type 0
LetterIs nought c = c ≡ 48
LetterIs digit c = (49 ≤ c) × (c ≤ 57)
LetterIs point c = c ≡ 46
LetterIs exponent c = (c ≡ 101) ⊎ (c ≡ 69)
LetterIs plus c = c ≡ 43
LetterIs dash c = c ≡ 45
LetterIs neither c = Unit {0}

is_digit : (c : ℕ) → nat_le 49 c && nat_le c 57 ≡ true → (49 ≤ c) × (c ≤ 57)
is_digit c h = (grind (arith, nat_tests), grind (arith, nat_tests))

is_exponent : (c : ℕ) → (c == 101 || c == 69) ≡ true → (c ≡ 101) ⊎ (c ≡ 69)
is_exponent c h = elim (eqb_tells c 101) [ inl e ↦ inl e.1 | inr e ↦ inr (grind (arith, nat_tests)) ]

-- the letter of a byte determines the class of the byte
pub letter_is : (c : ℕ) → LetterIs (letter_of c) c
letter_is c =
    cond_both _ _ _ (λ l. LetterIs l c) (λ e. eqb-true c 48 e)
    (λ _. cond_both _ _ _ (λ l. LetterIs l c) (λ e. is_digit c e)
    (λ _. cond_both _ _ _ (λ l. LetterIs l c) (λ e. eqb-true c 46 e)
    (λ _. cond_both _ _ _ (λ l. LetterIs l c) (λ e. is_exponent c e)
    (λ _. cond_both _ _ _ (λ l. LetterIs l c) (λ e. eqb-true c 43 e)
    (λ _. cond_both _ _ _ (λ l. LetterIs l c) (λ e. eqb-true c 45 e) (λ _. tt))))))

pub letter_of_digit : (c : ℕ) → 49 ≤ c → c ≤ 57 → letter_of c ≡ digit
letter_of_digit c low high = grind (arith, nat_tests)

pub digit_step : (part next : NumberState) (c : ℕ) → digit_value c < 10 → number_next part nought ≡ Some next → number_next part digit ≡ Some next → number_next part (letter_of c) ≡ Some next
digit_step part next c h z d =
    let r : (48 ≤ c) × (c ≤ 57) = digit_from_value c h in
    elim (eqb_tells c 48) [
      | inl e ↦ rw e.1 z
      | inr e ↦
          let low : 49 ≤ c = omega (arith, r.0, e.1) in
          rw (letter_of_digit c low r.1) d
    ]

pub digit_is_value : (c : ℕ) → 48 ≤ c → c ≤ 57 → digit_value c < 10
digit_is_value c low high = grind (arith, nat_tests)
