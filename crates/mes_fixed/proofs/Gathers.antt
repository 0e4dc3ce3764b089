-- The fields of the `Decimal` that the code builds represent the parts that the specification
-- collects.
use Rattle.std.proofs.Common.{◌≡◌, ℕ, ◌+◌, ◌-◌, ◌*◌, ◌≤◌, List, [], ◌∷◌, ◌++◌, Option, Some, None, sym, ◌∙◌, ap, subst, arith}
use Rattle.std.specs.Prelude.{min}
use Rattle.std.specs.Str.Parse.{digits_value}
use Rattle.std.proofs.lemmas.List.{append-nil}
use Rattle.std.proofs.lemmas.Int.Digits.{digits_value_push}
use Rattle.std.proofs.lemmas.Str.{digit_value_digit}
use Rattle.mes_fixed.specs.declared.automaton.NumberState.{NumberState}
use Rattle.mes_fixed.specs.declared.automaton.NumberState.TheVariants.{AtStart, AfterMinus, AfterZero, InWhole}
use Rattle.mes_fixed.specs.Number.{Numeral}
use Rattle.mes_fixed.specs.Automaton.{Letter, nought, digit, point, exponent, dash, letter_of, number_next}
use Rattle.mes_fixed.specs.Gathering.{gathered, IsBeforePoint}

abbrev NextBeforePoint : Option NumberState → Numeral → Type 0
NextBeforePoint None n = Unit {0}
NextBeforePoint (Some next) n = IsBeforePoint next n

next_before_point : (part : NumberState) (l : Letter) (n : Numeral) → IsBeforePoint part n → NextBeforePoint (number_next part l) n
next_before_point AtStart nought n h = h
next_before_point AtStart digit n h = h
next_before_point AtStart dash n h = h
next_before_point AtStart _ n h = tt
next_before_point AfterMinus nought n h = h
next_before_point AfterMinus digit n h = h
next_before_point AfterMinus _ n h = tt
next_before_point InWhole nought n h = h
next_before_point InWhole digit n h = h
next_before_point InWhole _ n h = tt
next_before_point AfterZero point n h = tt
next_before_point AfterZero exponent n h = tt
next_before_point AfterZero _ n h = tt
next_before_point _ nought n h = tt
next_before_point _ digit n h = tt
next_before_point _ _ n h = tt

pub step_before_point : (part next : NumberState) (c : ℕ) (n : Numeral) → number_next part (letter_of c) ≡ Some next → IsBeforePoint part n → IsBeforePoint next n
step_before_point part next c n e h = subst (λ (o : Option NumberState). NextBeforePoint o n) e (next_before_point part (letter_of c) n h)

pub gathered_before_point : (part : NumberState) (c : ℕ) (n : Numeral) → IsBeforePoint part n → IsBeforePoint part (gathered part c n)
gathered_before_point AtStart c n h = h
gathered_before_point AfterMinus c n h = h
gathered_before_point AfterZero c n h = h
gathered_before_point InWhole c n h = h
gathered_before_point _ c n h = tt

pub push_whole : (items more whole fraction : List ℕ) (c : ℕ) → items ≡ whole ++ fraction → more ≡ items ++ c ∷ [] → fraction ≡ [] → more ≡ (whole ++ c ∷ []) ++ fraction
push_whole items more whole fraction c i m f =
    m ∙ ap (λ (x : List ℕ). x ++ c ∷ []) (i ∙ ap (λ (x : List ℕ). whole ++ x) f ∙ append-nil whole)
    ∙ sym (append-nil (whole ++ c ∷ [])) ∙ ap (λ (x : List ℕ). (whole ++ c ∷ []) ++ x) (sym f)

pub capped_more : (power : List ℕ) (c old added new : ℕ) → (48 ≤ c) × (c ≤ 57) → old ≡ min 100 (digits_value 10 power) → added ≡ c - 48 → new ≡ min (old * 10 + added) 100 → new ≡ min 100 (digits_value 10 (power ++ c ∷ []))
capped_more power c old added new d o v n =
    let push = digits_value_push 10 power c in
    let value = digit_value_digit c d in
    omega (arith, push, value)
