-- A list of bytes that is proved to be some number has the parts of a number: `number_had`.
use Rattle.std.proofs.Common.{◌≡◌, ℕ, Bool, true, false, List, [], ◌∷◌, Option, Some, None, refl, sym, ◌∙◌, subst}
use Rattle.std.proofs.Math.Logic.{∥∥₁_elim}
use Rattle.mes_fixed.specs.declared.automaton.NumberState.{NumberState}
use Rattle.mes_fixed.specs.declared.automaton.NumberState.TheVariants.{AtStart}
use Rattle.mes_fixed.specs.Number.{IsNumber}
use Rattle.mes_fixed.specs.Automaton.{letter_of, number_next, is_final, Ends}
use Rattle.mes_fixed.proofs.Grammar.{number_from_ends, ends_from_number}

some_one : {a b : NumberState} → Some a ≡ Some b → a ≡ b
some_one e = cc

may : (part : NumberState) → Dec (is_final part ≡ true)
may part = by (is_final part) refl
  where
    by : (x : Bool) → is_final part ≡ x → Dec (is_final part ≡ true)
    by true e = yes e
    by false e = no (λ h. absurd (cc))

over : (part : NumberState) (c : ℕ) (rest : List ℕ) → ((next : NumberState) → Dec (Ends next rest)) → (o : Option NumberState) → number_next part (letter_of c) ≡ o → Dec (Ends part (c ∷ rest))
over part c rest go None e = no (λ h. absurd (cc (e, h.1)))
over part c rest go (Some next) e = by (go next)
  where
    by : Dec (Ends next rest) → Dec (Ends part (c ∷ rest))
    by (yes h) = yes (next, e, h)
    by (no n) = no (λ h. n (subst (λ (p : NumberState). Ends p rest) (some_one (sym h.1 ∙ e)) h.2))

goes : (text : List ℕ) (part : NumberState) → Dec (Ends part text)
goes [] part = may part
goes (c ∷ rest) part = over part c rest (λ next. goes rest next) (number_next part (letter_of c)) refl

pub number_had : (text : List ℕ) → ∥ IsNumber text ∥₁ → IsNumber text
number_had text h = by (goes text AtStart)
  where
    by : Dec (Ends AtStart text) → IsNumber text
    by (yes e) = number_from_ends text e
    by (no n) = absurd (∥∥₁_elim h (λ x y. absurd x) (λ p. n (ends_from_number text p)))
