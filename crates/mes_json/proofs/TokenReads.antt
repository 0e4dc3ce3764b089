-- Completeness: the state machine reads each literal and number of the grammar.
use Rattle.std.proofs.Common.{◌≡◌, ℕ, inl, inr, Bool, true, false, List, [], ◌∷◌, ◌++◌, Some, None, option_and_then, if◌then◌else◌, ◌==◌, refl, ap, sym, ◌∙◌, subst, arith, append_assoc, append-nil}
use Rattle.std.proofs.lemmas.Bool.Decides.{nat_tests}
use Rattle.mes_fixed.specs.Number.{IsNumber}
use Rattle.mes_fixed.specs.Automaton.{letter_of, number_next, is_final, Ends}
use Rattle.mes_fixed.specs.Automaton.Letter.{neither}
use Rattle.mes_fixed.specs.declared.automaton.NumberState.{NumberState}
use Rattle.mes_fixed.specs.declared.automaton.NumberState.TheVariants.{AtStart, AfterMinus, AfterZero, InWhole, AfterPoint, InFraction, AfterExponent, AfterSign, InExponent}
use Rattle.mes_fixed.proofs.Grammar.{number_ends}
use Rattle.mes_json.specs.Tree.{Tree}
use Rattle.mes_json.specs.Tree.Tree.{null, boolean, number}
use Rattle.mes_json.specs.Grammar.{null_text, boolean_text}
use Rattle.mes_json.specs.Machine.{Frame, run, finish, finish_number, kind_of, kind_unless, due, on_value, on_after, on_digits, on_token}
use Rattle.mes_json.specs.Machine.ByteClass.{begins}
use Rattle.mes_json.specs.Machine.Token.{literal, digits}
use Rattle.mes_json.specs.Machine.State.{state}
use Rattle.mes_json.specs.Machine.ReaderState.{value, token, after}
use Rattle.mes_json.proofs.Reach.{Follows, Reaches, Leads, by_byte, then_to, reach_then}

same_byte : (c : ℕ) → (c == c) ≡ true
same_byte c = grind (arith, nat_tests)

due_step : (fs : List Frame) (e : ℕ) (rest : List ℕ) (t : Tree) → on_token fs (literal e rest t) e ≡ Some (state fs (due rest t))
due_step fs e rest t = ap (λ x. if x then Some (state fs (due rest t)) else None) (same_byte e)

pub over_due : (d : ℕ) (fs : List Frame) (e : ℕ) (rest : List ℕ) (t : Tree) → Reaches d (state fs (token (literal e rest t))) (e ∷ rest) (state fs (after t))
over_due d fs e [] t = by_byte d _ _ e (due_step fs e [] t)
over_due d fs e (c ∷ rest) t = then_to d _ _ _ (e ∷ []) (c ∷ rest) (by_byte d _ _ e (due_step fs e (c ∷ rest) t)) (over_due d fs c rest t)

pub over_null : (d : ℕ) (fs : List Frame) → Reaches d (state fs value) null_text (state fs (after null))
over_null d fs = then_to d _ _ _ (0x6E ∷ []) (0x75 ∷ 0x6C ∷ 0x6C ∷ []) (by_byte d _ _ 0x6E refl) (over_due d fs 0x75 (0x6C ∷ 0x6C ∷ []) null)

pub over_boolean : (d : ℕ) (fs : List Frame) (x : Bool) → Reaches d (state fs value) (boolean_text x) (state fs (after (boolean x)))
over_boolean d fs true = then_to d _ _ _ (0x74 ∷ []) (0x72 ∷ 0x75 ∷ 0x65 ∷ []) (by_byte d _ _ 0x74 refl) (over_due d fs 0x72 (0x75 ∷ 0x65 ∷ []) (boolean true))
over_boolean d fs false = then_to d _ _ _ (0x66 ∷ []) (0x61 ∷ 0x6C ∷ 0x73 ∷ 0x65 ∷ []) (by_byte d _ _ 0x66 refl) (over_due d fs 0x61 (0x6C ∷ 0x73 ∷ 0x65 ∷ []) (boolean false))

-- a byte that may follow a value does not continue a number
foreign : (c : ℕ) (q : List ℕ) → Follows (c ∷ q) → letter_of c ≡ neither
foreign c q (inl (inl e)) = ap letter_of e
foreign c q (inl (inr (inl e))) = ap letter_of e
foreign c q (inl (inr (inr (inl e)))) = ap letter_of e
foreign c q (inl (inr (inr (inr e)))) = ap letter_of e
foreign c q (inr (inl e)) = ap letter_of e
foreign c q (inr (inr (inl e))) = ap letter_of e
foreign c q (inr (inr (inr e))) = ap letter_of e

leads_nowhere : (part : NumberState) → number_next part neither ≡ None
leads_nowhere AtStart = refl
leads_nowhere AfterMinus = refl
leads_nowhere AfterZero = refl
leads_nowhere InWhole = refl
leads_nowhere AfterPoint = refl
leads_nowhere InFraction = refl
leads_nowhere AfterExponent = refl
leads_nowhere AfterSign = refl
leads_nowhere InExponent = refl

foreign_step : (fs : List Frame) (part : NumberState) (n : List ℕ) (c : ℕ) (q : List ℕ) → is_final part ≡ true → Follows (c ∷ q) → on_token fs (digits part n) c ≡ on_after fs (number n) (kind_of c)
foreign_step fs part n c q final h =
    ap (on_digits fs part n c) (ap (number_next part) (foreign c q h) ∙ leads_nowhere part)
    ∙ ap (λ x. if x then on_after fs (number n) (kind_of c) else None) final

pub at_final : (d : ℕ) (fs : List Frame) (part : NumberState) (n : List ℕ) → is_final part ≡ true → Leads d (state fs (token (digits part n))) [] (state fs (after (number n)))
unfolding run
at_final d [] part n final = by
  where
    by : Leads d (state [] (token (digits part n))) [] (state [] (after (number n)))
    by [] h = ap (λ x. finish_number x n) final
    by (c ∷ q) h = ap (λ o. option_and_then finish (option_and_then (λ next. run d next q) o)) (foreign_step [] part n c q final h)
at_final d (f ∷ fs) part n final = by
  where
    by : Leads d (state (f ∷ fs) (token (digits part n))) [] (state (f ∷ fs) (after (number n)))
    by [] h = refl
    by (c ∷ q) h = ap (λ o. option_and_then finish (option_and_then (λ next. run d next q) o)) (foreign_step (f ∷ fs) part n c q final h)

pub over_digits : (d : ℕ) (fs : List Frame) (part : NumberState) (n b : List ℕ) → Ends part b → Leads d (state fs (token (digits part n))) b (state fs (after (number (n ++ b))))
over_digits d fs part n [] h = subst (λ (x : List ℕ). Leads d (state fs (token (digits part n))) [] (state fs (after (number x)))) (sym (append-nil n)) (at_final d fs part n h)
over_digits d fs part n (c ∷ b) h =
    subst (λ (x : List ℕ). Leads d (state fs (token (digits part n))) (c ∷ b) (state fs (after (number x)))) (append_assoc n (c ∷ []) b)
    (reach_then d _ _ _ (c ∷ []) b (by_byte d _ _ c (ap (on_digits fs part n c) h.1)) (over_digits d fs h.0 (n ++ c ∷ []) b h.2))

abbrev pub NumberStarts : List ℕ → Type 0
NumberStarts b = (part : NumberState) × (c : ℕ) × (rest : List ℕ) × (b ≡ c ∷ rest) × (kind_of c ≡ begins (digits part (c ∷ []))) × Ends part rest

pub number_starts : (b : List ℕ) → IsNumber b → NumberStarts b
number_starts b h = by b ((number_ends b).0 h)
  where
    by : (b : List ℕ) → Ends AtStart b → NumberStarts b
    by [] e = absurd (cc)
    by (c ∷ rest) e = (e.0, c, rest, refl, ap (kind_unless c) e.1, e.2)

pub over_number : (d : ℕ) (fs : List Frame) (b : List ℕ) → IsNumber b → Leads d (state fs value) b (state fs (after (number b)))
over_number d fs b h =
    let s = number_starts b h in
    subst (λ (x : List ℕ). Leads d (state fs value) x (state fs (after (number x)))) (sym s.3)
    (reach_then d _ _ _ (s.1 ∷ []) s.2 (by_byte d _ _ s.1 (ap (on_value d fs) s.4)) (over_digits d fs s.0 (s.1 ∷ []) s.2 s.5))
