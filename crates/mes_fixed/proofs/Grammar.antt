-- The automaton accepts exactly the texts of the grammar of numbers (RFC 8259 section 6).
use Rattle.std.proofs.Common.{◌≡◌, ℕ, ◌<◌, ◌≤◌, Bool, true, false, List, [], ◌∷◌, ◌++◌, length, Option, Some, None, refl, sym, ◌∙◌, ap, subst, inl, inr, ◌⊎◌, ◌↔◌, arith, if◌then◌else◌}
use Rattle.std.specs.Option.{option_and_then}
use Rattle.std.specs.Str.Parse.{AllDigits, IsNumeral}
use Rattle.std.specs.Char.{digit_value}
use Rattle.std.proofs.lemmas.Option.{option_and_then_some}
use Rattle.std.proofs.Common.{◌+◌, add-one, suc, get_or, drop, IsTrue}
use Rattle.std.proofs.Math.Seq.{drop-cons}
use Rattle.std.proofs.Math.ListN.{drop_of_length-le}
use Rattle.mes_fixed.specs.declared.automaton.NumberState.{NumberState}
use Rattle.mes_fixed.specs.declared.automaton.NumberState.TheVariants.{AtStart, AfterMinus, AfterZero, InWhole, AfterPoint, InFraction, AfterExponent, AfterSign, InExponent}
use Rattle.mes_fixed.specs.Number.{Numeral, Spells, IsMinus, IsInt, IsFrac, IsSign, IsExp, IsNumber}
use Rattle.mes_fixed.specs.Automaton.{Letter, nought, digit, point, exponent, plus, dash, letter_of, number_next, is_final, Ends}
use Rattle.mes_fixed.proofs.Letters.{LetterIs, letter_is, digit_is_value}
use Rattle.mes_fixed.specs.Gathering.{gathered, blank, run}
use Rattle.mes_fixed.proofs.Reading.{run_step, spelt_run, final_run}

-- the text is a part with the property P, then a part with the property Q
pub record Then (P Q : List ℕ → Type 0) (text : List ℕ) : Type 0 where
  pub front : List ℕ
  pub back : List ℕ
  pub is : text ≡ front ++ back
  pub first : P front
  pub second : Q back

-- [ exp ]
abbrev IsEnd : List ℕ → Type 0
IsEnd text = (lowers : Bool) × (power : List ℕ) × IsExp lowers power text

-- [ frac ]
abbrev HasFrac : List ℕ → Type 0
HasFrac text = (fraction : List ℕ) × IsFrac fraction text

-- [ frac ] [ exp ]
abbrev IsTail : List ℕ → Type 0
IsTail = Then HasFrac IsEnd

-- [ minus / plus ]
abbrev HasSign : List ℕ → Type 0
HasSign text = (lowers : Bool) × IsSign lowers text

-- the texts with which a number can go on after a state of the automaton
abbrev Following : NumberState → List ℕ → Type 0
Following AtStart text = IsNumber text
Following AfterMinus text = Then IsInt IsTail text
Following AfterZero text = IsTail text
Following InWhole text = Then (AllDigits 10) IsTail text
Following AfterPoint text = Then (IsNumeral 10) IsEnd text
Following InFraction text = Then (AllDigits 10) IsEnd text
Following AfterExponent text = Then HasSign (IsNumeral 10) text
Following AfterSign text = IsNumeral 10 text
Following InExponent text = AllDigits 10 text

-- the texts that may follow in the next state, if there is one
abbrev BehindNext : Option NumberState → List ℕ → Type 0
BehindNext None text = ⊥
BehindNext (Some next) text = Following next text

no_end : IsEnd []
no_end = (false, [], (refl, refl))

no_tail : IsTail []
no_tail = record { front = []; back = []; is = refl; first = ([], refl); second = no_end }

no_digits : {Q : List ℕ → Type 0} → Q [] → Then (AllDigits 10) Q []
no_digits q = record { front = []; back = []; is = refl; first = tt; second = q }

behind_final : (part : NumberState) → is_final part ≡ true → Following part []
behind_final AfterZero h = no_tail
behind_final InWhole h = no_digits no_tail
behind_final InFraction h = no_digits no_end
behind_final InExponent h = tt
behind_final _ h = absurd (cc)

digit_of_nought : (c : ℕ) → c ≡ 48 → digit_value c < 10
digit_of_nought c e = digit_is_value c (omega arith) (omega arith)

more_digits : {Q : List ℕ → Type 0} (c : ℕ) (text : List ℕ) → digit_value c < 10 → Then (AllDigits 10) Q text → Then (AllDigits 10) Q (c ∷ text)
more_digits c text d h = record { front = c ∷ h.front; back = h.back; is = ap (λ (w : List ℕ). c ∷ w) h.is; first = (d, h.first); second = h.second }

first_digit : {Q : List ℕ → Type 0} (c : ℕ) (text : List ℕ) → digit_value c < 10 → Then (AllDigits 10) Q text → Then (IsNumeral 10) Q (c ∷ text)
first_digit c text d h = record { front = c ∷ h.front; back = h.back; is = ap (λ (w : List ℕ). c ∷ w) h.is; first = (omega arith, (d, h.first)); second = h.second }

zero_first : (c : ℕ) (text : List ℕ) → c ≡ 48 → IsTail text → Then IsInt IsTail (c ∷ text)
zero_first c text e h = record { front = c ∷ []; back = text; is = refl; first = inl (e, refl); second = h }

other_first : (c : ℕ) (text : List ℕ) → (49 ≤ c) × (c ≤ 57) → Then (AllDigits 10) IsTail text → Then IsInt IsTail (c ∷ text)
other_first c text e h = record { front = c ∷ h.front; back = h.back; is = ap (λ (w : List ℕ). c ∷ w) h.is; first = inr (e.0, e.1, h.first); second = h.second }

exp_end : (c : ℕ) (text : List ℕ) → (c ≡ 101) ⊎ (c ≡ 69) → Then HasSign (IsNumeral 10) text → IsEnd (c ∷ text)
exp_end c text e h = (h.first.0, h.back, power h.back h.second h.is)
  where
    power : (digits : List ℕ) → IsNumeral 10 digits → text ≡ h.front ++ digits → IsExp h.first.0 digits (c ∷ text)
    power [] n is = absurd (omega (arith, n.0))
    power (d ∷ ds) n is = record { e = c; sign = h.front; is = ap (λ (w : List ℕ). c ∷ w) is; is_e = e; is_sign = h.first.1; is_numeral = n }

exp_tail : (c : ℕ) (text : List ℕ) → (c ≡ 101) ⊎ (c ≡ 69) → Then HasSign (IsNumeral 10) text → IsTail (c ∷ text)
exp_tail c text e h = record { front = []; back = c ∷ text; is = refl; first = ([], refl); second = exp_end c text e h }

frac_tail : (c : ℕ) (text : List ℕ) → c ≡ 46 → Then (IsNumeral 10) IsEnd text → IsTail (c ∷ text)
frac_tail c text e h = record { front = c ∷ h.front; back = h.back; is = ap (λ (w : List ℕ). c ∷ w) h.is; first = (h.front, frac h.front h.first); second = h.second }
  where
    frac : (digits : List ℕ) → IsNumeral 10 digits → IsFrac digits (c ∷ digits)
    frac [] n = absurd (omega (arith, n.0))
    frac (d ∷ ds) n = (ap (λ (x : ℕ). x ∷ d ∷ ds) e, n.1)

nothing_first : {Q : List ℕ → Type 0} (text : List ℕ) → Q text → Then (AllDigits 10) Q text
nothing_first text q = record { front = []; back = text; is = refl; first = tt; second = q }

signed_number : (negative : Bool) (minus text : List ℕ) → IsMinus negative minus → Then IsInt IsTail text → IsNumber (minus ++ text)
signed_number negative minus text m h = (
  record { negative = negative; whole = h.front; fraction = h.second.first.0; lowers = h.second.second.0; power = h.second.second.1 },
  record { minus = minus; frac = h.second.front; exp = h.second.back; is = ap (λ (w : List ℕ). minus ++ w) (h.is ∙ ap (λ (w : List ℕ). h.front ++ w) h.second.is); is_minus = m; is_int = h.first; is_frac = h.second.first.1; is_exp = h.second.second.2 },
)

dash_first : (c : ℕ) (text : List ℕ) → c ≡ 45 → Then IsInt IsTail text → IsNumber (c ∷ text)
dash_first c text e h = signed_number true (c ∷ []) text (ap (λ (x : ℕ). x ∷ []) e) h

sign_first : (lowers : Bool) (c : ℕ) (text : List ℕ) → IsSign lowers (c ∷ []) → IsNumeral 10 text → Then HasSign (IsNumeral 10) (c ∷ text)
sign_first lowers c text s n = record { front = c ∷ []; back = text; is = refl; first = (lowers, s); second = n }

no_sign : (c : ℕ) (text : List ℕ) → digit_value c < 10 → AllDigits 10 text → Then HasSign (IsNumeral 10) (c ∷ text)
no_sign c text d h = record { front = []; back = c ∷ text; is = refl; first = (false, inl refl); second = (omega arith, (d, h)) }

-- a byte of the letter l, then a text that may follow in the next state, may follow in the state
-- `part`
behind_letter : (part : NumberState) (l : Letter) (c : ℕ) (text : List ℕ) → LetterIs l c → BehindNext (number_next part l) text → Following part (c ∷ text)
behind_letter AtStart nought c text e h = signed_number false [] (c ∷ text) refl (zero_first c text e h)
behind_letter AtStart digit c text e h = signed_number false [] (c ∷ text) refl (other_first c text e h)
behind_letter AtStart dash c text e h = dash_first c text e h
behind_letter AtStart _ c text e h = absurd h
behind_letter AfterMinus nought c text e h = zero_first c text e h
behind_letter AfterMinus digit c text e h = other_first c text e h
behind_letter AfterMinus _ c text e h = absurd h
behind_letter AfterZero point c text e h = frac_tail c text e h
behind_letter AfterZero exponent c text e h = exp_tail c text e h
behind_letter AfterZero _ c text e h = absurd h
behind_letter InWhole nought c text e h = more_digits c text (digit_of_nought c e) h
behind_letter InWhole digit c text e h = more_digits c text (digit_is_value c (omega arith) (omega arith)) h
behind_letter InWhole point c text e h = nothing_first (c ∷ text) (frac_tail c text e h)
behind_letter InWhole exponent c text e h = nothing_first (c ∷ text) (exp_tail c text e h)
behind_letter InWhole _ c text e h = absurd h
behind_letter AfterPoint nought c text e h = first_digit c text (digit_of_nought c e) h
behind_letter AfterPoint digit c text e h = first_digit c text (digit_is_value c (omega arith) (omega arith)) h
behind_letter AfterPoint _ c text e h = absurd h
behind_letter InFraction nought c text e h = more_digits c text (digit_of_nought c e) h
behind_letter InFraction digit c text e h = more_digits c text (digit_is_value c (omega arith) (omega arith)) h
behind_letter InFraction exponent c text e h = nothing_first (c ∷ text) (exp_end c text e h)
behind_letter InFraction _ c text e h = absurd h
behind_letter AfterExponent nought c text e h = no_sign c text (digit_of_nought c e) h
behind_letter AfterExponent digit c text e h = no_sign c text (digit_is_value c (omega arith) (omega arith)) h
behind_letter AfterExponent plus c text e h = sign_first false c text (inr (ap (λ (x : ℕ). x ∷ []) e)) h
behind_letter AfterExponent dash c text e h = sign_first true c text (ap (λ (x : ℕ). x ∷ []) e) h
behind_letter AfterExponent _ c text e h = absurd h
behind_letter AfterSign nought c text e h = (omega arith, (digit_of_nought c e, h))
behind_letter AfterSign digit c text e h = (omega arith, (digit_is_value c (omega arith) (omega arith), h))
behind_letter AfterSign _ c text e h = absurd h
behind_letter InExponent nought c text e h = (digit_of_nought c e, h)
behind_letter InExponent digit c text e h = (digit_is_value c (omega arith) (omega arith), h)
behind_letter InExponent _ c text e h = absurd h

ends_behind : (part : NumberState) (text : List ℕ) → Ends part text → Following part text
ends_behind part [] h = behind_final part h
ends_behind part (c ∷ text) h =
    let next : BehindNext (number_next part (letter_of c)) text = rw h.1 (ends_behind h.0 text h.2) in
    behind_letter part (letter_of c) c text (letter_is c) next

pub number_from_ends : (text : List ℕ) → Ends AtStart text → IsNumber text
number_from_ends text h = ends_behind AtStart text h

pub ends_run : (part : NumberState) (n m : Numeral) (text : List ℕ) → run part n text ≡ Some m → Ends part text
ends_run part n m [] h = final_some (is_final part) h
  where
    final_some : (b : Bool) → (if b then Some n else None) ≡ Some m → b ≡ true
    final_some true e = refl
    final_some false e = absurd (cc)
ends_run part n m (c ∷ text) h =
    option_and_then_some (λ (p : NumberState). run p (gathered p c n) text) (number_next part (letter_of c)) m h
    (λ next e r. (next, e, ends_run next (gathered next c n) m text r))

pub run_from_ends : (part : NumberState) (n : Numeral) (text : List ℕ) → Ends part text → (m : Numeral) × (run part n text ≡ Some m)
run_from_ends part n [] h = (n, rw h refl)
run_from_ends part n (c ∷ text) h =
    let rest = run_from_ends h.0 (gathered h.0 c n) text h.2 in
    (rest.0, run_step part h.0 n c text h.1 ∙ rest.1)

pub ends_from_number : (text : List ℕ) → IsNumber text → Ends AtStart text
ends_from_number text h = ends_run AtStart blank h.0 text (spelt_run text h.0 h.1)

pub number_ends : (text : List ℕ) → IsNumber text ↔ Ends AtStart text
number_ends text = (ends_from_number text, number_from_ends text)

-- if a number cannot end in the state, one more zero ends it
pub ended_by_zero : (part : NumberState) → is_final part ≡ false → Ends part (48 ∷ [])
ended_by_zero AtStart h = (AfterZero, refl, refl)
ended_by_zero AfterMinus h = (AfterZero, refl, refl)
ended_by_zero AfterPoint h = (InFraction, refl, refl)
ended_by_zero AfterExponent h = (InExponent, refl, refl)
ended_by_zero AfterSign h = (InExponent, refl, refl)
ended_by_zero _ h = absurd (cc)

pub spells_once : (text : List ℕ) (m n : Numeral) → Spells text m → Spells text n → m ≡ n
spells_once text m n hm hn = let e : Some m ≡ Some n = sym (spelt_run text m hm) ∙ spelt_run text n hn in cc

-- if the bytes of a text collect to the numeral n, the text spells n
pub spelt_from_run : (text : List ℕ) (n : Numeral) → run AtStart blank text ≡ Some n → Spells text n
spelt_from_run text n h =
    let number = number_from_ends text (ends_run AtStart blank n text h) in
    let e : Some number.0 ≡ Some n = sym (spelt_run text number.0 number.1) ∙ h in
    let same : number.0 ≡ n = cc in
    subst (λ (m : Numeral). Spells text m) same number.1

-- for a loop over the text: it is no number if a byte has no next state, and `is_final` decides at
-- its end
pub no_number : (text : List ℕ) (i : ℕ) (part : NumberState) → (Ends AtStart text ↔ Ends part (drop i text)) → i < length text → number_next part (letter_of (get_or text i 0)) ≡ None → IsTrue false ↔ IsNumber text
no_number text i part h lt none = (λ e. absurd (cc), λ number. absurd (refused (h.0 (ends_from_number text number))))
  where
    refused : Ends part (drop i text) → ⊥
    refused r =
        let rest : Ends part (get_or text i 0 ∷ drop (suc i) text) = subst (Ends part) (drop-cons text i 0 lt) r in
        let e = rest.1 in cc

pub end_number : (text : List ℕ) (i : ℕ) (part : NumberState) (b : Bool) → (Ends AtStart text ↔ Ends part (drop i text)) → length text ≤ i → b ≡ is_final part → IsTrue b ↔ IsNumber text
end_number text i part b h le e =
    let none : drop i text ≡ [] = drop_of_length-le text le in
    let at_end : Ends AtStart text ↔ (is_final part ≡ true) = subst (λ (rest : List ℕ). Ends AtStart text ↔ Ends part rest) none h in
    (λ t. number_from_ends text (at_end.1 (sym e ∙ t)), λ number. e ∙ at_end.0 (ends_from_number text number))

-- like `no_number` and `end_number`, for a loop that also collects the parts of the number
pub stuck_run : (text : List ℕ) (i : ℕ) (part : NumberState) (n : Numeral) → run AtStart blank text ≡ run part n (drop i text) → i < length text → number_next part (letter_of (get_or text i 0)) ≡ None → ¬ (IsNumber text)
stuck_run text i part n h lt none = λ number.
    let step : run part n (get_or text i 0 ∷ drop (suc i) text) ≡ None = ap (option_and_then (λ (p : NumberState). run p (gathered p (get_or text i 0) n) (drop (suc i) text))) none in
    let e : Some number.0 ≡ None = sym (spelt_run text number.0 number.1) ∙ h ∙ ap (run part n) (drop-cons text i 0 lt) ∙ step in
    cc

pub more_run : (text : List ℕ) (i : ℕ) (part next : NumberState) (n : Numeral) → run AtStart blank text ≡ run part n (drop i text) → i < length text → number_next part (letter_of (get_or text i 0)) ≡ Some next → run AtStart blank text ≡ run next (gathered next (get_or text i 0) n) (drop (i + 1) text)
more_run text i part next n h lt e =
    h ∙ ap (run part n) (drop-cons text i 0 lt) ∙ run_step part next n (get_or text i 0) (drop (suc i) text) e
    ∙ ap (λ (k : ℕ). run next (gathered next (get_or text i 0) n) (drop k text)) (sym (add-one i))

pub end_run : (text : List ℕ) (i : ℕ) (part : NumberState) (n : Numeral) → run AtStart blank text ≡ run part n (drop i text) → length text ≤ i → is_final part ≡ true → Spells text n
end_run text i part n h le e = spelt_from_run text n (h ∙ ap (run part n) (drop_of_length-le text le) ∙ final_run part n e)

pub no_end_run : (text : List ℕ) (i : ℕ) (part : NumberState) (n : Numeral) → run AtStart blank text ≡ run part n (drop i text) → length text ≤ i → is_final part ≡ false → ¬ (IsNumber text)
no_end_run text i part n h le e = λ number.
    let none : run part n [] ≡ None = rw e refl in
    let s : Some number.0 ≡ None = sym (spelt_run text number.0 number.1) ∙ h ∙ ap (run part n) (drop_of_length-le text le) ∙ none in
    cc
