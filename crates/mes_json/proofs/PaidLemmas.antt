-- Each byte adds at most its cost to the bytes and nodes of a state: lemmas for all steps.
use Rattle.std.proofs.Common.{◌≡◌, ◌≢◌, ℕ, ◌+◌, ◌≤◌, inl, inr, true, false, ◌||◌, List, [], ◌∷◌, ◌++◌, length, Option, Some, None, ◌==◌, refl, ap, sym, ◌∙◌, arith, eqb-true}
use Rattle.std.specs.List.{AllByRecursion}
use Rattle.std.proofs.lemmas.Bool.{cond_both, eqb-false}
use Rattle.std.proofs.lemmas.Bool.Decides.{nat_tests}
use Rattle.mes_fixed.specs.Automaton.{Letter, nought, digit, point, exponent, plus, dash, neither, letter_of, number_next}
use Rattle.mes_fixed.specs.declared.automaton.NumberState.{NumberState}
use Rattle.mes_fixed.specs.declared.automaton.NumberState.TheVariants.{AtStart, AfterMinus, AfterZero, InWhole, AfterPoint, InFraction, AfterExponent, AfterSign, InExponent}
use Rattle.mes_fixed.proofs.Letters.{LetterIs, letter_is}
use Rattle.mes_json.specs.Tree.Tree.{null, boolean}
use Rattle.mes_json.specs.Inner.{Stand, is_of_number, following}
use Rattle.mes_json.specs.Inner.Stand.{outside, inside, escaped}
use Rattle.mes_json.specs.Escape.{Escape}
use Rattle.mes_json.specs.Escape.Escape.{backslash, unit0, unit1, unit2, unit3, high, high_backslash, low0, low1, low2, low3}
use Rattle.mes_json.specs.Machine.{ByteClass, Token, Utf8State, ReaderState, State, kind_unless, kind_of}
use Rattle.mes_json.specs.Machine.ByteClass.{blank, quote, opening, closing, opening_array, closing_array, colon, comma, other, begins}
use Rattle.mes_json.specs.Machine.Token.{literal, digits}
use Rattle.mes_json.specs.Machine.Utf8State.{between, within, escape}
use Rattle.mes_json.specs.Machine.ReaderState.{value, first_item, name, quoted, named, token, after}
use Rattle.mes_json.specs.Machine.State.{state}
use Rattle.mes_json.proofs.SoundLemmas.{none_some, choose}
use Rattle.mes_json.proofs.MeasureLemmas.{Measure, of_tree, of_state}

abbrev pub stand_in_escape : Escape → Stand
stand_in_escape backslash = escaped
stand_in_escape unit0 = inside
stand_in_escape (unit1 v) = inside
stand_in_escape (unit2 v) = inside
stand_in_escape (unit3 v) = inside
stand_in_escape (high h) = inside
stand_in_escape (high_backslash h) = escaped
stand_in_escape (low0 h) = inside
stand_in_escape (low1 h) = inside
stand_in_escape (low2 h v) = inside
stand_in_escape (low3 h v) = inside

abbrev pub stand_in : Utf8State → Stand
stand_in between = inside
stand_in (within n least most) = inside
stand_in (escape e) = stand_in_escape e

abbrev pub stand_at : ReaderState → Stand
stand_at value = outside
stand_at first_item = outside
stand_at (name ms) = outside
stand_at (quoted p m s) = stand_in m
stand_at (named ms k) = outside
stand_at (token x) = outside
stand_at (after t) = outside

abbrev pub stand_of : State → Stand
stand_of (state fs a) = stand_at a

-- the bytes left of a literal have no quotation mark, and the measure counts the literal as one
-- mark
abbrev pub IsSoundToken : Measure → Token → Type 0
IsSoundToken m (literal e rest t) = (e ≢ 34) × AllByRecursion (λ c. c ≢ 34) rest × (of_tree m t ≡ m.mark)
IsSoundToken m (digits part n) = Unit {0}

-- the next byte of an unfinished character is above ASCII
abbrev pub IsSoundMid : Utf8State → Type 0
IsSoundMid between = Unit {0}
IsSoundMid (within n least most) = 128 ≤ least
IsSoundMid (escape e) = Unit {0}

abbrev pub IsSoundAt : Measure → ReaderState → Type 0
IsSoundAt m value = Unit {0}
IsSoundAt m first_item = Unit {0}
IsSoundAt m (name ms) = Unit {0}
IsSoundAt m (quoted p mid s) = IsSoundMid mid
IsSoundAt m (named ms k) = Unit {0}
IsSoundAt m (token x) = IsSoundToken m x
IsSoundAt m (after t) = Unit {0}

abbrev pub IsSound : Measure → State → Type 0
IsSound m (state fs a) = IsSoundAt m a

-- `cost` is high enough for m: at each position, a byte's cost covers what the byte can add to m
pub record Pays (m : Measure) (cost : Stand → ℕ → ℕ) : Type 0 where
  pub none : m.text [] ≤ cost outside 34
  pub one : (c : ℕ) → m.text (c ∷ []) ≤ 1
  pub more : (s t : List ℕ) → m.text (s ++ t) ≤ m.text s + length t
  pub mark : (c : ℕ) → m.mark ≤ cost outside c
  pub in_number : (c : ℕ) → is_of_number c ≡ true → 1 ≤ cost outside c
  pub in_string : (c : ℕ) → c ≢ 34 → 1 ≤ cost inside c
  pub in_escape : (c : ℕ) → 1 ≤ cost escaped c

-- the byte c leads from s to `next`, and adds at most the cost of c to the measure
abbrev pub Paid : Measure → (Stand → ℕ → ℕ) → ℕ → State → State → Type 0
Paid m cost c s next = (stand_of next ≡ following (stand_of s) c) × (of_state m next ≤ of_state m s + cost (stand_of s) c) × IsSound m next

-- after a byte outside strings that is not a quotation mark, the next byte is outside strings too
pub stays : (c : ℕ) → c ≢ 34 → outside ≡ following outside c
stays c no_quote = cond_both (c == 34) inside outside (λ x. outside ≡ x) (λ e. absurd (no_quote (eqb-true c 34 e))) (λ _. refl)

letter_counts : (part next : NumberState) (l : Letter) (c : ℕ) → LetterIs l c → number_next part l ≡ Some next → is_of_number c ≡ true
letter_counts part next nought c is e = ap is_of_number is
letter_counts part next digit c is e = grind (arith, nat_tests)
letter_counts part next point c is e = ap is_of_number is
letter_counts part next exponent c (inl is) e = ap is_of_number is
letter_counts part next exponent c (inr is) e = ap is_of_number is
letter_counts part next plus c is e = ap is_of_number is
letter_counts part next dash c is e = ap is_of_number is
letter_counts AtStart next neither c is e = none_some e
letter_counts AfterMinus next neither c is e = none_some e
letter_counts AfterZero next neither c is e = none_some e
letter_counts InWhole next neither c is e = none_some e
letter_counts AfterPoint next neither c is e = none_some e
letter_counts InFraction next neither c is e = none_some e
letter_counts AfterExponent next neither c is e = none_some e
letter_counts AfterSign next neither c is e = none_some e
letter_counts InExponent next neither c is e = none_some e

-- a byte with which a number goes on is one of those that `is_of_number` accepts
pub number_counts : (part next : NumberState) (c : ℕ) → number_next part (letter_of c) ≡ Some next → is_of_number c ≡ true
number_counts part next c e = letter_counts part next (letter_of c) c (letter_is c) e

pub foreign : (c : ℕ) → is_of_number c ≡ true → c ≢ 34
foreign c counts is = let no : false ≡ true = ap is_of_number (sym is) ∙ counts in cc

abbrev pub IsBegun : Measure → Token → ℕ → Type 0
IsBegun m (literal e rest t) c = IsSoundToken m (literal e rest t)
IsBegun m (digits part n) c = (is_of_number c ≡ true) × (n ≡ c ∷ [])

abbrev pub Reports : Measure → ByteClass → ℕ → Type 0
Reports m blank c = c ≢ 34
Reports m quote c = c ≡ 34
Reports m opening c = c ≢ 34
Reports m closing c = c ≢ 34
Reports m opening_array c = c ≢ 34
Reports m closing_array c = c ≢ 34
Reports m colon c = c ≢ 34
Reports m comma c = c ≢ 34
Reports m other c = c ≢ 34
Reports m (begins x) c = (c ≢ 34) × IsBegun m x c

null_sound : (m : Measure) → IsSoundToken m (literal 0x75 (0x6C ∷ 0x6C ∷ []) null)
null_sound m = ((λ q. cc), ((λ q. cc), ((λ q. cc), tt)), refl)

true_sound : (m : Measure) → IsSoundToken m (literal 0x72 (0x75 ∷ 0x65 ∷ []) (boolean true))
true_sound m = ((λ q. cc), ((λ q. cc), ((λ q. cc), tt)), refl)

false_sound : (m : Measure) → IsSoundToken m (literal 0x61 (0x6C ∷ 0x73 ∷ 0x65 ∷ []) (boolean false))
false_sound m = ((λ q. cc), ((λ q. cc), ((λ q. cc), ((λ q. cc), tt))), refl)

kind_unless_tells : (m : Measure) (c : ℕ) (o : Option NumberState) → number_next AtStart (letter_of c) ≡ o → Reports m (kind_unless c o) c
kind_unless_tells m c (Some part) e = let counts = number_counts AtStart part c e in (foreign c counts, (counts, refl))
kind_unless_tells m c None e =
    let P = λ (k : ByteClass). Reports m k c in
    choose P (c == 34) quote _ (λ e. eqb-true c 34 e) (λ e. let n : c ≢ 34 = eqb-false c 34 e in
    choose P (c == 32 || c == 9 || c == 10 || c == 13) blank _ (λ _. n) (λ _.
    choose P (c == 123) opening _ (λ _. n) (λ _.
    choose P (c == 125) closing _ (λ _. n) (λ _.
    choose P (c == 91) opening_array _ (λ _. n) (λ _.
    choose P (c == 93) closing_array _ (λ _. n) (λ _.
    choose P (c == 58) colon _ (λ _. n) (λ _.
    choose P (c == 44) comma _ (λ _. n) (λ _.
    choose P (c == 0x6E) (begins (literal 0x75 (0x6C ∷ 0x6C ∷ []) null)) _ (λ _. (n, null_sound m)) (λ _.
    choose P (c == 0x74) (begins (literal 0x72 (0x75 ∷ 0x65 ∷ []) (boolean true))) _ (λ _. (n, true_sound m)) (λ _.
    choose P (c == 0x66) (begins (literal 0x61 (0x6C ∷ 0x73 ∷ 0x65 ∷ []) (boolean false))) other (λ _. (n, false_sound m)) (λ _. n)))))))))))

pub kind_tells : (m : Measure) (c : ℕ) → Reports m (kind_of c) c
kind_tells m c = kind_unless_tells m c (number_next AtStart (letter_of c)) refl
