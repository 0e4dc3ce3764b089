-- The results of `Fixed::read`, `read_u64` and `read_i32`, from the parts that the code collects.
use Rattle.std.proofs.Common.{◌≡◌, ℕ, suc, ◌+◌, ◌-◌, ◌*◌, ◌^◌, ◌<◌, ◌≤◌, ◌≢◌, inl, inr, Bool, true, false, List, [], ◌∷◌, ◌++◌, length, sym, ◌∙◌, ap, subst, arith, lit<, lit≤, ℤ, pos, negsuc, ◌+ℤ◌, ◌-ℤ◌, ◌↔◌, Ok, Err, Result, length-append}
use Rattle.std.specs.Prelude.{min, IfOk, IfErr, FitsSigned, IfSome, IfNone, Option, Some, None}
use Rattle.std.specs.Option.{ok_or}
use Rattle.std.specs.Int.{w32}
use Rattle.std.proofs.lemmas.Int.{ints}
use Rattle.std.specs.Str.Parse.{AllDigits, digits_value}
use Rattle.std.proofs.lemmas.Int.Digits.{digits_value-lt}
use Rattle.std.proofs.Math.Nat.{mul-le-mul_right, one-le-pow, pow-le-pow_right}
use Rattle.mes_fixed.specs.declared.limits.TheConstants.{MAX_UNITS}
use Rattle.mes_fixed.specs.declared.fault.NumFault.{NumFault}
use Rattle.mes_fixed.specs.declared.fault.NumFault.TheVariants.{TooLong, Shape, Range}
use Rattle.mes_fixed.specs.declared.decimal.Decimal.{Decimal}
use Rattle.mes_fixed.specs.Number.{Numeral, Spells, IsInt, IsFrac}
use Rattle.mes_fixed.specs.Value.{mantissa, exponent, signed, HalfUp, Nearest, Rounds, Whole, Reads, Refuses, GivesUnits, GivesWhole, GivesSigned, LacksUnits, LacksWhole, LacksSigned, IsBelowZero}
use Rattle.mes_fixed.specs.Decimal.{raise, lower, IsDecimal, value, multiplied, divisor}
use Rattle.mes_fixed.proofs.Letters.{digit_is_value}
use Rattle.mes_fixed.proofs.Grammar.{spells_once}
use Rattle.mes_fixed.proofs.DigitValues.{digits_append}
use Rattle.mes_fixed.proofs.Scales.{shift_is, base_is, nearest_iff, whole_iff, half_capped, whole_capped, AreFew, FAR, half_up_once, half_up_some, cases_le}

-- ---- the digits of int and frac: all are decimal, and they are no more than the text's bytes

int_digits : (whole : List ℕ) → IsInt whole → AllDigits 10 whole
int_digits [] h = absurd h
int_digits (d ∷ ds) (inl h) = (digit_is_value d (omega (arith, h.0)) (omega (arith, h.0)), rw h.1 tt)
int_digits (d ∷ ds) (inr h) = (digit_is_value d (omega (arith, h.0)) h.1, h.2)

frac_digits : (fraction frac : List ℕ) → IsFrac fraction frac → AllDigits 10 fraction × (length fraction ≤ length frac)
frac_digits [] frac h = (tt, omega arith)
frac_digits (d ∷ ds) frac h = let len = ap (length {A = ℕ}) h.0 in (h.1, omega (arith, len))

pub number_digits : (text : List ℕ) (n : Numeral) → Spells text n → AllDigits 10 (n.whole ++ n.fraction)
number_digits text n h = digits_append n.whole n.fraction (int_digits n.whole h.is_int) (frac_digits n.fraction h.frac h.is_frac).0

digits_short : (text : List ℕ) (n : Numeral) → Spells text n → length (n.whole ++ n.fraction) ≤ length text
digits_short text n h =
    let all = ap (length {A = ℕ}) h.is ∙ length-append h.minus (n.whole ++ (h.frac ++ h.exp)) in
    let rest = length-append n.whole (h.frac ++ h.exp) in
    let tail = length-append h.frac h.exp in
    let fraction = (frac_digits n.fraction h.frac h.is_frac).1 in
    omega (arith, all, rest, tail, fraction, length-append n.whole n.fraction)

pub few_digits : (text : List ℕ) (n : Numeral) (places : ℕ) → Spells text n → length text ≤ 64 → places ≤ 6 → AreFew (mantissa n) (length n.fraction) places
few_digits text n places h short le =
    let len = digits_short text n h in
    let below = digits_value-lt 10 (n.whole ++ n.fraction) (number_digits text n h) in
    let len64 : length (n.whole ++ n.fraction) ≤ 64 = omega arith in
    let power : 10 ^ length (n.whole ++ n.fraction) ≤ 10 ^ 64 = pow-le-pow_right {n = 10} (lit< tt) len64 in
    record { few = omega (arith, below, power); following = omega (arith, len, length-append n.whole n.fraction); short = le }

-- ---- the collected parts of a text have the value of its numeral

multiplied_is : (n : Numeral) (d : Decimal) (places : ℕ) → IsDecimal n d → multiplied d places ≡ mantissa n * 10 ^ (raise n.lowers (min 100 (digits_value 10 n.power)) places - lower n.lowers (min 100 (digits_value 10 n.power)) (length n.fraction))
multiplied_is n d places h = let v = ap (digits_value 10) h.digits in let x = h.exponent in let f = h.fraction_digits in let l = h.lowers in cc

divisor_is : (n : Numeral) (d : Decimal) (places : ℕ) → IsDecimal n d → divisor d places ≡ 10 ^ (lower n.lowers (min 100 (digits_value 10 n.power)) (length n.fraction) - raise n.lowers (min 100 (digits_value 10 n.power)) places)
divisor_is n d places h = let x = h.exponent in let f = h.fraction_digits in let l = h.lowers in cc

-- the `Decimal` d represents the numeral n, and n has the digit counts of a text of 64 bytes
pub record Stand (n : Numeral) (d : Decimal) (places : ℕ) : Type 0 where
  pub few : AreFew (mantissa n) (length n.fraction) places
  pub kept : IsDecimal n d

pub rounds_iff : (n : Numeral) (d : Decimal) (places u : ℕ) → Stand n d places → u < FAR → Rounds (mantissa n) (exponent n) places u ↔ HalfUp (multiplied d places) (divisor d places) u
rounds_iff n d places u h lt =
    let x = digits_value 10 n.power in
    let f = length n.fraction in
    let N : ℤ → Type 0 = λ z. Nearest (mantissa n) z u in
    let near = nearest_iff (mantissa n) (raise n.lowers x places) (lower n.lowers x f) u in
    let cap = half_capped n.lowers (mantissa n) f places x u h.few lt in
    let shift = shift_is n.lowers x f places in
    let M : ℕ → Type 0 = λ m. HalfUp m (10 ^ (lower n.lowers (min 100 x) f - raise n.lowers (min 100 x) places)) u in
    let W : ℕ → Type 0 = λ w. HalfUp (multiplied d places) w u in
    let m = multiplied_is n d places h.kept in
    let w = divisor_is n d places h.kept in (
      λ r. subst W (sym w) (subst M (sym m) (cap.0 (near.0 (subst N shift r)))),
      λ r. subst N (sym shift) (near.1 (cap.1 (subst M m (subst W w r)))),
    )

pub wholes_iff : (n : Numeral) (d : Decimal) (v : ℕ) → Stand n d 0 → v < FAR → Whole (mantissa n) (exponent n) v ↔ (multiplied d 0 ≡ v * divisor d 0)
wholes_iff n d v h lt =
    let x = digits_value 10 n.power in
    let f = length n.fraction in
    let N : ℤ → Type 0 = λ z. Whole (mantissa n) z v in
    let whole = whole_iff (mantissa n) (raise n.lowers x 0) (lower n.lowers x f) v in
    let cap = whole_capped n.lowers (mantissa n) f x v h.few lt in
    let shift : exponent n ≡ (pos (raise n.lowers x 0) -ℤ pos (lower n.lowers x f)) = base_is n.lowers x f in
    let m = multiplied_is n d 0 h.kept in
    let w = ap (λ (k : ℕ). v * k) (divisor_is n d 0 h.kept) in (
      λ r. m ∙ cap.0 (whole.0 (subst N shift r)) ∙ sym w,
      λ r. subst N (sym shift) (whole.1 (cap.1 (sym m ∙ r ∙ w))),
    )

-- ---- a text has at most one value

pub one_answer : {X : Type 0} (Gives : Numeral → X → Type 0) (Lacks : Numeral → Type 0) → ((n : Numeral) (a b : X) → Gives n a → Gives n b → a ≡ b) → ((n : Numeral) (a : X) → Gives n a → Lacks n → ⊥) → (text : List ℕ) (r : Result X NumFault) → IfOk r (Reads Gives text) → IfErr r (Refuses Lacks text) → (k : X) → Reads Gives text k → r ≡ Ok k
one_answer {X} Gives Lacks once never text (Ok x) ok err k h =
    let same = spells_once text ok.numeral h.numeral ok.spells h.spells in
    let gives : Gives h.numeral x = subst (λ (n : Numeral). Gives n x) same ok.gives in
    let equal = once h.numeral x k gives h.gives in
    let O : X → Result X NumFault = λ y. Ok y in
    ap O equal
one_answer Gives Lacks once never text (Err TooLong) ok err k h = absurd (omega (arith, err, h.short))
one_answer Gives Lacks once never text (Err Shape) ok err k h = absurd (err.1 (h.numeral, h.spells))
one_answer Gives Lacks once never text (Err Range) ok err k h =
    let same = spells_once text h.numeral err.1.0 h.spells err.1.1 in
    absurd (never err.1.0 k (subst (λ (n : Numeral). Gives n k) same h.gives) err.1.2)

nearest_once : (m : ℕ) (z : ℤ) (a b : ℕ) → Nearest m z a → Nearest m z b → a ≡ b
nearest_once m (pos k) a b ha hb = ha ∙ sym hb
nearest_once m (negsuc k) a b ha hb = half_up_once m (10 ^ suc k) a b ha hb

units_once : (places : ℕ) (n : Numeral) (a b : ℕ) → GivesUnits places n a → GivesUnits places n b → a ≡ b
units_once places n a b ha hb = nearest_once (mantissa n) (exponent n +ℤ pos places) a b ha.rounds hb.rounds

units_never : (places : ℕ) (n : Numeral) (a : ℕ) → GivesUnits places n a → LacksUnits places n → ⊥
units_never places n a h (inl b) = b.1 (h.unsigned b.0)
units_never places n a h (inr b) = let e = nearest_once (mantissa n) (exponent n +ℤ pos places) a b.0 h.rounds b.1 in let le = h.fits in omega (arith, b.2)

pub units_only : (places : ℕ) (text : List ℕ) (r : Result ℕ NumFault) → IfOk r (Reads (GivesUnits places) text) → IfErr r (Refuses (LacksUnits places) text) → (k : ℕ) → Reads (GivesUnits places) text k → r ≡ Ok k
units_only places text r ok err k h = one_answer (GivesUnits places) (LacksUnits places) (units_once places) (units_never places) text r ok err k h

-- ---- the results of `Fixed::read`

represents : (text : List ℕ) (d : Decimal) (places : ℕ) → (h : Reads IsDecimal text d) → places ≤ 6 → Stand h.numeral d places
represents text d places h le = record { few = few_digits text h.numeral places h.spells h.short le; kept = h.gives }

pub decimal_digits : (text : List ℕ) (d : Decimal) → Reads IsDecimal text d → AllDigits 10 d.digits.items
decimal_digits text d h = subst (AllDigits 10) (sym h.gives.digits) (number_digits text h.numeral h.spells)

value_is : (n : Numeral) (d : Decimal) → IsDecimal n d → value d ≡ mantissa n
value_is n d h = ap (digits_value 10) h.digits

below_zero : (text : List ℕ) (d : Decimal) → (h : Reads IsDecimal text d) → (d.negative ≡ true) × (value d ≢ 0) → IsBelowZero h.numeral
below_zero text d h b = (sym h.gives.negative ∙ b.0, λ z. b.1 (value_is h.numeral d h.gives ∙ z))

pub units_below_zero : (places : ℕ) (text : List ℕ) (d : Decimal) → Reads IsDecimal text d → (d.negative ≡ true) × (value d ≢ 0) → Refuses (LacksUnits places) text Range
units_below_zero places text d h b = (h.short, (h.numeral, h.spells, inl (below_zero text d h b)))

unsigned : (text : List ℕ) (d : Decimal) → (h : Reads IsDecimal text d) → ((d.negative ≡ true) × (value d ≢ 0) → ⊥) → h.numeral.negative ≡ true → mantissa h.numeral ≡ 0
unsigned text d h b t = zero_from (mantissa h.numeral) (λ z. b (h.gives.negative ∙ t, λ e. z (sym (value_is h.numeral d h.gives) ∙ e)))
  where
    zero_from : (v : ℕ) → ((v ≢ 0) → ⊥) → v ≡ 0
    zero_from v not = elim (cases_le v 0) [ inl le ↦ omega arith | inr lt ↦ absurd (not (λ e. omega arith)) ]

pub units_given : (places : ℕ) (text : List ℕ) (d : Decimal) (u : ℕ) → Reads IsDecimal text d → places ≤ 6 → ((d.negative ≡ true) × (value d ≢ 0) → ⊥) → HalfUp (multiplied d places) (divisor d places) u → u ≤ MAX_UNITS → Reads (GivesUnits places) text u
units_given places text d u h le b half fits = record {
  short = h.short;
  numeral = h.numeral;
  spells = h.spells;
  gives = record { unsigned = unsigned text d h b; rounds = (rounds_iff h.numeral d places u (represents text d places h le) (omega (arith, fits))).1 half; fits = fits };
}

pub units_above : (places : ℕ) (text : List ℕ) (d : Decimal) (u : ℕ) → Reads IsDecimal text d → places ≤ 6 → HalfUp (multiplied d places) (divisor d places) u → MAX_UNITS < u → Refuses (LacksUnits places) text Range
units_above places text d u h le half over =
    let n = h.numeral in
    let x = digits_value 10 n.power in
    let f = length n.fraction in
    let w = one-le-pow (lower n.lowers x f - raise n.lowers x places) 10 (lit< tt) in
    let some = half_up_some (mantissa n * 10 ^ (raise n.lowers x places - lower n.lowers x f)) (10 ^ (lower n.lowers x f - raise n.lowers x places)) w in
    let N : ℤ → Type 0 = λ z. Nearest (mantissa n) z some.0 in
    let rounds : Rounds (mantissa n) (exponent n) places some.0 = subst N (sym (shift_is n.lowers x f places)) ((nearest_iff (mantissa n) (raise n.lowers x places) (lower n.lowers x f) some.0).1 some.1) in
    let above : MAX_UNITS < some.0 = elim (cases_le some.0 MAX_UNITS) [
      | inl small ↦
          let kept = (rounds_iff n d places some.0 (represents text d places h le) (omega (arith, small))).0 rounds in
          let same = half_up_once (multiplied d places) (divisor d places) some.0 u kept half in
          absurd (omega (arith, same, small, over))
      | inr large ↦ large
    ] in
    (h.short, (h.numeral, h.spells, inr (some.0, rounds, above)))

pub units_huge : (places : ℕ) (text : List ℕ) (d : Decimal) → Reads IsDecimal text d → places ≤ 6 → (u : ℕ) × HalfUp (multiplied d places) (divisor d places) u × (2 ^ 64 ≤ u) → Refuses (LacksUnits places) text Range
units_huge places text d h le huge = units_above places text d huge.0 h le huge.1 (omega (arith, huge.2))

-- ---- the results of `read_u64`

whole_once : (m : ℕ) (z : ℤ) (a b : ℕ) → Whole m z a → Whole m z b → a ≡ b
whole_once m (pos k) a b ha hb = ha ∙ sym hb
whole_once m (negsuc k) a b ha hb = cancelled (10 ^ suc k) (one-le-pow (suc k) 10 (lit< tt)) (sym ha ∙ hb)
  where
    cancelled : (w : ℕ) → 1 ≤ w → a * w ≡ b * w → a ≡ b
    cancelled w h e = elim (cases_le a b) [
      | inl le ↦ elim (cases_le b a) [
        | inl ge ↦ omega arith
        | inr lt ↦ let more : (a + 1) * w ≤ b * w = mul-le-mul_right w (omega arith) in absurd (omega (arith, more, e))
      ]
      | inr lt ↦ let more : (b + 1) * w ≤ a * w = mul-le-mul_right w (omega arith) in absurd (omega (arith, more, e))
    ]

number_once : (n : Numeral) (a b : ℕ) → GivesWhole n a → GivesWhole n b → a ≡ b
number_once n a b ha hb = whole_once (mantissa n) (exponent n) a b ha.whole hb.whole

number_never : (n : Numeral) (a : ℕ) → GivesWhole n a → LacksWhole n → ⊥
number_never n a h (inl b) = b.1 (h.unsigned b.0)
number_never n a h (inr b) = let large = b a h.whole in let lt = h.fits in omega (arith, large, lt)

pub whole_only : (text : List ℕ) (r : Result ℕ NumFault) → IfOk r (Reads GivesWhole text) → IfErr r (Refuses LacksWhole text) → (k : ℕ) → Reads GivesWhole text k → r ≡ Ok k
whole_only text r ok err k h = one_answer GivesWhole LacksWhole number_once number_never text r ok err k h

pub whole_below_zero : (text : List ℕ) (d : Decimal) → Reads IsDecimal text d → (d.negative ≡ true) × (value d ≢ 0) → Refuses LacksWhole text Range
whole_below_zero text d h b = (h.short, (h.numeral, h.spells, inl (below_zero text d h b)))

pub whole_given : (text : List ℕ) (d : Decimal) (v : ℕ) → Reads IsDecimal text d → ((d.negative ≡ true) × (value d ≢ 0) → ⊥) → multiplied d 0 ≡ v * divisor d 0 → v < 2 ^ 64 → Reads GivesWhole text v
whole_given text d v h b whole fits = record {
  short = h.short;
  numeral = h.numeral;
  spells = h.spells;
  gives = record { unsigned = unsigned text d h b; whole = (wholes_iff h.numeral d v (represents text d 0 h (lit≤ tt)) (omega (arith, fits))).1 whole; fits = fits };
}

none_whole : (text : List ℕ) (d : Decimal) → (h : Reads IsDecimal text d) → ((v : ℕ) → multiplied d 0 ≡ v * divisor d 0 → 2 ^ 64 ≤ v) → (v : ℕ) → Whole (mantissa h.numeral) (exponent h.numeral) v → 2 ^ 64 ≤ v
none_whole text d h none v whole = elim (cases_le (2 ^ 64) v) [
  | inl le ↦ le
  | inr lt ↦ none v ((wholes_iff h.numeral d v (represents text d 0 h (lit≤ tt)) (omega (arith, lt))).0 whole)
]

pub whole_lacks : (text : List ℕ) (d : Decimal) → Reads IsDecimal text d → ((v : ℕ) → multiplied d 0 ≡ v * divisor d 0 → 2 ^ 64 ≤ v) → Refuses LacksWhole text Range
whole_lacks text d h none = (h.short, (h.numeral, h.spells, inr (none_whole text d h none)))

-- ---- the results of `read_i32`

signed_once : (n : Numeral) (a b : ℤ) → GivesSigned n a → GivesSigned n b → a ≡ b
signed_once n a b ha hb =
    let same = whole_once (mantissa n) (exponent n) ha.size hb.size ha.whole hb.whole in
    ha.is ∙ ap (signed n.negative) same ∙ sym hb.is

signed_never : (n : Numeral) (a : ℤ) → GivesSigned n a → LacksSigned n → ⊥
signed_never n a h lacks = lacks h.size h.whole (subst (FitsSigned w32) h.is h.fits)

pub signed_only : (text : List ℕ) (r : Result ℤ NumFault) → IfOk r (Reads GivesSigned text) → IfErr r (Refuses LacksSigned text) → (k : ℤ) → Reads GivesSigned text k → r ≡ Ok k
signed_only text r ok err k h = one_answer GivesSigned LacksSigned signed_once signed_never text r ok err k h

pub signed_given : (text : List ℕ) (d : Decimal) (v : ℕ) (z : ℤ) → Reads IsDecimal text d → multiplied d 0 ≡ v * divisor d 0 → v < 2 ^ 64 → z ≡ signed d.negative v → FitsSigned w32 (signed d.negative v) → Reads GivesSigned text z
signed_given text d v z h whole fits is range = record {
  short = h.short;
  numeral = h.numeral;
  spells = h.spells;
  gives = record {
    size = v;
    whole = (wholes_iff h.numeral d v (represents text d 0 h (lit≤ tt)) (omega (arith, fits))).1 whole;
    is = is ∙ ap (λ (b : Bool). signed b v) h.gives.negative;
    fits = subst (FitsSigned w32) (sym is) range;
  };
}

signed_small : (b : Bool) (v : ℕ) → FitsSigned w32 (signed b v) → v < 2 ^ 64
signed_small true v h = omega (arith, ints)
signed_small false v h = omega (arith, ints)

pub signed_lacks : (text : List ℕ) (d : Decimal) → Reads IsDecimal text d → ((v : ℕ) → multiplied d 0 ≡ v * divisor d 0 → 2 ^ 64 ≤ v) → Refuses LacksSigned text Range
signed_lacks text d h none = (h.short, (h.numeral, h.spells, λ size whole fits. let large = none_whole text d h none size whole in let small = signed_small h.numeral.negative size fits in omega (arith, large, small)))

pub signed_outside : (text : List ℕ) (d : Decimal) (v : ℕ) → Reads IsDecimal text d → multiplied d 0 ≡ v * divisor d 0 → v < 2 ^ 64 → (FitsSigned w32 (signed d.negative v) → ⊥) → Refuses LacksSigned text Range
signed_outside text d v h whole fits outside = (
  h.short,
  (
    h.numeral,
    h.spells,
    λ size is range.
        let here = (wholes_iff h.numeral d v (represents text d 0 h (lit≤ tt)) (omega (arith, fits))).1 whole in
        let same = whole_once (mantissa h.numeral) (exponent h.numeral) size v is here in
        let P : ℕ → Type 0 = λ k. FitsSigned w32 (signed h.numeral.negative k) in
        let B : Bool → Type 0 = λ b. FitsSigned w32 (signed b v) in
        outside (subst B (sym h.gives.negative) (subst P same range)),
  ),
)

-- ---- results that the code makes from an `Option`

-- `ok_or` makes `Some` a success, and `None` the error `Range`
pub given_ok : {X : Type 0} (Gives : Numeral → X → Type 0) (text : List ℕ) (o : Option X) (r : Result X NumFault) → r ≡ ok_or o Range → IfSome o (Reads Gives text) → IfOk r (Reads Gives text)
given_ok {X} Gives text None r e h = let Q : Result X NumFault → Type 0 = λ x. IfOk x (Reads Gives text) in subst Q (sym e) tt
given_ok {X} Gives text (Some x) r e h = let Q : Result X NumFault → Type 0 = λ y. IfOk y (Reads Gives text) in subst Q (sym e) h

pub given_err : {X : Type 0} (Lacks : Numeral → Type 0) (text : List ℕ) (o : Option X) (r : Result X NumFault) → r ≡ ok_or o Range → IfNone o (Refuses Lacks text Range) → IfErr r (Refuses Lacks text)
given_err {X} Lacks text None r e h = let Q : Result X NumFault → Type 0 = λ x. IfErr x (Refuses Lacks text) in subst Q (sym e) h
given_err {X} Lacks text (Some x) r e h = let Q : Result X NumFault → Type 0 = λ y. IfErr y (Refuses Lacks text) in subst Q (sym e) tt
