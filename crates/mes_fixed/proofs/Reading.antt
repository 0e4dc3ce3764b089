-- The run of the automaton over a text that spells a numeral collects the parts of that numeral.
use Rattle.std.proofs.Common.{◌≡◌, ℕ, Bool, true, false, List, [], ◌∷◌, ◌++◌, Some, refl, sym, ◌∙◌, ap, append_assoc, inl, inr, arith}
use Rattle.std.specs.Option.{option_and_then}
use Rattle.std.specs.Str.Parse.{AllDigits, IsNumeral}
use Rattle.std.proofs.lemmas.List.{append-nil}
use Rattle.mes_fixed.specs.declared.automaton.NumberState.{NumberState}
use Rattle.mes_fixed.specs.declared.automaton.NumberState.TheVariants.{AtStart, AfterMinus, AfterZero, InWhole, AfterPoint, InFraction, AfterExponent, AfterSign, InExponent}
use Rattle.mes_fixed.specs.Number.{Numeral, Spells, IsMinus, IsInt, IsFrac, IsSign, IsExp}
use Rattle.mes_fixed.specs.Automaton.{nought, digit, point, exponent, letter_of, number_next, is_final}
use Rattle.mes_fixed.specs.Gathering.{made, blank, gathered, run}
use Rattle.mes_fixed.proofs.Letters.{digit_step, letter_of_digit}

pub run_step : (part next : NumberState) (n : Numeral) (c : ℕ) (rest : List ℕ) → number_next part (letter_of c) ≡ Some next → run part n (c ∷ rest) ≡ run next (gathered next c n) rest
run_step part next n c rest e = ap (option_and_then (λ (p : NumberState). run p (gathered p c n) rest)) e

over_whole : (ds rest : List ℕ) (n : Numeral) → AllDigits 10 ds → run InWhole n (ds ++ rest) ≡ run InWhole (record n { whole = n.whole ++ ds }) rest
over_whole [] rest n h = ap (λ (w : List ℕ). run InWhole (record n { whole = w }) rest) (sym (append-nil n.whole))
over_whole (d ∷ ds) rest n h =
    run_step InWhole InWhole n d (ds ++ rest) (digit_step InWhole InWhole d h.0 refl refl)
    ∙ over_whole ds rest (record n { whole = n.whole ++ d ∷ [] }) h.1
    ∙ ap (λ (w : List ℕ). run InWhole (record n { whole = w }) rest) (append_assoc n.whole (d ∷ []) ds)

over_fraction : (ds rest : List ℕ) (n : Numeral) → AllDigits 10 ds → run InFraction n (ds ++ rest) ≡ run InFraction (record n { fraction = n.fraction ++ ds }) rest
over_fraction [] rest n h = ap (λ (w : List ℕ). run InFraction (record n { fraction = w }) rest) (sym (append-nil n.fraction))
over_fraction (d ∷ ds) rest n h =
    run_step InFraction InFraction n d (ds ++ rest) (digit_step InFraction InFraction d h.0 refl refl)
    ∙ over_fraction ds rest (record n { fraction = n.fraction ++ d ∷ [] }) h.1
    ∙ ap (λ (w : List ℕ). run InFraction (record n { fraction = w }) rest) (append_assoc n.fraction (d ∷ []) ds)

over_power : (ds : List ℕ) (n : Numeral) → AllDigits 10 ds → run InExponent n ds ≡ Some (record n { power = n.power ++ ds })
over_power [] n h = ap (λ (w : List ℕ). Some (record n { power = w })) (sym (append-nil n.power))
over_power (d ∷ ds) n h =
    run_step InExponent InExponent n d ds (digit_step InExponent InExponent d h.0 refl refl)
    ∙ over_power ds (record n { power = n.power ++ d ∷ [] }) h.1
    ∙ ap (λ (w : List ℕ). Some (record n { power = w })) (append_assoc n.power (d ∷ []) ds)

power_run : (part : NumberState) (ds : List ℕ) (n : Numeral) → number_next part nought ≡ Some InExponent → number_next part digit ≡ Some InExponent → n.power ≡ [] → IsNumeral 10 ds → run part n ds ≡ Some (record n { power = ds })
power_run part [] n z d e h = absurd (omega arith)
power_run part (c ∷ ds) n z d e h =
    run_step part InExponent n c ds (digit_step part InExponent c h.1.0 z d)
    ∙ over_power ds (record n { power = n.power ++ c ∷ [] }) h.1.1
    ∙ ap (λ (w : List ℕ). Some (record n { power = (w ++ c ∷ []) ++ ds })) e

sign_run : (lowers : Bool) (sign ds : List ℕ) (n : Numeral) → n.lowers ≡ false → n.power ≡ [] → IsSign lowers sign → IsNumeral 10 ds → run AfterExponent n (sign ++ ds) ≡ Some (record n { lowers = lowers; power = ds })
sign_run true sign ds n l e s h =
    ap (λ (w : List ℕ). run AfterExponent n (w ++ ds)) s ∙ power_run AfterSign ds (record n { lowers = true }) refl refl e h
sign_run false sign ds n l e (inl s) h =
    ap (λ (w : List ℕ). run AfterExponent n (w ++ ds)) s ∙ power_run AfterExponent ds n refl refl e h
    ∙ ap (λ (b : Bool). Some (record n { lowers = b; power = ds })) l
sign_run false sign ds n l e (inr s) h =
    ap (λ (w : List ℕ). run AfterExponent n (w ++ ds)) s ∙ power_run AfterSign ds (record n { lowers = false }) refl refl e h

pub final_run : (part : NumberState) (n : Numeral) → is_final part ≡ true → run part n [] ≡ Some n
final_run part n e = rw e refl

-- [ exp ]
exp_run : (part : NumberState) (lowers : Bool) (power text : List ℕ) (n : Numeral) → is_final part ≡ true → number_next part exponent ≡ Some AfterExponent → n.lowers ≡ false → n.power ≡ [] → IsExp lowers power text → run part n text ≡ Some (record n { lowers = lowers; power = power })
exp_run part lowers [] text n fin go l e h =
    ap (run part n) h.1 ∙ final_run part n fin ∙ ap (λ (b : Bool). Some (record n { lowers = b })) (l ∙ sym h.0)
    ∙ ap (λ (w : List ℕ). Some (record n { lowers = lowers; power = w })) e
exp_run part lowers (d ∷ ds) text n fin go l e h =
    ap (run part n) h.is
    ∙ run_step part AfterExponent n h.e (h.sign ++ d ∷ ds) (elim h.is_e [ inl a ↦ rw a go | inr a ↦ rw a go ])
    ∙ sign_run lowers h.sign (d ∷ ds) n l e h.is_sign h.is_numeral

-- [ frac ] [ exp ]
frac_run : (part : NumberState) (fraction frac : List ℕ) (lowers : Bool) (power exp : List ℕ) (n : Numeral) → is_final part ≡ true → number_next part exponent ≡ Some AfterExponent → number_next part point ≡ Some AfterPoint → n.fraction ≡ [] → n.lowers ≡ false → n.power ≡ [] → IsFrac fraction frac → IsExp lowers power exp → run part n (frac ++ exp) ≡ Some (record n { fraction = fraction; lowers = lowers; power = power })
frac_run part [] frac lowers power exp n fin go dot f l e h x =
    ap (λ (w : List ℕ). run part n (w ++ exp)) h ∙ exp_run part lowers power exp n fin go l e x
    ∙ ap (λ (w : List ℕ). Some (record n { fraction = w; lowers = lowers; power = power })) f
frac_run part (d ∷ ds) frac lowers power exp n fin go dot f l e h x =
    ap (λ (w : List ℕ). run part n (w ++ exp)) h.0
    ∙ run_step part AfterPoint n 46 ((d ∷ ds) ++ exp) dot
    ∙ run_step AfterPoint InFraction n d (ds ++ exp) (digit_step AfterPoint InFraction d h.1.0 refl refl)
    ∙ over_fraction ds exp (record n { fraction = n.fraction ++ d ∷ [] }) h.1.1
    ∙ exp_run InFraction lowers power exp (record n { fraction = (n.fraction ++ d ∷ []) ++ ds }) refl refl l e x
    ∙ ap (λ (w : List ℕ). Some (record n { fraction = (w ++ d ∷ []) ++ ds; lowers = lowers; power = power })) f

-- int [ frac ] [ exp ]
int_run : (part : NumberState) (negative : Bool) (n : Numeral) (frac exp : List ℕ) → number_next part nought ≡ Some AfterZero → number_next part digit ≡ Some InWhole → IsInt n.whole → IsFrac n.fraction frac → IsExp n.lowers n.power exp → run part (made negative [] [] false []) (n.whole ++ (frac ++ exp)) ≡ Some (record n { negative = negative })
int_run part negative n frac exp z g i f x = int_by n.whole i
  where
    int_by : (whole : List ℕ) → IsInt whole → run part (made negative [] [] false []) (whole ++ (frac ++ exp)) ≡ Some (record n { negative = negative; whole = whole })
    int_by [] h = absurd h
    int_by (d ∷ ds) (inl h) =
        ap (λ (w : List ℕ). run part (made negative [] [] false []) ((d ∷ w) ++ (frac ++ exp))) h.1
        ∙ run_step part AfterZero (made negative [] [] false []) d (frac ++ exp) (rw h.0 z)
        ∙ frac_run AfterZero n.fraction frac n.lowers n.power exp (made negative (d ∷ []) [] false []) refl refl refl refl refl refl f x
        ∙ ap (λ (w : List ℕ). Some (record n { negative = negative; whole = d ∷ w })) (sym h.1)
    int_by (d ∷ ds) (inr h) =
        run_step part InWhole (made negative [] [] false []) d (ds ++ (frac ++ exp)) (rw (letter_of_digit d h.0 h.1) g)
        ∙ over_whole ds (frac ++ exp) (made negative (d ∷ []) [] false []) h.2
        ∙ frac_run InWhole n.fraction frac n.lowers n.power exp (made negative (d ∷ ds) [] false []) refl refl refl refl refl refl f x

-- the bytes of a text that spells the numeral n collect to n
pub spelt_run : (text : List ℕ) (n : Numeral) → Spells text n → run AtStart blank text ≡ Some n
spelt_run text n h = ap (run AtStart blank) h.is ∙ sign_by n.negative h.is_minus
  where
    sign_by : (negative : Bool) → IsMinus negative h.minus → run AtStart blank (h.minus ++ (n.whole ++ (h.frac ++ h.exp))) ≡ Some (record n { negative = negative })
    sign_by true m =
        ap (λ (w : List ℕ). run AtStart blank (w ++ (n.whole ++ (h.frac ++ h.exp)))) m
        ∙ int_run AfterMinus true n h.frac h.exp refl refl h.is_int h.is_frac h.is_exp
    sign_by false m =
        ap (λ (w : List ℕ). run AtStart blank (w ++ (n.whole ++ (h.frac ++ h.exp)))) m
        ∙ int_run AtStart false n h.frac h.exp refl refl h.is_int h.is_frac h.is_exp
