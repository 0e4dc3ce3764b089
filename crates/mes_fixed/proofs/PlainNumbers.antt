-- The fast path: the values of texts of digits, and of digits with a point and digits after it.
use Rattle.std.proofs.Common.{◌≡◌, ℕ, suc, ◌+◌, ◌-◌, ◌*◌, ◌^◌, ◌<◌, ◌≤◌, ◌==◌, false, List, [], ◌∷◌, ◌++◌, length, get_or, take, drop, refl, sym, ◌∙◌, ap, subst, arith, add-one, ℤ, length-append, length-drop, take-append-drop}
use Rattle.std.specs.Char.{digit_value}
use Rattle.std.specs.Str.Parse.{AllDigits, IsNumeral, digits_value, digits_value_after}
use Rattle.std.proofs.Math.Seq.{take-suc, drop-cons}
use Rattle.std.proofs.lemmas.Bool.Decides.{nat_tests}
use Rattle.std.proofs.lemmas.List.{append-nil, take_all}
use Rattle.std.proofs.lemmas.Str.{digit_value_digit}
use Rattle.mes_fixed.specs.declared.limits.TheConstants.{MAX_NUMBER_TEXT, MAX_UNITS}
use Rattle.mes_fixed.specs.Number.{IsInt, IsFrac}
use Rattle.mes_fixed.specs.Gathering.{made}
use Rattle.mes_fixed.specs.Value.{HalfUp, Nearest, Whole, Reads, GivesUnits, GivesWhole}
use Rattle.mes_fixed.proofs.DigitValues.{digits_append}
use Rattle.mes_fixed.proofs.Letters.{digit_is_value}
use Rattle.mes_fixed.proofs.Scales.{shift_is, base_is, nearest_iff, whole_iff, one_half_up, power_none}

pub after_append : (n : ℕ) (ds es : List ℕ) → digits_value_after 10 n (ds ++ es) ≡ digits_value_after 10 (digits_value_after 10 n ds) es
after_append n [] es = refl
after_append n (d ∷ ds) es = after_append (n * 10 + digit_value d) ds es

-- ds are decimal digits, and v is the value of the digits of n with ds appended
pub record Digits (n : ℕ) (ds : List ℕ) (v : ℕ) : Type 0 where
  pub all : AllDigits 10 ds
  pub value : v ≡ digits_value_after 10 n ds

pub one_more : (n : ℕ) (ds : List ℕ) (i v w : ℕ) → i < length ds → 48 ≤ get_or ds i 0 → get_or ds i 0 ≤ 57 → Digits n (take i ds) v → w ≡ v * 10 + (get_or ds i 0 - 48) → Digits n (take (i + 1) ds) w
one_more n ds i v w inside low high before is =
    let c = get_or ds i 0 in
    let next : take (i + 1) ds ≡ take i ds ++ c ∷ [] = ap (λ (j : ℕ). take j ds) (add-one i) ∙ take-suc ds i 0 inside in
    let digit = digit_value_digit c (low, high) in
    subst (λ (xs : List ℕ). Digits n xs w) (sym next) (record {
      all = digits_append (take i ds) (c ∷ []) before.all (digit_is_value c low high, tt);
      value = omega (arith, is, before.value, digit) ∙ sym (after_append n (take i ds) (c ∷ []));
    })

frac_is : (ds : List ℕ) → IsNumeral 10 ds → IsFrac ds (46 ∷ ds)
frac_is [] n = absurd (omega (arith, n.0))
frac_is (d ∷ ds) n = (refl, n.1)

-- the number with the given digits on both sides of a point is `units` units of 10^-places
pub plain_gives : (places units : ℕ) (whole ds : List ℕ) → places ≤ 6 → IsInt whole → IsNumeral 10 ds → length ds ≤ places → length whole + suc (length ds) ≤ MAX_NUMBER_TEXT → units ≡ digits_value 10 (whole ++ ds) * 10 ^ (places - length ds) → units ≤ MAX_UNITS → Reads (GivesUnits places) (whole ++ (46 ∷ ds)) units
plain_gives places units whole ds high int numeral short room is le =
    let len : length (whole ++ (46 ∷ ds)) ≡ length whole + suc (length ds) = length-append whole (46 ∷ ds) in
    let units_is : units ≡ digits_value 10 (whole ++ ds) * 10 ^ ((0 + places) - (length ds + 0)) = is ∙ ap (λ (i : ℕ). digits_value 10 (whole ++ ds) * 10 ^ i) (omega arith) in
    let H : ℕ → Type 0 = λ w. HalfUp (digits_value 10 (whole ++ ds) * 10 ^ ((0 + places) - (length ds + 0))) w units in
    let half : H (10 ^ ((length ds + 0) - (0 + places))) = subst H (sym (power_none ((length ds + 0) - (0 + places)) (omega arith))) (one_half_up _ units units_is) in
    let N : ℤ → Type 0 = λ z. Nearest (digits_value 10 (whole ++ ds)) z units in
    record {
      short = omega (arith, len, room);
      numeral = made false whole ds false [];
      spells = record {
        minus = [];
        frac = 46 ∷ ds;
        exp = [];
        is = ap (λ (x : List ℕ). whole ++ x) (sym (append-nil (46 ∷ ds)));
        is_minus = refl;
        is_int = int;
        is_frac = frac_is ds numeral;
        is_exp = (refl, refl);
      };
      gives = record {
        unsigned = λ e. absurd (cc);
        rounds = subst N (sym (shift_is false 0 (length ds) places)) ((nearest_iff (digits_value 10 (whole ++ ds)) (0 + places) (length ds + 0) units).1 half);
        fits = le;
      };
    }

pub digits_give : (v : ℕ) (whole : List ℕ) → IsInt whole → length whole ≤ MAX_NUMBER_TEXT → v ≡ digits_value 10 whole → v < 2 ^ 64 → Reads GivesWhole whole v
digits_give v whole int room is fits =
    let same : digits_value 10 (whole ++ []) ≡ v = ap (digits_value 10) (append-nil whole) ∙ sym is in
    let W : ℤ → Type 0 = λ z. Whole (digits_value 10 (whole ++ [])) z v in
    record {
      short = room;
      numeral = made false whole [] false [];
      spells = record {
        minus = [];
        frac = [];
        exp = [];
        is = sym (append-nil whole);
        is_minus = refl;
        is_int = int;
        is_frac = refl;
        is_exp = (refl, refl);
      };
      gives = record {
        unsigned = λ e. absurd (cc);
        whole = subst W (sym (base_is false 0 0)) ((whole_iff (digits_value 10 (whole ++ [])) 0 0 v).1 (omega (arith, same)));
        fits = fits;
      };
    }

-- a text of digits with a point at offset `at` is a number of `units` units of 10^-places
pub units_plain : (places at v w units : ℕ) (text whole rest : List ℕ) → places ≤ 6 → length text ≤ MAX_NUMBER_TEXT → at < length text → get_or text at 0 ≡ 46
    → whole ≡ take at text → rest ≡ drop at text → IsInt whole → v ≡ digits_value_after 10 0 whole
    → false ≡ (length (take (length rest - 1) (drop 1 rest)) == 0) → length (take (length rest - 1) (drop 1 rest)) ≤ places
    → AllDigits 10 (take (length rest - 1) (drop 1 rest)) → w ≡ digits_value_after 10 v (take (length rest - 1) (drop 1 rest))
    → units ≡ w * 10 ^ (places - length (take (length rest - 1) (drop 1 rest))) → units ≤ MAX_UNITS → Reads (GivesUnits places) text units
units_plain places at v w units text whole rest high short inside point front back int first some few all second is le =
    let ds = take (length rest - 1) (drop 1 rest) in
    let cut : rest ≡ 46 ∷ drop (suc at) text = back ∙ drop-cons text at 0 inside ∙ ap (λ (c : ℕ). c ∷ drop (suc at) text) point in
    let following : drop 1 rest ≡ drop (suc at) text = ap (drop 1) cut in
    let whole_rest : ds ≡ drop 1 rest = take_all (length rest - 1) (drop 1 rest) (omega (arith, length-drop 1 rest)) in
    let joined : whole ++ (46 ∷ ds) ≡ text =
    ap (λ (x : List ℕ). whole ++ (46 ∷ x)) (whole_rest ∙ following) ∙ ap (λ (x : List ℕ). whole ++ x) (sym cut ∙ back) ∙ ap (λ (x : List ℕ). x ++ drop at text) front ∙ take-append-drop at text in
    let long : length text ≡ length whole + suc (length ds) = sym (ap (length {A = ℕ}) joined) ∙ length-append whole (46 ∷ ds) in
    let value : w ≡ digits_value 10 (whole ++ ds) = second ∙ ap (λ (x : ℕ). digits_value_after 10 x ds) first ∙ sym (after_append 0 whole ds) in
    subst (λ (x : List ℕ). Reads (GivesUnits places) x units) joined
    (plain_gives places units whole ds high int (grind (arith, nat_tests), all) few (omega (arith, long, short)) (is ∙ ap (λ (x : ℕ). x * 10 ^ (places - length ds)) value) le)
