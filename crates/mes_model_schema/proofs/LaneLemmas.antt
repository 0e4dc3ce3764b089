-- Lemmas about base64_blocks.rt: the vector operations on a block of letters, lane by lane.
use Rattle.std.proofs.Common.{◌≡◌, ℕ, suc, ◌+◌, ◌*◌, ◌/◌, ◌%◌, ◌^◌, ◌==◌, ◌<◌, ◌≤◌, nat_lt, Bool, true, false, not, cond, eqb, leb, ◌&&◌, ◌||◌, List, [], ◌∷◌, map, length, get_or, replicate, bit_and, refl, sym, ap, subst, ◌∙◌, inl, inr, arith, w8, Fits}
use Rattle.std.proofs.lemmas.Bool.{and_parts, and_from, or_cases, lt-ltb, eq-eqb, eqb-true, ltb-true, lt-leb}
use Rattle.std.proofs.lemmas.List.{length-map}
use Rattle.std.proofs.lemmas.Nat.{and_le_r}
use Rattle.std.proofs.lemmas.Simd.{zip2_splat, zip2-map, swz_l, SwzOk, SwzOk-from_below, mask_l-mod, length-zip2, length-replicate}
use lib.Lanes.{zip2, sel_l, mask_l, top, Each1}
use Rattle.base64.specs.Tables.{all_below}
use Rattle.base64.proofs.Tables.{all_below_at}
use Rattle.mes_model_schema.specs.LetterValues.{letter_of, value_of, IsLetter}
use Rattle.mes_model_schema.specs.declared.base64_blocks.TheConstants.{BY_LOW, BY_HIGH, TO_VALUE}

-- the list has sixteen bytes
abbrev pub IsBlock : List ℕ → Type 0
IsBlock v = (length v ≡ 16) × Each1 (Fits w8) v

-- ---- looking up each byte of a block in a table of sixteen entries

abbrev pub down : ℕ → ℕ → ℕ
down a b = a / 2 ^ b

looked_from : (table : List ℕ) (g : ℕ → ℕ) (v : List ℕ) (i : ℕ) → i + length v ≤ 16 → Each1 (Fits w8) v → ((x : ℕ) → x < 256 → g x < 16)
    → swz_l w8 16 table i (map g v) ≡ map (λ x. get_or table (g x) 0) v
looked_from table g [] i room fits small = refl
looked_from table g (x ∷ v) i room fits small =
    let few : g x < 16 = small x fits.0.fits in
    let low : leb 128 (g x) ≡ false = lt-leb 128 (g x) (omega arith) in
    let place : 16 * (i / 16) + g x ≡ g x = omega arith in
    rw (low, place, looked_from table g v (suc i) (omega arith) fits.1 small) refl

pub looked_up : (table : List ℕ) (g : ℕ → ℕ) (v js : List ℕ) → IsBlock v → js ≡ map g v → ((x : ℕ) → x < 256 → g x < 16)
    → swz_l w8 16 table 0 js ≡ map (λ x. get_or table (g x) 0) v
looked_up table g v js block e small = ap (λ (l : List ℕ). swz_l w8 16 table 0 l) e ∙ looked_from table g v 0 (omega (arith, block.0)) block.1 small

each_small : (g : ℕ → ℕ) (v : List ℕ) → Each1 (Fits w8) v → ((x : ℕ) → x < 256 → g x < 16) → Each1 (λ j. j < 16) (map g v)
each_small g [] fits small = tt
each_small g (x ∷ v) fits small = (small x fits.0.fits, each_small g v fits.1 small)

pub places_ok : (g : ℕ → ℕ) (v js : List ℕ) → IsBlock v → js ≡ map g v → ((x : ℕ) → x < 256 → g x < 16) → SwzOk w8 16 16 0 js
places_ok g v js block e small =
    subst (λ (l : List ℕ). SwzOk w8 16 16 0 l) (sym e)
    (SwzOk-from_below w8 16 1 16 0 (map g v) refl (omega (arith, length-map v g, block.0)) (each_small g v block.1 small))

-- ---- the indexes of the look-ups

abbrev pub low_place : ℕ → ℕ
low_place x = bit_and x 15

abbrev pub high_place : ℕ → ℕ
high_place x = x / 16

abbrev pub row_place : ℕ → ℕ
row_place x = cond (eqb x 47) 1 (x / 16)

pub low_small : (x : ℕ) → x < 256 → low_place x < 16
low_small x h = omega (arith, and_le_r x 15)

pub high_small : (x : ℕ) → x < 256 → high_place x < 16
high_small x h = omega arith

pub row_small : (x : ℕ) → x < 256 → row_place x < 16
row_small x h = by_test (eqb x 47) where
  by_test : (t : Bool) → cond t 1 (x / 16) < 16
  by_test true = omega arith
  by_test false = omega arith

pub low_places : (v : List ℕ) → IsBlock v → zip2 bit_and v (replicate 16 15) ≡ map low_place v
low_places v block = zip2_splat bit_and v 16 15 block.0

pub high_places : (v : List ℕ) → IsBlock v → zip2 down v (replicate 16 4) ≡ map high_place v
high_places v block = zip2_splat down v 16 4 block.0

-- one lane of a comparison of bytes: 255 if the bytes are equal, else 0
abbrev pub is_byte : ℕ → ℕ → ℕ
is_byte a b = cond (eqb a b) 255 0

abbrev pub rows : ℕ → List ℕ → List ℕ
rows n v = sel_l (map (top 7) (zip2 is_byte v (replicate n 47))) (replicate n 1) (zip2 down v (replicate n 4))

one_row : (t : Bool) (n : ℕ) → cond (top 7 (cond t 255 0)) 1 n ≡ cond t 1 n
one_row true n = refl
one_row false n = refl

rows_are : (v : List ℕ) → rows (length v) v ≡ map row_place v
rows_are [] = refl
rows_are (x ∷ v) = rw (one_row (eqb x 47) (x / 16), rows_are v) refl

pub row_places : (v : List ℕ) → IsBlock v → rows 16 v ≡ map row_place v
row_places v block = ap (λ (n : ℕ). rows n v) (sym block.0) ∙ rows_are v

-- ---- the entries of the tables, checked by computing

abbrev pub is_letter : ℕ → Bool
is_letter c = nat_lt (value_of c) 64 && (letter_of (value_of c) == c)

letter_by_test : (c : ℕ) → is_letter c ≡ true → IsLetter c
letter_by_test c e = let h = and_parts _ _ e in (ltb-true _ _ h.0, eqb-true _ _ h.1)

-- the bits that both table entries of a byte have; only a letter has none
abbrev pub fault_of : ℕ → ℕ
fault_of x = bit_and (get_or BY_LOW (low_place x) 0) (get_or BY_HIGH (high_place x) 0)

abbrev pub reported : ℕ → Bool
reported c = not (fault_of c == 0) || is_letter c

all_told : all_below reported 256 ≡ true
all_told = refl

no_fault : (c : ℕ) → c < 256 → fault_of c ≡ 0 → IsLetter c
no_fault c small none = elim (or_cases (not (fault_of c == 0)) (is_letter c) (all_below_at reported 256 c all_told small)) [
  | inl fault ↦ let f = rw none at fault in absurd (cc)
  | inr letter ↦ letter_by_test c letter
]

-- the sum of a byte and its entry of TO_VALUE, which for a letter is the value of the letter
abbrev pub value_lane : ℕ → ℕ
value_lane x = (x + get_or TO_VALUE (row_place x) 0) % 256

abbrev pub valued : ℕ → Bool
valued c = not (is_letter c) || (value_lane c == value_of c)

all_valued : all_below valued 256 ≡ true
all_valued = refl

is_value : (c : ℕ) → c < 256 → IsLetter c → value_lane c ≡ value_of c
is_value c small letter = elim (or_cases (not (is_letter c)) (value_lane c == value_of c) (all_below_at valued 256 c all_valued small)) [
  | inl none ↦
      let t : is_letter c ≡ true = and_from _ _ (lt-ltb _ _ letter.0) (eq-eqb _ _ letter.1) in
      let f = rw t at none in absurd (cc)
  | inr same ↦ eqb-true _ _ same
]

-- ---- the computed values are those of the letters of a block

added : (h : ℕ → ℕ) (v : List ℕ) → zip2 (λ a b. (a + b) % 256) v (map h v) ≡ map (λ x. (x + h x) % 256) v
added h [] = refl
added h (x ∷ v) = ap (λ (l : List ℕ). (x + h x) % 256 ∷ l) (added h v)

all_values : (v : List ℕ) → Each1 (Fits w8) v → Each1 IsLetter v → map value_lane v ≡ map value_of v
all_values [] fits letters = refl
all_values (x ∷ v) fits letters = rw (is_value x fits.0.fits letters.0, all_values v fits.1 letters.1) refl

pub values_are : (v : List ℕ) → IsBlock v → Each1 IsLetter v → zip2 (λ a b. (a + b) % 256) v (swz_l w8 16 TO_VALUE 0 (rows 16 v)) ≡ map value_of v
values_are v block letters =
    ap (λ (l : List ℕ). zip2 (λ a b. (a + b) % 256) v l) (looked_up TO_VALUE row_place v (rows 16 v) block (row_places v block) row_small)
    ∙ added (λ x. get_or TO_VALUE (row_place x) 0) v ∙ all_values v block.1 letters

-- ---- a block without fault bits has only letters

abbrev pub differs : ℕ → ℕ → ℕ
differs a b = cond (not (eqb a b)) 255 0

one_mark : (n rest : ℕ) → cond (top 7 (differs n 0)) 1 0 + 2 * rest ≡ 0 → (n ≡ 0) × (rest ≡ 0)
one_mark n rest e = by_test (eqb n 0) refl e where
  by_test : (t : Bool) → eqb n 0 ≡ t → cond (top 7 (cond (not t) 255 0)) 1 0 + 2 * rest ≡ 0 → (n ≡ 0) × (rest ≡ 0)
  by_test true p q = (eqb-true _ _ p, omega arith)
  by_test false p q = absurd (omega arith)

no_marks : (v : List ℕ) → Each1 (Fits w8) v → mask_l (map (top 7) (zip2 differs (map fault_of v) (replicate (length v) 0))) ≡ 0 → Each1 IsLetter v
no_marks [] fits e = tt
no_marks (x ∷ v) fits e =
    let h = one_mark (fault_of x) _ e in
    (no_fault x fits.0.fits h.0, no_marks v fits.1 h.1)

abbrev pub marks : List ℕ → ℕ
marks v = mask_l (map (top 7) (zip2 differs (zip2 bit_and (swz_l w8 16 BY_LOW 0 (zip2 bit_and v (replicate 16 15))) (swz_l w8 16 BY_HIGH 0 (zip2 down v (replicate 16 4)))) (replicate 16 0))) % 2 ^ 64

pub letters_by_marks : (v : List ℕ) → IsBlock v → marks v ≡ 0 → Each1 IsLetter v
letters_by_marks v block none =
    let low = looked_up BY_LOW low_place v _ block (low_places v block) low_small in
    let high = looked_up BY_HIGH high_place v _ block (high_places v block) high_small in
    let both : zip2 bit_and (swz_l w8 16 BY_LOW 0 (zip2 bit_and v (replicate 16 15))) (swz_l w8 16 BY_HIGH 0 (zip2 down v (replicate 16 4))) ≡ map fault_of v =
    rw (low, high) (zip2-map bit_and (λ x. get_or BY_LOW (low_place x) 0) (λ x. get_or BY_HIGH (high_place x) 0) v) in
    let same : marks v ≡ mask_l (map (top 7) (zip2 differs (map fault_of v) (replicate (length v) 0))) =
    ap (λ (l : List ℕ). mask_l (map (top 7) (zip2 differs l (replicate 16 0))) % 2 ^ 64) both
    ∙ ap (λ (n : ℕ). mask_l (map (top 7) (zip2 differs (map fault_of v) (replicate n 0))) % 2 ^ 64) (sym block.0)
    ∙ mask_l-mod _ 64 (omega (arith, length-map (zip2 differs (map fault_of v) (replicate (length v) 0)) (top 7), length-zip2 differs (map fault_of v) (replicate (length v) 0) (length-map v fault_of ∙ sym (length-replicate (length v) 0)), length-map v fault_of, block.0)) in
    no_marks v block.1 (sym same ∙ none)
