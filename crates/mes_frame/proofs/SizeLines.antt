-- Writing a size line: digits from the last to the first, at the end of a buffer.
use Rattle.std.proofs.Common.{◌≡◌, ℕ, zero, suc, ◌+◌, ◌-◌, ◌/◌, ◌%◌, ◌^◌, ◌<◌, ◌≤◌, Bool, true, false, cond, List, [], ◌∷◌, ◌++◌, length, take, drop, refl, ap, sym, ◌∙◌, arith, slice_set, length-set, drop-cons, drop_of_length-le, ◌==◌}
use Rattle.std.proofs.lemmas.Bool.Decides.{nat_tests}
use Rattle.std.proofs.lemmas.List.{drop-set, drop-set-add, take_rest}
use Rattle.std.proofs.Math.Nat.{pow-suc, div-lt_iff_lt-mul}
use Rattle.std.specs.Fmt.{digits, digits_onto, digit_glyph}

-- the hexadecimal digits of n, at most k of them, before the bytes acc
pub hex_onto : ℕ → ℕ → List ℕ → List ℕ
hex_onto k n acc = digits_onto k 16 false n acc

-- the buffer has the last digits of `size` from `start` on; the digits of `rest` are yet to be
-- written
pub record LineSoFar (size start rest : ℕ) (buffer : List ℕ) : Type 0 where
  pub within : start ≤ 16
  pub some : 0 < start
  pub kept : length buffer ≡ 18
  pub fits : rest < 16 ^ start
  pub is : hex_onto (start + 48) rest (drop start buffer) ≡ digits 16 false size ++ 13 ∷ 10 ∷ []

append_by : (t : Bool) (k n g : ℕ) (acc s : List ℕ) → digits_onto k 16 false n (g ∷ (acc ++ s)) ≡ digits_onto k 16 false n (g ∷ acc) ++ s → cond t (g ∷ (acc ++ s)) (digits_onto k 16 false n (g ∷ (acc ++ s))) ≡ cond t (g ∷ acc) (digits_onto k 16 false n (g ∷ acc)) ++ s
append_by true k n g acc s more = refl
append_by false k n g acc s more = more

-- writing digits leaves the bytes s after them unchanged
onto_append : (k n : ℕ) (acc s : List ℕ) → digits_onto k 16 false n (acc ++ s) ≡ digits_onto k 16 false n acc ++ s
onto_append zero n acc s = refl
onto_append (suc k) n acc s =
    let g = digit_glyph false (n % 16) in
    append_by (n / 16 == 0) k (n / 16) g acc s (onto_append k (n / 16) (g ∷ acc) s)

onto_all : (n : ℕ) (s : List ℕ) → hex_onto 64 n s ≡ digits 16 false n ++ s
unfolding digits hex_onto
onto_all n s = onto_append 64 n [] s

onto_last : (k n : ℕ) (acc : List ℕ) → n / 16 ≡ 0 → hex_onto (suc k) n acc ≡ digit_glyph false (n % 16) ∷ acc
unfolding hex_onto
onto_last k n acc e = let last : (n / 16 == 0) ≡ true = grind (arith, nat_tests) in rw last

onto_more : (k n : ℕ) (acc : List ℕ) → (n / 16 ≡ 0 → ⊥) → hex_onto (suc k) n acc ≡ hex_onto k (n / 16) (digit_glyph false (n % 16) ∷ acc)
unfolding hex_onto
onto_more k n acc e = let more : (n / 16 == 0) ≡ false = grind (arith, nat_tests) in rw more

rest_fits : (n k : ℕ) → n < 16 ^ suc k → n / 16 < 16 ^ k
rest_fits n k small = (div-lt_iff_lt-mul (omega arith)).1 (rw pow-suc at small)

some_left : (n k : ℕ) → n < 16 ^ k → (n ≡ 0 → ⊥) → 0 < k
some_left n zero small not = absurd (omega arith)
some_left n (suc k) small not = omega arith

-- the buffer from offset k on, after a digit was written at k
digit_before : (k digit g : ℕ) (buffer : List ℕ) → k < length buffer → digit ≡ g → drop k (slice_set buffer k digit) ≡ g ∷ drop (suc k) buffer
digit_before k digit g buffer within is =
    let next : k + 1 ≡ suc k = omega arith in
    drop-set buffer k digit within ∙ ap (λ (n : ℕ). digit ∷ drop n buffer) next ∙ ap (λ (d : ℕ). d ∷ drop (suc k) buffer) is

crlf_behind : (buffer : List ℕ) → length buffer ≡ 18 → drop 16 (slice_set (slice_set buffer 16 13) 17 10) ≡ 13 ∷ 10 ∷ []
crlf_behind buffer len =
    let last : drop 17 buffer ≡ _ = drop-cons buffer 17 0 (omega arith) in
    let end : drop 18 buffer ≡ [] = drop_of_length-le buffer {i = 18} (omega arith) in
    drop-set-add 16 (slice_set buffer 16 13) 1 10
    ∙ ap (λ (s : List ℕ). slice_set s 1 10) (drop-set buffer 16 13 (omega arith) ∙ ap (λ (s : List ℕ). 13 ∷ s) last)
    ∙ ap (λ (s : List ℕ). 13 ∷ 10 ∷ s) end

pub line_begins : (size : ℕ) (buffer : List ℕ) → length buffer ≡ 18 → size < 2 ^ 64 → LineSoFar size 16 size (slice_set (slice_set buffer 16 13) 17 10)
line_begins size buffer len small =
    let one = length-set buffer 16 13 in
    let two = length-set (slice_set buffer 16 13) 17 10 in
    record {
      within = omega arith;
      some = omega arith;
      kept = omega arith;
      fits = omega arith;
      is = ap (hex_onto 64 size) (crlf_behind buffer len) ∙ onto_all size (13 ∷ 10 ∷ []);
    }

goes_on : (size k rest digit : ℕ) (buffer : List ℕ) → LineSoFar size (suc k) rest buffer → (rest / 16 ≡ 0 → ⊥) → digit ≡ digit_glyph false (rest % 16) → LineSoFar size k (rest / 16) (slice_set buffer k digit)
goes_on size k rest digit buffer so not is =
    let fits = rest_fits rest k so.fits in
    let len = length-set buffer k digit in
    let within = so.within in
    let kept = so.kept in
    let fuel : suc k + 48 ≡ suc (k + 48) = omega arith in
    let before = digit_before k digit _ buffer (omega arith) is in
    record {
      within = omega arith;
      some = some_left (rest / 16) k fits not;
      kept = omega arith;
      fits = fits;
      is = ap (hex_onto (k + 48) (rest / 16)) before ∙ sym (onto_more (k + 48) rest (drop (suc k) buffer) not) ∙ ap (λ (n : ℕ). hex_onto n rest (drop (suc k) buffer)) (sym fuel) ∙ so.is;
    }

pub line_goes_on : (size start rest digit : ℕ) (buffer : List ℕ) → LineSoFar size start rest buffer → (rest / 16 ≡ 0 → ⊥) → digit ≡ digit_glyph false (rest % 16) → LineSoFar size (start - 1) (rest / 16) (slice_set buffer (start - 1) digit)
line_goes_on size zero rest digit buffer so not is = absurd (omega (arith, so.some))
line_goes_on size (suc k) rest digit buffer so not is =
    let same : suc k - 1 ≡ k = omega arith in
    rw same (goes_on size k rest digit buffer so not is)

ends : (size k rest digit : ℕ) (buffer : List ℕ) → LineSoFar size (suc k) rest buffer → rest / 16 ≡ 0 → digit ≡ digit_glyph false (rest % 16) → take (18 - k) (drop k (slice_set buffer k digit)) ≡ digits 16 false size ++ 13 ∷ 10 ∷ []
ends size k rest digit buffer so none is =
    let len = length-set buffer k digit in
    let within = so.within in
    let kept = so.kept in
    let fuel : suc k + 48 ≡ suc (k + 48) = omega arith in
    let before = digit_before k digit _ buffer (omega arith) is in
    let whole : length (slice_set buffer k digit) ≡ 18 = omega arith in
    ap (λ (n : ℕ). take (n - k) (drop k (slice_set buffer k digit))) (sym whole) ∙ take_rest (slice_set buffer k digit) k ∙ before
    ∙ sym (onto_last (k + 48) rest (drop (suc k) buffer) none) ∙ ap (λ (n : ℕ). hex_onto n rest (drop (suc k) buffer)) (sym fuel) ∙ so.is

pub line_ends : (size start rest digit : ℕ) (buffer : List ℕ) → LineSoFar size start rest buffer → rest / 16 ≡ 0 → digit ≡ digit_glyph false (rest % 16) → take (18 - (start - 1)) (drop (start - 1) (slice_set buffer (start - 1) digit)) ≡ digits 16 false size ++ 13 ∷ 10 ∷ []
line_ends size zero rest digit buffer so none is = absurd (omega (arith, so.some))
line_ends size (suc k) rest digit buffer so none is =
    let same : suc k - 1 ≡ k = omega arith in
    rw same (ends size k rest digit buffer so none is)

-- the buffer from `start` on is the size line of a record: decimal digits and LF
pub record_line_is : (size start : ℕ) (old new : List ℕ) → length old ≡ 21 → length new ≡ 21 → drop start new ≡ digits 10 false size ++ drop 20 (slice_set old 20 10) → take (21 - start) (drop start new) ≡ digits 10 false size ++ 10 ∷ []
record_line_is size start old new len kept is =
    let end : drop 21 old ≡ [] = drop_of_length-le old {i = 21} (omega arith) in
    ap (λ (n : ℕ). take (n - start) (drop start new)) (sym kept) ∙ take_rest new start ∙ is
    ∙ ap (λ (s : List ℕ). digits 10 false size ++ s) (drop-set old 20 10 (omega arith) ∙ ap (λ (s : List ℕ). 10 ∷ s) end)
