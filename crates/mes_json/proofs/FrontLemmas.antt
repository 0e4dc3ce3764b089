-- The bytes at the front of a block, before the first byte whose bit is set in a mask of the block.
use Rattle.std.proofs.Common.{◌≡◌, ℕ, ◌+◌, ◌*◌, ◌<◌, ◌≤◌, Bool, true, false, cond, not, suc, List, [], ◌∷◌, length, map, take, drop, get_or, refl, ap, subst, sym, ◌∙◌, arith, ◌++◌}
use Rattle.std.proofs.lemmas.Bool.{not-false}
use Rattle.std.proofs.lemmas.List.{take-take}
use Rattle.std.proofs.lemmas.List.Sums.{prefix_len-le-length, prefix_len_stops}
use Rattle.std.proofs.lemmas.Simd.{length-chunk, get_or-chunk, trailing_mask_l}
use Rattle.std.proofs.Math.Seq.{take-add}
use Rattle.std.specs.Int.Count.{count_trailing_zeros}
use Rattle.std.specs.Simd.Lanes.{mask_l}
use Rattle.std.specs.List.{AllByRecursion, prefix_len}

-- the mask bit of a byte is set if and only if P does not hold for the byte
pub record Marks (P : ℕ → Type 0) (mark : ℕ → Bool) : Type 0 where
  pub unmarked : (c : ℕ) → mark c ≡ false → P c
  pub marked : (c : ℕ) → mark c ≡ true → P c → ⊥

first_unmarked : (b : Bool) (rest : ℕ) → cond b 1 0 + 2 * rest ≡ 0 → (b ≡ false) × (rest ≡ 0)
first_unmarked true rest none = absurd (omega arith)
first_unmarked false rest none = (refl, omega arith)

none_marked : (P : ℕ → Type 0) (mark : ℕ → Bool) → Marks P mark → (xs : List ℕ) → mask_l (map mark xs) ≡ 0 → AllByRecursion P xs
none_marked P mark marks [] none = tt
none_marked P mark marks (c ∷ xs) none =
    let parts = first_unmarked (mark c) (mask_l (map mark xs)) none in
    (marks.unmarked c parts.0, none_marked P mark marks xs parts.1)

-- the number of bytes before the first one whose mask bit is set
abbrev pub front : (ℕ → Bool) → List ℕ → ℕ
front mark xs = prefix_len (λ c. not (mark c)) xs

one_more : (P : ℕ → Type 0) (mark : ℕ → Bool) → Marks P mark → (b : Bool) (c n : ℕ) (xs : List ℕ) → mark c ≡ b → AllByRecursion P (take n xs)
    → AllByRecursion P (take (cond (not b) (1 + n) 0) (c ∷ xs))
one_more P mark marks true c n xs is holds = tt
one_more P mark marks false c n xs is holds =
    let Q : ℕ → Type 0 = λ k. AllByRecursion P (take k (c ∷ xs)) in
    let more : suc n ≡ 1 + n = omega arith in
    subst Q more (marks.unmarked c is, holds)

front_holds : (P : ℕ → Type 0) (mark : ℕ → Bool) → Marks P mark → (xs : List ℕ) → AllByRecursion P (take (front mark xs) xs)
front_holds P mark marks [] = tt
front_holds P mark marks (c ∷ xs) = one_more P mark marks (mark c) c (front mark xs) xs refl (front_holds P mark marks xs)

front_stops : (P : ℕ → Type 0) (mark : ℕ → Bool) → Marks P mark → (xs : List ℕ) → front mark xs < length xs → P (get_or xs (front mark xs) 0) → ⊥
front_stops P mark marks xs inside holds =
    marks.marked (get_or xs (front mark xs) 0) (not-false _ (prefix_len_stops (λ c. not (mark c)) xs 0 inside)) holds

-- n is the number of bytes with P at the front of the block of w bytes at offset `place`
pub record IsFront (P : ℕ → Type 0) (bytes : List ℕ) (place w n : ℕ) : Type 0 where
  pub inside : n ≤ w
  pub holds : AllByRecursion P (take n (drop place bytes))
  pub stops : n < w → P (get_or bytes (place + n) 0) → ⊥

front_placed : (P : ℕ → Type 0) (mark : ℕ → Bool) → Marks P mark → (bytes : List ℕ) (place w n : ℕ) → place + w ≤ length bytes
    → n ≡ front mark (take w (drop place bytes)) → IsFront P bytes place w n
front_placed P mark marks bytes place w n room is =
    let block = take w (drop place bytes) in
    let long : length block ≡ w = length-chunk place w bytes room in
    let inside : n ≤ w = omega (arith, is, long, prefix_len-le-length (λ c. not (mark c)) block) in
    let Q : ℕ → Type 0 = λ k. AllByRecursion P (take k block) in
    record {
      inside = inside;
      holds = subst (λ (q : List ℕ). AllByRecursion P q) (take-take n w (drop place bytes) inside) (subst Q (sym is) (front_holds P mark marks block));
      stops = λ below holds.
          let first : front mark block < length block = omega (arith, is, long, below) in
          let same : get_or bytes (place + n) 0 ≡ get_or block (front mark block) 0 = sym (get_or-chunk place w bytes n 0 below) ∙ ap (λ (k : ℕ). get_or block k 0) is in
          front_stops P mark marks block first (subst P same holds);
    }

-- if no bit of the mask is set, P holds for every byte of the block at offset `place`
pub front_whole : (P : ℕ → Type 0) (mark : ℕ → Bool) → Marks P mark → (bytes : List ℕ) (place w mask : ℕ) → mask ≡ mask_l (map mark (take w (drop place bytes))) → mask ≡ 0
    → AllByRecursion P (take w (drop place bytes))
front_whole P mark marks bytes place w mask is none = none_marked P mark marks (take w (drop place bytes)) (sym is ∙ none)

pub front_found : (P : ℕ → Type 0) (mark : ℕ → Bool) → Marks P mark → (bytes : List ℕ) (place w mask : ℕ) → w ≤ 64 → place + w ≤ length bytes
    → mask ≡ mask_l (map mark (take w (drop place bytes))) → (mask ≡ 0 → ⊥) → IsFront P bytes place w (count_trailing_zeros 64 mask)
front_found P mark marks bytes place w mask small room is some =
    let block = take w (drop place bytes) in
    let found : 0 < mask_l (map mark block) = omega (arith, is, some) in
    front_placed P mark marks bytes place w (count_trailing_zeros 64 mask) room
    (ap (λ (k : ℕ). count_trailing_zeros 64 k) is ∙ trailing_mask_l mark 64 block (omega (arith, small, length-chunk place w bytes room)) found)

all_append : (P : ℕ → Type 0) (xs ys : List ℕ) → AllByRecursion P xs → AllByRecursion P ys → AllByRecursion P (xs ++ ys)
all_append P [] ys before block = block
all_append P (c ∷ xs) ys before block = (before.0, all_append P xs ys before.1 block)

pub all_further : (P : ℕ → Type 0) (bytes : List ℕ) (place n : ℕ) → AllByRecursion P (take place bytes) → AllByRecursion P (take n (drop place bytes))
    → AllByRecursion P (take (place + n) bytes)
all_further P bytes place n before more =
    subst (λ (q : List ℕ). AllByRecursion P q) (sym (take-add place n bytes)) (all_append P (take place bytes) (take n (drop place bytes)) before more)
