-- One comparison of a block of bytes finds the plain bytes (`IsPlain`) at the front of the block.
use Rattle.std.proofs.Common.{◌≡◌, ℕ, ◌+◌, ◌%◌, ◌^◌, ◌≤◌, Bool, true, false, cond, ◌||◌, leb, ltb, eqb, List, [], ◌∷◌, length, map, replicate, take, drop, bit_or, refl, ap, sym, ◌∙◌, arith}
use Rattle.std.proofs.lemmas.Bool.Decides.{nat_tests}
use Rattle.std.proofs.lemmas.List.{length-map}
use Rattle.std.proofs.lemmas.Simd.{mask_l-mod, length-chunk}
use Rattle.std.specs.Simd.Lanes.{zip2, mask_l, top}
use Rattle.mes_json.specs.Reader.{IsPlain}
use Rattle.mes_json.proofs.FrontLemmas.{Marks}

abbrev lane : Bool → ℕ
lane b = cond b 255 0

-- the mask bit of the byte c: set by four tests if c is not plain
abbrev pub marked : ℕ → Bool
marked c = top 7 (bit_or (bit_or (bit_or (lane (ltb c 32)) (lane (leb 128 c))) (lane (eqb c 34))) (lane (eqb c 92)))

abbrev pub marked_lanes : ℕ → List ℕ → List ℕ
marked_lanes n xs =
    zip2 bit_or
    (zip2 bit_or
    (zip2 bit_or (zip2 (λ a b. cond (ltb a b) 255 0) xs (replicate n 32)) (zip2 (λ a b. cond (leb a b) 255 0) (replicate n 128) xs))
    (zip2 (λ a b. cond (eqb a b) 255 0) xs (replicate n 34)))
    (zip2 (λ a b. cond (eqb a b) 255 0) xs (replicate n 92))

by_lanes : (xs : List ℕ) → map (top 7) (marked_lanes (length xs) xs) ≡ map marked xs
by_lanes [] = refl
by_lanes (c ∷ xs) = ap (λ (rest : List Bool). marked c ∷ rest) (by_lanes xs)

marks_of_block : (xs : List ℕ) (n : ℕ) → length xs ≡ n → n ≤ 64 → mask_l (map (top 7) (marked_lanes n xs)) % 2 ^ 64 ≡ mask_l (map marked xs)
marks_of_block xs n long small =
    ap (λ (m : ℕ). mask_l (map (top 7) (marked_lanes m xs)) % 2 ^ 64) (sym long) ∙ ap (λ (bs : List Bool). mask_l bs % 2 ^ 64) (by_lanes xs)
    ∙ mask_l-mod (map marked xs) 64 (omega (arith, length-map xs marked))

joined : (a b c d : Bool) → top 7 (bit_or (bit_or (bit_or (lane a) (lane b)) (lane c)) (lane d)) ≡ (((a || b) || c) || d)
joined true true true true = refl
joined true true true false = refl
joined true true false true = refl
joined true true false false = refl
joined true false true true = refl
joined true false true false = refl
joined true false false true = refl
joined true false false false = refl
joined false true true true = refl
joined false true true false = refl
joined false true false true = refl
joined false true false false = refl
joined false false true true = refl
joined false false true false = refl
joined false false false true = refl
joined false false false false = refl

is_marked : (c : ℕ) → marked c ≡ (((ltb c 32 || leb 128 c) || eqb c 34) || eqb c 92)
is_marked c = joined (ltb c 32) (leb 128 c) (eqb c 34) (eqb c 92)

plain_tests : (c : ℕ) → (((ltb c 32 || leb 128 c) || eqb c 34) || eqb c 92) ≡ false → IsPlain c
plain_tests c tests = grind (arith, nat_tests)

tests_plain : (c : ℕ) → IsPlain c → (((ltb c 32 || leb 128 c) || eqb c 34) || eqb c 92) ≡ false
tests_plain c plain = grind (arith, nat_tests)

marked_is_none : (c : ℕ) → marked c ≡ true → IsPlain c → ⊥
marked_is_none c is plain =
    let unmarked : marked c ≡ false = is_marked c ∙ tests_plain c plain in
    cc

pub plain_marks : Marks IsPlain marked
plain_marks = record { unmarked = λ c is. plain_tests c (sym (is_marked c) ∙ is); marked = marked_is_none }

-- the mask of the block of w bytes at offset `place`, with one bit a byte
abbrev pub mask_at : ℕ → List ℕ → ℕ → ℕ
mask_at w bytes place = mask_l (map (top 7) (marked_lanes w (take w (drop place bytes)))) % 2 ^ 64

pub mask_is : (w : ℕ) (bytes : List ℕ) (place : ℕ) → w ≤ 64 → place + w ≤ length bytes → mask_at w bytes place ≡ mask_l (map marked (take w (drop place bytes)))
mask_is w bytes place small room = marks_of_block (take w (drop place bytes)) w (length-chunk place w bytes room) small
