-- One comparison of a block of bytes finds those at the front that need no escape (`IsKept`).
use Rattle.std.proofs.Common.{◌≡◌, ℕ, ◌+◌, ◌%◌, ◌^◌, ◌≤◌, Bool, true, false, cond, ◌||◌, ltb, eqb, List, [], ◌∷◌, length, map, replicate, take, drop, bit_or, refl, ap, sym, ◌∙◌, arith}
use Rattle.std.proofs.lemmas.Bool.Decides.{nat_tests}
use Rattle.std.proofs.lemmas.List.{length-map}
use Rattle.std.proofs.lemmas.Simd.{mask_l-mod, length-chunk}
use Rattle.std.specs.Simd.Lanes.{zip2, mask_l, top}
use Rattle.mes_json.specs.Canonical.{IsKept}
use Rattle.mes_json.proofs.FrontLemmas.{Marks}

abbrev lane : Bool → ℕ
lane b = cond b 255 0

-- the mask bit of the byte c: set by three tests if c needs an escape
abbrev pub marked : ℕ → Bool
marked c = top 7 (bit_or (bit_or (lane (ltb c 32)) (lane (eqb c 34))) (lane (eqb c 92)))

abbrev pub marked_lanes : ℕ → List ℕ → List ℕ
marked_lanes n xs =
    zip2 bit_or
    (zip2 bit_or (zip2 (λ a b. cond (ltb a b) 255 0) xs (replicate n 32)) (zip2 (λ a b. cond (eqb a b) 255 0) xs (replicate n 34)))
    (zip2 (λ a b. cond (eqb a b) 255 0) xs (replicate n 92))

by_lanes : (xs : List ℕ) → map (top 7) (marked_lanes (length xs) xs) ≡ map marked xs
by_lanes [] = refl
by_lanes (c ∷ xs) = ap (λ (rest : List Bool). marked c ∷ rest) (by_lanes xs)

marks_of_block : (xs : List ℕ) (n : ℕ) → length xs ≡ n → n ≤ 64 → mask_l (map (top 7) (marked_lanes n xs)) % 2 ^ 64 ≡ mask_l (map marked xs)
marks_of_block xs n long small =
    ap (λ (m : ℕ). mask_l (map (top 7) (marked_lanes m xs)) % 2 ^ 64) (sym long) ∙ ap (λ (bs : List Bool). mask_l bs % 2 ^ 64) (by_lanes xs)
    ∙ mask_l-mod (map marked xs) 64 (omega (arith, length-map xs marked))

joined : (a b c : Bool) → top 7 (bit_or (bit_or (lane a) (lane b)) (lane c)) ≡ ((a || b) || c)
joined true true true = refl
joined true true false = refl
joined true false true = refl
joined true false false = refl
joined false true true = refl
joined false true false = refl
joined false false true = refl
joined false false false = refl

is_marked : (c : ℕ) → marked c ≡ ((ltb c 32 || eqb c 34) || eqb c 92)
is_marked c = joined (ltb c 32) (eqb c 34) (eqb c 92)

kept_tests : (c : ℕ) → ((ltb c 32 || eqb c 34) || eqb c 92) ≡ false → IsKept c
kept_tests c tests = grind (arith, nat_tests)

tests_kept : (c : ℕ) → IsKept c → ((ltb c 32 || eqb c 34) || eqb c 92) ≡ false
tests_kept c kept = grind (arith, nat_tests)

marked_is_none : (c : ℕ) → marked c ≡ true → IsKept c → ⊥
marked_is_none c is kept =
    let unmarked : marked c ≡ false = is_marked c ∙ tests_kept c kept in
    cc

pub kept_marks : Marks IsKept marked
kept_marks = record { unmarked = λ c is. kept_tests c (sym (is_marked c) ∙ is); marked = marked_is_none }

-- the mask of the block at offset `place`, with one bit a byte
abbrev pub mask_at : List ℕ → ℕ → ℕ
mask_at bytes place = mask_l (map (top 7) (marked_lanes 16 (take 16 (drop place bytes)))) % 2 ^ 64

pub mask_is : (bytes : List ℕ) (place : ℕ) → place + 16 ≤ length bytes → mask_at bytes place ≡ mask_l (map marked (take 16 (drop place bytes)))
mask_is bytes place room = marks_of_block (take 16 (drop place bytes)) 16 (length-chunk place 16 bytes room) (omega arith)
