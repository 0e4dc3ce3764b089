-- Lemmas about base64_blocks.rt: the values of sixteen letters are packed into twelve bytes.
use Rattle.std.proofs.Common.{◌≡◌, ℕ, zero, suc, ◌+◌, ◌*◌, ◌/◌, ◌%◌, ◌^◌, ◌<◌, ◌≤◌, List, [], ◌∷◌, ◌++◌, map, length, get_or, take, drop, refl, sym, ap, subst, ◌∙◌, arith}
use Rattle.std.proofs.lemmas.Simd.{get_or_narrower, Each1-get_or, put_chunk_is}
use Rattle.std.proofs.Math.Seq.{take-add}
use borrow.Rule.Slice.PartMut.{put_mid}
use Rattle.std.proofs.lemmas.List.{drop_all, drop_more}
use lib.Lanes.{zip2, pair_sums, number_l, digits_l, pick_l, put_chunk, Each1}
use Rattle.base64.specs.Rfc4648.{encode_symbols, encode_group}
use Rattle.base64.specs.GeneralPurpose.{encode_of, engine_symbols}
use Rattle.base64.specs.Engines.{standard}
use Rattle.mes_model_schema.specs.LetterValues.{letter_of, value_of, IsLetter}
use Rattle.mes_model_schema.proofs.LetterLemmas.{written_front}

-- ---- four values are packed into three bytes

-- the three bytes of a 24-bit number, the highest byte first
abbrev pub three_of : ℕ → List ℕ
three_of n = (n / 65536 % 256) ∷ (n / 256 % 256) ∷ (n / 1 % 256) ∷ []

group_of : (a b c d n : ℕ) → a < 64 → b < 64 → c < 64 → d < 64 → n ≡ (a * 64 + b) * 4096 + (c * 64 + d)
    → encode_group (engine_symbols standard) (n / 65536 % 256) (n / 256 % 256) (n / 1 % 256) ≡ letter_of a ∷ letter_of b ∷ letter_of c ∷ letter_of d ∷ []
group_of a b c d n la lb lc ld e =
    let x : ℕ = n / 65536 % 256 in
    let y : ℕ = n / 256 % 256 in
    let z : ℕ = n / 1 % 256 in
    let e0 : x / 4 ≡ a = omega arith in
    let e1 : x % 4 * 16 + y / 16 ≡ b = omega arith in
    let e2 : y % 16 * 4 + z / 64 ≡ c = omega arith in
    let e3 : z % 64 ≡ d = omega arith in
    rw (e0, e1, e2, e3) refl

-- the 24-bit number of four values, computed with two dot products and a shift as in the code
abbrev pub joined : ℕ → ℕ → ℕ → ℕ → ℕ
joined a b c d = (((a * 64 + b * 1) + (c * 0 + d * 0)) * 2 ^ 12 % 2 ^ 32 + ((a * 0 + b * 0) + (c * 64 + d * 1))) % 2 ^ 32

joined_is : (a b c d : ℕ) → a < 64 → b < 64 → c < 64 → d < 64 → joined a b c d ≡ (a * 64 + b) * 4096 + (c * 64 + d)
joined_is a b c d la lb lc ld = omega arith

-- ---- sixteen values are packed into twelve bytes

twelve : (x0 x1 x2 x3 x4 x5 x6 x7 x8 x9 x10 x11 : ℕ)
    → encode_of standard (x0 ∷ x1 ∷ x2 ∷ x3 ∷ x4 ∷ x5 ∷ x6 ∷ x7 ∷ x8 ∷ x9 ∷ x10 ∷ x11 ∷ [])
    ≡ encode_group (engine_symbols standard) x0 x1 x2 ++ encode_group (engine_symbols standard) x3 x4 x5
    ++ encode_group (engine_symbols standard) x6 x7 x8 ++ encode_group (engine_symbols standard) x9 x10 x11
unfolding encode_symbols
twelve x0 x1 x2 x3 x4 x5 x6 x7 x8 x9 x10 x11 = refl

four_lists : {p0 p1 p2 p3 q0 q1 q2 q3 : List ℕ} → p0 ≡ q0 → p1 ≡ q1 → p2 ≡ q2 → p3 ≡ q3 → p0 ++ p1 ++ p2 ++ p3 ≡ q0 ++ q1 ++ q2 ++ q3
four_lists e0 e1 e2 e3 = rw (e0, e1, e2, e3) refl

-- the bytes of four 32-bit numbers, the lowest byte of each first
abbrev pub bytes_of : List ℕ → List ℕ
bytes_of ws = digits_l 256 16 (number_l 4294967296 ws)

-- the indexes of the twelve bytes of the result, then of the four unused bytes
abbrev pub places : List ℕ
places = 2 ∷ 1 ∷ 0 ∷ 6 ∷ 5 ∷ 4 ∷ 10 ∷ 9 ∷ 8 ∷ 14 ∷ 13 ∷ 12 ∷ 3 ∷ 7 ∷ 11 ∷ 15 ∷ []

twelve_same : {x0 x1 x2 x3 x4 x5 x6 x7 x8 x9 x10 x11 y0 y1 y2 y3 y4 y5 y6 y7 y8 y9 y10 y11 : ℕ} → x0 ≡ y0 → x1 ≡ y1 → x2 ≡ y2 → x3 ≡ y3 → x4 ≡ y4 → x5 ≡ y5 → x6 ≡ y6 → x7 ≡ y7 → x8 ≡ y8 → x9 ≡ y9 → x10 ≡ y10 → x11 ≡ y11
    → ◌≡◌ {A = List ℕ} (x0 ∷ x1 ∷ x2 ∷ x3 ∷ x4 ∷ x5 ∷ x6 ∷ x7 ∷ x8 ∷ x9 ∷ x10 ∷ x11 ∷ []) (y0 ∷ y1 ∷ y2 ∷ y3 ∷ y4 ∷ y5 ∷ y6 ∷ y7 ∷ y8 ∷ y9 ∷ y10 ∷ y11 ∷ [])
twelve_same e0 e1 e2 e3 e4 e5 e6 e7 e8 e9 e10 e11 = rw (e0, e1, e2, e3, e4, e5, e6, e7, e8, e9, e10, e11) refl

-- the twelve bytes of the result are three bytes of each number
pub taken : (w0 w1 w2 w3 : ℕ) → w0 < 4294967296 → w1 < 4294967296 → w2 < 4294967296 → w3 < 4294967296
    → take 12 (pick_l 0 (bytes_of (w0 ∷ w1 ∷ w2 ∷ w3 ∷ [])) places) ≡ three_of w0 ++ three_of w1 ++ three_of w2 ++ three_of w3
taken w0 w1 w2 w3 l0 l1 l2 l3 =
    let ws : List ℕ = w0 ∷ w1 ∷ w2 ∷ w3 ∷ [] in
    let fits : Each1 (λ w. w < 4294967296) ws = (l0, (l1, (l2, (l3, tt)))) in
    let at : (j i : ℕ) → i < 4 → 4 * j + i < 16 → get_or (bytes_of ws) (4 * j + i) 0 ≡ get_or ws j 0 / 256 ^ i % 256 = λ j i few in_all. get_or_narrower 4294967296 4 256 16 ws j i refl fits few in_all in
    twelve_same
    (at 0 2 (omega arith) (omega arith)) (at 0 1 (omega arith) (omega arith)) (at 0 0 (omega arith) (omega arith))
    (at 1 2 (omega arith) (omega arith)) (at 1 1 (omega arith) (omega arith)) (at 1 0 (omega arith) (omega arith))
    (at 2 2 (omega arith) (omega arith)) (at 2 1 (omega arith) (omega arith)) (at 2 0 (omega arith) (omega arith))
    (at 3 2 (omega arith) (omega arith)) (at 3 1 (omega arith) (omega arith)) (at 3 0 (omega arith) (omega arith))

-- the bytes that the code computes from sixteen values
abbrev pub packed_lanes : List ℕ → List ℕ
packed_lanes v =
    pick_l 0
    (bytes_of (zip2 (λ a b. (a + b) % 2 ^ 32)
    (zip2 (λ a b. a * 2 ^ b % 2 ^ 32) (pair_sums (pair_sums (zip2 (λ x y. x * y) v (64 ∷ 1 ∷ 0 ∷ 0 ∷ 64 ∷ 1 ∷ 0 ∷ 0 ∷ 64 ∷ 1 ∷ 0 ∷ 0 ∷ 64 ∷ 1 ∷ 0 ∷ 0 ∷ [])))) (12 ∷ 12 ∷ 12 ∷ 12 ∷ []))
    (pair_sums (pair_sums (zip2 (λ x y. x * y) v (0 ∷ 0 ∷ 64 ∷ 1 ∷ 0 ∷ 0 ∷ 64 ∷ 1 ∷ 0 ∷ 0 ∷ 64 ∷ 1 ∷ 0 ∷ 0 ∷ 64 ∷ 1 ∷ [])))))) places

sixteen : (a0 a1 a2 a3 a4 a5 a6 a7 a8 a9 a10 a11 a12 a13 a14 a15 : ℕ) → a0 < 64 → a1 < 64 → a2 < 64 → a3 < 64 → a4 < 64 → a5 < 64 → a6 < 64 → a7 < 64 → a8 < 64 → a9 < 64 → a10 < 64 → a11 < 64 → a12 < 64 → a13 < 64 → a14 < 64 → a15 < 64
    → map letter_of (a0 ∷ a1 ∷ a2 ∷ a3 ∷ a4 ∷ a5 ∷ a6 ∷ a7 ∷ a8 ∷ a9 ∷ a10 ∷ a11 ∷ a12 ∷ a13 ∷ a14 ∷ a15 ∷ []) ≡ encode_of standard (take 12 (packed_lanes (a0 ∷ a1 ∷ a2 ∷ a3 ∷ a4 ∷ a5 ∷ a6 ∷ a7 ∷ a8 ∷ a9 ∷ a10 ∷ a11 ∷ a12 ∷ a13 ∷ a14 ∷ a15 ∷ [])))
sixteen a0 a1 a2 a3 a4 a5 a6 a7 a8 a9 a10 a11 a12 a13 a14 a15 l0 l1 l2 l3 l4 l5 l6 l7 l8 l9 l10 l11 l12 l13 l14 l15 =
    let n0 : ℕ = joined a0 a1 a2 a3 in
    let s0 : n0 ≡ (a0 * 64 + a1) * 4096 + (a2 * 64 + a3) = joined_is a0 a1 a2 a3 l0 l1 l2 l3 in
    let g0 = group_of a0 a1 a2 a3 n0 l0 l1 l2 l3 s0 in
    let f0 : n0 < 4294967296 = omega arith in
    let n1 : ℕ = joined a4 a5 a6 a7 in
    let s1 : n1 ≡ (a4 * 64 + a5) * 4096 + (a6 * 64 + a7) = joined_is a4 a5 a6 a7 l4 l5 l6 l7 in
    let g1 = group_of a4 a5 a6 a7 n1 l4 l5 l6 l7 s1 in
    let f1 : n1 < 4294967296 = omega arith in
    let n2 : ℕ = joined a8 a9 a10 a11 in
    let s2 : n2 ≡ (a8 * 64 + a9) * 4096 + (a10 * 64 + a11) = joined_is a8 a9 a10 a11 l8 l9 l10 l11 in
    let g2 = group_of a8 a9 a10 a11 n2 l8 l9 l10 l11 s2 in
    let f2 : n2 < 4294967296 = omega arith in
    let n3 : ℕ = joined a12 a13 a14 a15 in
    let s3 : n3 ≡ (a12 * 64 + a13) * 4096 + (a14 * 64 + a15) = joined_is a12 a13 a14 a15 l12 l13 l14 l15 in
    let g3 = group_of a12 a13 a14 a15 n3 l12 l13 l14 l15 s3 in
    let f3 : n3 < 4294967296 = omega arith in
    let all : take 12 (packed_lanes (a0 ∷ a1 ∷ a2 ∷ a3 ∷ a4 ∷ a5 ∷ a6 ∷ a7 ∷ a8 ∷ a9 ∷ a10 ∷ a11 ∷ a12 ∷ a13 ∷ a14 ∷ a15 ∷ [])) ≡ three_of n0 ++ three_of n1 ++ three_of n2 ++ three_of n3 = taken n0 n1 n2 n3 f0 f1 f2 f3 in
    sym (ap (encode_of standard) all ∙ twelve _ _ _ _ _ _ _ _ _ _ _ _ ∙ four_lists g0 g1 g2 g3)

-- the n elements of a list from index i on
abbrev from_place : List ℕ → ℕ → ℕ → List ℕ
from_place v zero i = []
from_place v (suc n) i = get_or v i 0 ∷ from_place v n (i + 1)

all_places : (v : List ℕ) (n i : ℕ) → i + n ≡ length v → drop i v ≡ from_place v n i
all_places v zero i e = drop_all i v (omega arith)
all_places v (suc n) i e = drop_more v i 0 (omega arith) ∙ ap (λ (l : List ℕ). get_or v i 0 ∷ l) (all_places v n (i + 1) (omega arith))

pub block_encodes : (v : List ℕ) → length v ≡ 16 → Each1 (λ x. x < 64) v → map letter_of v ≡ encode_of standard (take 12 (packed_lanes v))
block_encodes v long few =
    let at : (i : ℕ) → i < 16 → get_or v i 0 < 64 = λ i less. Each1-get_or (λ x. x < 64) v i 0 (omega (arith, long)) few in
    subst (λ (l : List ℕ). map letter_of l ≡ encode_of standard (take 12 (packed_lanes l))) (sym (all_places v 16 0 (sym long)))
    (sixteen (get_or v 0 0) (get_or v 1 0) (get_or v 2 0) (get_or v 3 0) (get_or v 4 0) (get_or v 5 0) (get_or v 6 0) (get_or v 7 0) (get_or v 8 0) (get_or v 9 0) (get_or v 10 0) (get_or v 11 0) (get_or v 12 0) (get_or v 13 0) (get_or v 14 0) (get_or v 15 0) (at 0 (omega arith)) (at 1 (omega arith)) (at 2 (omega arith)) (at 3 (omega arith)) (at 4 (omega arith)) (at 5 (omega arith)) (at 6 (omega arith)) (at 7 (omega arith)) (at 8 (omega arith)) (at 9 (omega arith)) (at 10 (omega arith)) (at 11 (omega arith)) (at 12 (omega arith)) (at 13 (omega arith)) (at 14 (omega arith)) (at 15 (omega arith)))

-- ---- blocks are decoded one after another

letters_back : (v : List ℕ) → Each1 IsLetter v → map letter_of (map value_of v) ≡ v
letters_back [] letters = refl
letters_back (x ∷ v) letters = rw (letters.0.1, letters_back v letters.1) refl

values_few : (v : List ℕ) → Each1 IsLetter v → Each1 (λ x. x < 64) (map value_of v)
values_few [] letters = tt
values_few (x ∷ v) letters = (letters.0.0, values_few v letters.1)

-- a block of letters is the encoding of the bytes that are packed from the values of the letters
pub letters_encode : (v values bytes : List ℕ) → Each1 IsLetter v → values ≡ map value_of v
    → (Each1 (λ x. x < 64) values → map letter_of values ≡ encode_of standard (take 12 bytes)) → v ≡ encode_of standard (take 12 bytes)
letters_encode v values bytes letters e packs =
    sym (letters_back v letters) ∙ ap (map letter_of) (sym e) ∙ packs (subst (Each1 (λ x. x < 64)) (sym e) (values_few v letters))

pub block_more : (text octets bytes : List ℕ) (b : ℕ) → length bytes ≡ 16 → 12 * b + 16 ≤ length octets
    → take (16 * b) text ≡ encode_of standard (take (12 * b) octets)
    → take 16 (drop (16 * b) text) ≡ encode_of standard (take 12 bytes)
    → take (16 * (b + 1)) text ≡ encode_of standard (take (12 * (b + 1)) (put_chunk (12 * b) octets bytes))
block_more text octets bytes b long room front block =
    let n16 : 16 * (b + 1) ≡ 16 * b + 16 = omega arith in
    let n12 : 12 * (b + 1) ≡ 12 * b + 12 = omega arith in
    let put : put_chunk (12 * b) octets bytes ≡ put_mid (12 * b) (length bytes) octets bytes = put_chunk_is (12 * b) octets bytes (omega (arith, long)) in
    rw (n16, n12, put, take-add (16 * b) 16 text, front, block) (sym (written_front octets bytes (12 * b) 12 (length bytes) (omega arith) (omega arith) (omega (arith, long))))
