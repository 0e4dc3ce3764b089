-- Chunks of a body: how they follow one another, and that those of written frames are read back.
use Rattle.std.proofs.Common.{◌≡◌, ℕ, zero, suc, ◌+◌, ◌/◌, ◌%◌, ◌^◌, ◌<◌, ◌≤◌, Bool, true, false, cond, ◌==◌, List, [], ◌∷◌, ◌++◌, length, take, drop, refl, ap, sym, subst, ◌∙◌, arith, take-append-drop}
use Rattle.std.proofs.lemmas.Fmt.{digits_is_IsNumeral}
use Rattle.std.proofs.lemmas.Grind.{flat_map-append}
use Rattle.std.proofs.lemmas.List.{append-nil, append_cancel_right, length-take}
use Rattle.std.specs.Fmt.{digits, digits_onto, digit_glyph}
use Rattle.std.specs.List.{AllByRecursion, flat_map}
use Rattle.mes_frame.specs.Chunk.{Line, Chunk, IsChunk, IsEnding, IsChunked, chunk_bytes, chunks_bytes, data_of}
use Rattle.mes_frame.specs.Frames.{IsCut, IsFrames, piece_bytes}
use Rattle.mes_frame.proofs.Chunks.{all_append}
use Rattle.mes_double_live.specs.Bodies.{last_chunk}

-- the bytes are chunks with this data
pub record AreChunks (bytes content : List ℕ) : Type 0 where
  pub chunks : List Chunk
  pub each : AllByRecursion IsChunk chunks
  pub spelt : bytes ≡ chunks_bytes chunks
  pub data_is : content ≡ data_of chunks

pub no-chunks : AreChunks [] []
no-chunks = record { chunks = []; each = tt; spelt = refl; data_is = refl }

pub chunks-then : (a b x y : List ℕ) → AreChunks a x → AreChunks b y → AreChunks (a ++ b) (x ++ y)
chunks-then a b x y first next =
    let bytes = flat_map-append chunk_bytes first.chunks next.chunks in
    let content = flat_map-append (λ (c : Chunk). c.bytes) first.chunks next.chunks in
    record {
      chunks = first.chunks ++ next.chunks;
      each = all_append IsChunk first.chunks next.chunks first.each next.each;
      spelt = ap (λ (l : List ℕ). l ++ b) first.spelt ∙ ap (λ (l : List ℕ). chunks_bytes first.chunks ++ l) next.spelt ∙ sym bytes;
      data_is = ap (λ (l : List ℕ). l ++ y) first.data_is ∙ ap (λ (l : List ℕ). data_of first.chunks ++ l) next.data_is ∙ sym content;
    }

-- ---- a last-chunk after chunks

zero_line : Line
zero_line = record { size = 48 ∷ []; extension = [] }

is_ending : IsEnding zero_line []
unfolding zero_line
is_ending = record {
  line = record { some = omega arith; hex = (omega arith, tt); fits = omega arith; extension = tt; short = omega arith };
  zero_size = refl;
  each = tt;
  short = omega arith;
}

pub chunks-end : (bytes content : List ℕ) → AreChunks bytes content → IsChunked (bytes ++ last_chunk) content
unfolding zero_line
chunks-end bytes content are = record {
  chunks = are.chunks;
  last = zero_line;
  trailers = [];
  each = are.each;
  ends = is_ending;
  spelt = ap (λ (l : List ℕ). l ++ last_chunk) are.spelt;
  content = are.data_is;
}

-- ---- the chunks of written frames

-- each step adds at most one digit, so a size has at most 64 digits
few_by : (t : Bool) (k g : ℕ) (acc more : List ℕ) → length more ≤ k + length (g ∷ acc) → length (cond t (g ∷ acc) more) ≤ suc k + length acc
few_by true k g acc more few = omega arith
few_by false k g acc more few = omega arith

few_onto : (k n : ℕ) (acc : List ℕ) → length (digits_onto k 16 false n acc) ≤ k + length acc
few_onto zero n acc = omega arith
few_onto (suc k) n acc =
    let g = digit_glyph false (n % 16) in
    few_by (n / 16 == 0) k g acc (digits_onto k 16 false (n / 16) (g ∷ acc)) (few_onto k (n / 16) (g ∷ acc))

few_digits : (n : ℕ) → length (digits 16 false n) ≤ 64
unfolding digits
few_digits n = few_onto 64 n []

chunk_of : List ℕ → Chunk
chunk_of p = record { line = record { size = digits 16 false (length p); extension = [] }; bytes = p }

is_chunk : (p : List ℕ) → 0 < length p → length p < 2 ^ 64 → IsChunk (chunk_of p)
unfolding chunk_of
is_chunk p some small =
    let numeral = digits_is_IsNumeral 16 false (omega arith) (omega arith) (length p) (omega arith) in
    let few = few_digits (length p) in
    record {
      line = record { some = numeral.0.0; hex = numeral.0.1; fits = omega (arith, numeral.1); extension = tt; short = omega arith };
      size = numeral.1;
      some = some;
    }

one-chunk : (p : List ℕ) → 0 < length p → length p < 2 ^ 64 → AreChunks (piece_bytes p) p
unfolding chunk_of
one-chunk p some small = record {
  chunks = chunk_of p ∷ [];
  each = (is_chunk p some small, tt);
  spelt = ap (λ (line : List ℕ). line ++ (13 ∷ 10 ∷ (p ++ 13 ∷ 10 ∷ []))) (sym (append-nil (digits 16 false (length p)))) ∙ sym (append-nil _);
  data_is = sym (append-nil p);
}

pieces-are : (most : ℕ) (body : List ℕ) (pieces : List (List ℕ)) → most < 2 ^ 64 → IsCut most body pieces → AreChunks (flat_map piece_bytes pieces) body
pieces-are most body [] small cut = let P : List ℕ → Type 0 = λ x. AreChunks [] x in subst P (sym cut) no-chunks
pieces-are most body (p ∷ pieces) small cut =
    let len = length-take most body in
    let same : length p ≡ length (take most body) = ap length cut.1 in
    let all = chunks-then _ _ _ _ (one-chunk p cut.0 (omega arith)) (pieces-are most (drop most body) pieces small cut.2) in
    let joined : p ++ drop most body ≡ body = ap (λ (s : List ℕ). s ++ drop most body) cut.1 ∙ take-append-drop most body in
    subst (λ (x : List ℕ). AreChunks (flat_map piece_bytes (p ∷ pieces)) x) joined all

pub frames-are : (most : ℕ) (bytes content : List ℕ) → most < 2 ^ 64 → IsFrames content most (bytes ++ last_chunk) → AreChunks bytes content
frames-are most bytes content small frames =
    let same : bytes ≡ flat_map piece_bytes frames.pieces = append_cancel_right bytes _ last_chunk frames.spelt in
    subst (λ (x : List ℕ). AreChunks x content) (sym same) (pieces-are most content frames.pieces small frames.cut)
