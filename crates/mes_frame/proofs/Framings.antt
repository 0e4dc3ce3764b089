-- The bytes written for a body or a record are unique, and are read back as that body or record.
use Rattle.std.proofs.Common.{◌≡◌, ℕ, zero, suc, ◌+◌, ◌/◌, ◌%◌, ◌^◌, ◌<◌, ◌≤◌, Bool, true, false, cond, ◌==◌, List, [], ◌∷◌, ◌++◌, length, take, drop, map, refl, ap, sym, ◌∙◌, arith, take-append-drop}
use Rattle.std.proofs.lemmas.Fmt.{digits_is_IsNumeral, decimal_is_IsNumeral, length-decimal-le}
use Rattle.std.proofs.lemmas.List.{append-nil, length-take}
use Rattle.std.specs.Fmt.{digits, digits_onto, digit_glyph}
use Rattle.std.specs.List.{AllByRecursion, flat_map}
use Rattle.mes_frame.specs.Chunk.{Line, Chunk, IsChunk, IsEnding, IsChunked, chunk_bytes, chunks_bytes, data_of}
use Rattle.mes_frame.specs.Frames.{record_bytes, IsCut, IsFrames, piece_bytes}
use Rattle.mes_frame.specs.Record.{IsRecord}
use Rattle.mes_frame.proofs.Chunking.{some_cut}

no_piece : (most : ℕ) (body p : List ℕ) → body ≡ [] → 0 < length p → p ≡ take most body → ⊥
no_piece most body p none some front =
    let len = length-take most body in
    let same : length p ≡ length (take most body) = ap length front in
    let empty : length body ≡ 0 = ap length none in
    omega arith

-- a body and a chunk size determine the pieces
one_cut : (most : ℕ) (body : List ℕ) (ps qs : List (List ℕ)) → IsCut most body ps → IsCut most body qs → ps ≡ qs
one_cut most body [] [] cut other = refl
one_cut most body [] (q ∷ qs) cut other = absurd (no_piece most body q cut other.0 other.1)
one_cut most body (p ∷ ps) [] cut other = absurd (no_piece most body p other cut.0 cut.1)
one_cut most body (p ∷ ps) (q ∷ qs) cut other =
    let rest = one_cut most (drop most body) ps qs cut.2 other.2 in
    let first : p ≡ q = cut.1 ∙ sym other.1 in
    cc

pub framing_is_unique : (body w v : List ℕ) (most : ℕ) → IsFrames body most w → IsFrames body most v → w ≡ v
framing_is_unique body w v most framed other =
    let same = one_cut most body framed.pieces other.pieces framed.cut other.cut in
    framed.spelt ∙ ap (λ (ps : List (List ℕ)). flat_map piece_bytes ps ++ (48 ∷ 13 ∷ 10 ∷ 13 ∷ 10 ∷ [])) same ∙ sym other.spelt

pub some_framing : (body : List ℕ) (most : ℕ) → 1 ≤ most → (w : List ℕ) × IsFrames body most w
some_framing body most some =
    let cut = some_cut most body some in
    (flat_map piece_bytes cut.0 ++ (48 ∷ 13 ∷ 10 ∷ 13 ∷ 10 ∷ []), record { pieces = cut.0; cut = cut.1; spelt = refl })

-- each step adds at most one digit, so a size has at most 64 digits
few_by : (t : Bool) (k g : ℕ) (acc more : List ℕ) → length more ≤ k + length (g ∷ acc) → length (cond t (g ∷ acc) more) ≤ suc k + length acc
few_by true k g acc more few = omega arith
few_by false k g acc more few = omega arith

few_onto : (k n : ℕ) (acc : List ℕ) → length (digits_onto k 16 false n acc) ≤ k + length acc
few_onto zero n acc = omega arith
few_onto (suc k) n acc =
    let g = digit_glyph false (n % 16) in
    few_by (n / 16 == 0) k g acc (digits_onto k 16 false (n / 16) (g ∷ acc)) (few_onto k (n / 16) (g ∷ acc))

few_digits : (n : ℕ) → length (digits 16 false n) ≤ 64
unfolding digits
few_digits n = few_onto 64 n []

chunk_of : List ℕ → Chunk
chunk_of p = record { line = record { size = digits 16 false (length p); extension = [] }; bytes = p }

is_chunk : (p : List ℕ) → 0 < length p → length p < 2 ^ 64 → IsChunk (chunk_of p)
unfolding chunk_of
is_chunk p some small =
    let numeral = digits_is_IsNumeral 16 false (omega arith) (omega arith) (length p) (omega arith) in
    let few = few_digits (length p) in
    record {
      line = record { some = numeral.0.0; hex = numeral.0.1; fits = omega (arith, numeral.1); extension = tt; short = omega arith };
      size = numeral.1;
      some = some;
    }

zero_line : Line
zero_line = record { size = 48 ∷ []; extension = [] }

is_ending : IsEnding zero_line []
unfolding zero_line
is_ending = record {
  line = record { some = omega arith; hex = (omega arith, tt); fits = omega arith; extension = tt; short = omega arith };
  zero_size = refl;
  each = tt;
  short = omega arith;
}

each_chunk : (most : ℕ) (body : List ℕ) (ps : List (List ℕ)) → most < 2 ^ 64 → IsCut most body ps → AllByRecursion IsChunk (map chunk_of ps)
each_chunk most body [] small cut = tt
each_chunk most body (p ∷ ps) small cut =
    let len = length-take most body in
    let same : length p ≡ length (take most body) = ap length cut.1 in
    (is_chunk p cut.0 (omega arith), each_chunk most (drop most body) ps small cut.2)

chunk_spelt : (p : List ℕ) → piece_bytes p ≡ chunk_bytes (chunk_of p)
unfolding chunk_of
chunk_spelt p = ap (λ (line : List ℕ). line ++ (13 ∷ 10 ∷ (p ++ 13 ∷ 10 ∷ []))) (sym (append-nil (digits 16 false (length p))))

chunks_spelt : (ps : List (List ℕ)) → flat_map piece_bytes ps ≡ chunks_bytes (map chunk_of ps)
chunks_spelt [] = refl
chunks_spelt (p ∷ ps) = let first = chunk_spelt p in let rest = chunks_spelt ps in ap (λ (s : List ℕ). s ++ flat_map piece_bytes ps) first ∙ ap (λ (s : List ℕ). chunk_bytes (chunk_of p) ++ s) rest

content : (most : ℕ) (body : List ℕ) (ps : List (List ℕ)) → IsCut most body ps → body ≡ data_of (map chunk_of ps)
unfolding chunk_of
content most body [] cut = cut
content most body (p ∷ ps) cut =
    sym (take-append-drop most body) ∙ ap (λ (s : List ℕ). s ++ drop most body) (sym cut.1) ∙ ap (λ (s : List ℕ). p ++ s) (content most (drop most body) ps cut.2)

-- the written bytes are a chunked body with the same data
pub framing_is_chunked : (body w : List ℕ) (most : ℕ) → most < 2 ^ 64 → IsFrames body most w → IsChunked w body
unfolding zero_line
framing_is_chunked body w most small framed = record {
  chunks = map chunk_of framed.pieces;
  last = zero_line;
  trailers = [];
  each = each_chunk most body framed.pieces small framed.cut;
  ends = is_ending;
  spelt = framed.spelt ∙ ap (λ (s : List ℕ). s ++ (48 ∷ 13 ∷ 10 ∷ 13 ∷ 10 ∷ [])) (chunks_spelt framed.pieces);
  content = content most body framed.pieces framed.cut;
}

pub written_is_record : (r : List ℕ) (limit : ℕ) → length r < 2 ^ 64 → length r ≤ limit → IsRecord (record_bytes r) r limit
written_is_record r limit small within =
    let numeral = decimal_is_IsNumeral (length r) small in
    record {
      size = digits 10 false (length r);
      is_size = record { begun = record { digits = numeral.0.1; few = length-decimal-le 20 (length r) (omega arith) (omega arith) small }; some = numeral.0.0 };
      spelt = refl;
      value = numeral.1;
      within = within;
    }
