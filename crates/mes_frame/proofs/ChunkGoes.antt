-- The decoder's steps over each part of a chunked body lead from one phase to another.
use Rattle.std.proofs.Common.{◌≡◌, ℕ, ◌+◌, ◌*◌, ◌^◌, ◌<◌, ◌≤◌, true, false, List, [], ◌∷◌, ◌++◌, length, refl, ap, ap₂, sym, ◌∙◌, append_assoc, arith, length-append}
use Rattle.std.proofs.lemmas.List.{append-nil}
use Rattle.std.specs.Char.{digit_value}
use Rattle.std.specs.List.{AllByRecursion}
use Rattle.std.specs.Str.Parse.{AllDigits, digits_value_after}
use Rattle.mes_frame.specs.Chunk.{Line, IsExtension, IsExtensionByte, line_bytes, size_of, IsLine, Chunk, chunk_bytes, IsChunk, IsPlain, IsTrailer, trailer_bytes, trailers_bytes, ending, IsEnding, chunks_bytes, data_of}
use Rattle.mes_frame.specs.declared.limits.TheConstants.{MAX_CHUNK_LINE, MAX_TRAILERS}
use Rattle.mes_frame.specs.declared.chunk.Phase.{Phase}
use Rattle.mes_frame.specs.declared.chunk.Phase.TheVariants.{Size, Extension, LineEnd, Data, DataEnd, Trailer, TrailerEnd}
use Rattle.mes_frame.proofs.ChunkRun.{start, quiet, after, Goes, stays, by_quiet, by_data, and_then, goes_as, quiet_behind}
use Rattle.mes_frame.proofs.ChunkBytes.{at_digit, at_size_end, at_extension, at_rest, at_rest_end, at_line, at_last_line, at_data, at_data_end, at_chunk, at_trailer, at_trailer_end, at_line_of}

value_grows : (x : List ℕ) (v : ℕ) → v ≤ digits_value_after 16 v x
value_grows [] v = omega arith
value_grows (b ∷ x) v = let more = value_grows x (v * 16 + digit_value b) in omega arith

pub goes_digits : (x : List ℕ) (count size end total : ℕ) → AllDigits 16 x → end ≡ count + length x → end ≤ MAX_CHUNK_LINE → total ≡ digits_value_after 16 size x → total < 2 ^ 64 → Goes (Size count size) x (Size end total) []
goes_digits [] count size end total hex len short value fits = stays _ _ (ap₂ Size (omega arith) (sym value))
goes_digits (b ∷ x) count size end total hex len short value fits =
    let grows = value_grows x (size * 16 + digit_value b) in
    by_quiet _ _ _ b x [] (at_digit count size b hex.0 (omega arith) (omega arith))
    (goes_digits x (count + 1) (size * 16 + digit_value b) end total hex.1 (omega arith) short value fits)

goes_rest : (x : List ℕ) (count size end : ℕ) → AllByRecursion IsExtensionByte x → end ≡ count + length x → end ≤ MAX_CHUNK_LINE → Goes (Extension count size) x (Extension end size) []
goes_rest [] count size end each len short = stays _ _ (ap (λ (n : ℕ). Extension n size) (omega arith))
goes_rest (b ∷ x) count size end each len short =
    by_quiet _ _ _ b x [] (at_rest count size b (omega arith) each.0) (goes_rest x (count + 1) size end each.1 (omega arith) short)

goes_extension : (x : List ℕ) (count size end : ℕ) → 0 < count → 0 < length x → IsExtension x → end ≡ count + length x → end ≤ MAX_CHUNK_LINE → Goes (Size count size) x (Extension end size) []
goes_extension [] count size end some more is len short = absurd (omega arith)
goes_extension (b ∷ x) count size end some more is len short =
    by_quiet _ _ _ b x [] (at_extension count size b some (omega arith) is.0) (goes_rest x (count + 1) size end is.1 (omega arith) short)

goes_size : (l : Line) → IsLine l → Goes start l.size (Size (length l.size) (size_of l)) []
goes_size l line = let short = line.short in goes_digits l.size 0 0 (length l.size) (size_of l) line.hex (omega arith) (omega arith) refl line.fits

pub goes_extended : (l : Line) (end : ℕ) → IsLine l → 0 < length l.extension → end ≡ length (line_bytes l) → Goes start (line_bytes l) (Extension end (size_of l)) []
goes_extended l end line some is =
    let len = length-append l.size l.extension in
    let short = line.short in
    quiet_behind _ _ _ l.size l.extension [] (goes_size l line)
    (goes_extension l.extension (length l.size) (size_of l) end line.some some line.extension (omega arith) (omega arith))

record LineStands (l : Line) : Type 0 where
  phase : Phase
  goes : Goes start (line_bytes l) phase []
  step : after phase 13 ≡ quiet (LineEnd (size_of l))

line_stands_by : (l : Line) (extension : List ℕ) → l.extension ≡ extension → IsLine l → LineStands l
line_stands_by l [] same line = record {
  phase = Size (length l.size) (size_of l);
  goes = goes_as _ _ (line_bytes l) l.size [] [] (ap (λ (y : List ℕ). l.size ++ y) same ∙ append-nil l.size) refl (goes_size l line);
  step = at_size_end (length l.size) (size_of l) line.some;
}
line_stands_by l (b ∷ x) same line =
    let len = ap length same in
    record {
      phase = Extension (length (line_bytes l)) (size_of l);
      goes = goes_extended l (length (line_bytes l)) line (omega arith) refl;
      step = at_rest_end (length (line_bytes l)) (size_of l);
    }

pub goes_line : (l : Line) (q : Phase) (y d : List ℕ) → IsLine l → Goes (LineEnd (size_of l)) y q d → Goes start (line_bytes l ++ (13 ∷ y)) q d
goes_line l q y d line goes =
    let represents = line_stands_by l l.extension refl line in
    and_then _ _ _ (line_bytes l) (13 ∷ y) [] d represents.goes (by_quiet _ _ _ 13 y d represents.step goes)

goes_bytes : (d : List ℕ) (size left : ℕ) → size ≡ length d + left → Goes (Data size) d (Data left) d
goes_bytes [] size left sum = stays _ _ (ap Data (omega arith))
goes_bytes (b ∷ d) size left sum = by_data _ _ _ b d d (at_data size b (omega arith)) (goes_bytes d _ left (omega arith))

pub goes_data : (l : Line) (left : ℕ) (q : Phase) (d y : List ℕ) → IsLine l → size_of l ≡ length d + left → 0 < size_of l → Goes (Data left) y q [] → Goes start (line_bytes l ++ (13 ∷ 10 ∷ (d ++ y))) q d
goes_data l left q d y line size some goes =
    goes_line l q (10 ∷ (d ++ y)) d line
    (by_quiet _ _ _ 10 (d ++ y) d (at_line (size_of l) some) (quiet_behind _ _ _ d y d (goes_bytes d (size_of l) left size) goes))

pub goes_whole_data : (c : Chunk) (q : Phase) (y : List ℕ) → IsChunk c → Goes DataEnd y q [] → Goes start (line_bytes c.line ++ (13 ∷ 10 ∷ (c.bytes ++ 13 ∷ y))) q c.bytes
goes_whole_data c q y chunk goes =
    let size = chunk.size in
    let some = chunk.some in
    goes_data c.line 0 q c.bytes (13 ∷ y) chunk.line (omega arith) (omega arith) (by_quiet _ _ _ 13 y [] at_data_end goes)

goes_chunk : (c : Chunk) → IsChunk c → Goes start (chunk_bytes c) start c.bytes
goes_chunk c chunk = goes_whole_data c start (10 ∷ []) chunk (by_quiet _ _ _ 10 [] [] at_chunk (stays start start refl))

pub goes_chunks : (cs : List Chunk) → AllByRecursion IsChunk cs → Goes start (chunks_bytes cs) start (data_of cs)
goes_chunks [] each = stays start start refl
goes_chunks (c ∷ cs) each = and_then _ _ _ (chunk_bytes c) (chunks_bytes cs) c.bytes (data_of cs) (goes_chunk c each.0) (goes_chunks cs each.1)

goes_plain : (t : List ℕ) (used end : ℕ) → AllByRecursion IsPlain t → end ≡ used + length t → end ≤ MAX_TRAILERS → Goes (Trailer used true) t (Trailer end true) []
goes_plain [] used end plain len short = stays _ _ (ap (λ (n : ℕ). Trailer n true) (omega arith))
goes_plain (b ∷ t) used end plain len short =
    by_quiet _ _ _ b t [] (at_trailer used b true (omega arith) plain.0) (goes_plain t (used + 1) end plain.1 (omega arith) short)

pub goes_begun : (t : List ℕ) (used end : ℕ) → 0 < length t → AllByRecursion IsPlain t → end ≡ used + length t → end ≤ MAX_TRAILERS → Goes (Trailer used false) t (Trailer end true) []
goes_begun [] used end some plain len short = absurd (omega arith)
goes_begun (b ∷ t) used end some plain len short =
    by_quiet _ _ _ b t [] (at_trailer used b false (omega arith) plain.0) (goes_plain t (used + 1) end plain.1 (omega arith) short)

pub goes_trailer_cr : (t : List ℕ) (used end : ℕ) → IsTrailer t → end ≡ used + length t + 1 → end ≤ MAX_TRAILERS → Goes (Trailer used false) (t ++ 13 ∷ []) (TrailerEnd end) []
goes_trailer_cr t used end trailer len short =
    let phase : used + length t + 1 ≡ end = sym len in
    quiet_behind _ _ _ t (13 ∷ []) [] (goes_begun t used (used + length t) trailer.0 trailer.1 refl (omega arith))
    (by_quiet _ _ _ 13 [] [] (at_trailer_end (used + length t) (omega arith)) (stays _ _ (ap TrailerEnd phase)))

goes_trailer : (t : List ℕ) (used end : ℕ) → IsTrailer t → end ≡ used + length t + 2 → end ≤ MAX_TRAILERS → Goes (Trailer used false) (trailer_bytes t) (Trailer end false) []
goes_trailer t used end trailer len short =
    goes_as _ _ (trailer_bytes t) ((t ++ 13 ∷ []) ++ 10 ∷ []) [] [] (sym (append_assoc t (13 ∷ []) (10 ∷ []))) refl
    (quiet_behind _ _ _ (t ++ 13 ∷ []) (10 ∷ []) [] (goes_trailer_cr t used (used + length t + 1) trailer refl (omega arith))
    (by_quiet _ _ _ 10 [] [] (at_line_of (used + length t + 1) (omega arith)) (stays _ _ (ap (λ (n : ℕ). Trailer n false) (omega arith)))))

goes_trailers : (ts : List (List ℕ)) (used end : ℕ) → AllByRecursion IsTrailer ts → end ≡ used + length (trailers_bytes ts) → end ≤ MAX_TRAILERS → Goes (Trailer used false) (trailers_bytes ts) (Trailer end false) []
goes_trailers [] used end each len short = stays _ _ (ap (λ (n : ℕ). Trailer n false) (omega arith))
goes_trailers (t ∷ ts) used end each len short =
    let first = length-append t (13 ∷ 10 ∷ []) in
    let both = length-append (trailer_bytes t) (trailers_bytes ts) in
    quiet_behind _ _ _ (trailer_bytes t) (trailers_bytes ts) [] (goes_trailer t used (used + length t + 2) each.0 refl (omega arith))
    (goes_trailers ts (used + length t + 2) end each.1 (omega arith) short)

pub goes_ending : (l : Line) (ts : List (List ℕ)) (end : ℕ) → IsEnding l ts → end ≡ length (trailers_bytes ts) → Goes start (ending l ts) (Trailer end false) []
goes_ending l ts end ends is =
    let short = ends.short in
    goes_line l _ (10 ∷ trailers_bytes ts) [] ends.line
    (by_quiet _ _ _ 10 (trailers_bytes ts) [] (at_last_line (size_of l) ends.zero_size) (goes_trailers ts 0 end ends.each (omega arith) (omega arith)))
