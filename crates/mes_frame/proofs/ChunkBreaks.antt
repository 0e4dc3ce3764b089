-- If a byte after a part of a chunked body shows a fault, the decoder fails at that byte with that
-- fault.
use Rattle.std.proofs.Common.{◌≡◌, ℕ, ◌+◌, ◌<◌, ◌⊎◌, true, false, List, [], ◌∷◌, length, refl, ap, sym, inl, inr, subst, arith}
use Rattle.std.proofs.lemmas.Int.Digits.{digits_value_push}
use Rattle.std.specs.Str.Parse.{digits_value}
use Rattle.mes_frame.specs.Chunk.{Line, size_of, trailers_bytes, IsPlain}
use Rattle.mes_frame.specs.ChunkFront.{InSize, InTrailer}
use Rattle.mes_frame.specs.ChunkFaults.{EndsNoSize, ShowsBadLine, ShowsLongLine, ShowsLargeChunk, ShowsBadEnd, ShowsLongTrailers, PartShows}
use Rattle.mes_frame.specs.ChunkState.{PhaseRepresents}
use Rattle.mes_frame.specs.declared.limits.TheConstants.{MAX_CHUNK_LINE, MAX_TRAILERS}
use Rattle.mes_frame.specs.declared.fault.FrameFault.{FrameFault}
use Rattle.mes_frame.specs.declared.fault.FrameFault.TheVariants.{BadChunkLine, ChunkLineTooLong, ChunkTooLarge, BadChunkEnd, TrailersTooLong, BadSizeLine, SizeLineTooLong, RecordTooLarge}
use Rattle.mes_frame.specs.declared.chunk.Phase.{Phase}
use Rattle.mes_frame.specs.declared.chunk.Phase.TheVariants.{Size, Extension, LineEnd, Data, DataEnd, Trailer, TrailerEnd, End}
use Rattle.mes_frame.proofs.ChunkRun.{fail, after}
use Rattle.mes_frame.proofs.ChunkBytes.{at_large, at_long_size, at_bad_first, at_bad_size, at_long_rest, at_bad_rest, at_bad_line, at_bad_data, at_bad_chunk, at_bare_first, at_bare, at_long_first, at_long, at_long_end, at_bad_end, at_no_end}

-- a phase represents the part x with the data d, and fails at the byte b
pub record Breaks (x d : List ℕ) (b : ℕ) (fault : FrameFault) : Type 0 where
  pub phase : Phase
  pub represents : PhaseRepresents phase x d
  pub step : after phase b ≡ fail fault

bad_size : (x d : List ℕ) (b : ℕ) → InSize x d → length x < MAX_CHUNK_LINE → EndsNoSize x b → Breaks x d b BadChunkLine
bad_size [] d b part remaining ends = record { phase = Size 0 0; represents = (part, refl, refl); step = at_bad_first 0 b ends.0 }
bad_size (c ∷ x) d b part remaining ends =
    let goes_on = ends.1 (omega arith) in
    record {
      phase = Size (length (c ∷ x)) (digits_value 16 (c ∷ x));
      represents = (part, refl, refl);
      step = at_bad_size (length (c ∷ x)) (digits_value 16 (c ∷ x)) b remaining ends.0 goes_on.0 goes_on.1;
    }

bad_line : (x d : List ℕ) (b : ℕ) → ShowsBadLine x d b → Breaks x d b BadChunkLine
bad_line x d b shows = elim shows [
  | inl h ↦ bad_size x d b h.0 h.1 h.2
  | inr g ↦ elim g [
    | inl h ↦ record { phase = Extension (length x) (size_of h.0); represents = (h.0, h.1, refl, refl); step = at_bad_rest (length x) (size_of h.0) b h.2 h.3 h.4 }
    | inr h ↦ record { phase = LineEnd (size_of h.0); represents = (h.0, h.1, refl); step = at_bad_line (size_of h.0) b h.2 }
  ]
]

long_line : (x d : List ℕ) (b : ℕ) → ShowsLongLine x d b → Breaks x d b ChunkLineTooLong
long_line x d b shows = elim shows [
  | inl h ↦
      let full = h.1 in
      record { phase = Size (length x) (digits_value 16 x); represents = (h.0, refl, refl); step = at_long_size (length x) (digits_value 16 x) b (omega arith) h.2 }
  | inr h ↦
      let full = h.2 in
      record { phase = Extension (length x) (size_of h.0); represents = (h.0, h.1, refl, refl); step = at_long_rest (length x) (size_of h.0) b (omega arith) h.3 }
]

large_chunk : (x d : List ℕ) (b : ℕ) → ShowsLargeChunk x d b → Breaks x d b ChunkTooLarge
large_chunk x d b (part, remaining, digit, over) =
    let sum = digits_value_push 16 x b in
    record {
      phase = Size (length x) (digits_value 16 x);
      represents = (part, refl, refl);
      step = at_large (length x) (digits_value 16 x) b digit remaining (omega arith);
    }

bad_trailer : (l : Line) (ts : List (List ℕ)) (t x d : List ℕ) (b : ℕ) → InTrailer l ts t x d → b ≡ 10 → (t ≡ []) ⊎ (length (trailers_bytes ts) + length t < MAX_TRAILERS) → Breaks x d b BadChunkEnd
bad_trailer l ts [] x d b part lf remaining = record {
  phase = Trailer (length (trailers_bytes ts) + 0) false;
  represents = (l, ts, [], part, refl, refl);
  step = subst (λ (c : ℕ). after (Trailer (length (trailers_bytes ts) + 0) false) c ≡ fail BadChunkEnd) (sym lf) (at_bare_first (length (trailers_bytes ts) + 0));
}
bad_trailer l ts (c ∷ t) x d b part lf remaining =
    let used : ℕ = length (trailers_bytes ts) + length (c ∷ t) in
    let some : used < MAX_TRAILERS = elim remaining [ inl h ↦ let clash = ap length h in absurd (omega arith) | inr h ↦ h ] in
    record {
      phase = Trailer used true;
      represents = (l, ts, c ∷ t, part, refl, omega arith);
      step = subst (λ (e : ℕ). after (Trailer used true) e ≡ fail BadChunkEnd) (sym lf) (at_bare used some);
    }

bad_end : (x d : List ℕ) (b : ℕ) → ShowsBadEnd x d b → Breaks x d b BadChunkEnd
bad_end x d b shows = elim shows [
  | inl h ↦ record { phase = Data 0; represents = (h.0, h.1); step = at_bad_data b h.2 }
  | inr g ↦ elim g [
    | inl h ↦ record { phase = DataEnd; represents = (h.0, h.1); step = at_bad_chunk b h.2 }
    | inr g ↦ elim g [
      | inl h ↦ bad_trailer h.0 h.1 h.2 x d b h.3 h.4 h.5
      | inr g ↦ elim g [
        | inl h ↦ record {
          phase = TrailerEnd (length (trailers_bytes h.1) + length h.2 + 1);
          represents = (h.0, h.1, h.2, h.3, refl);
          step = at_bad_end (length (trailers_bytes h.1) + length h.2 + 1) b h.5 h.4;
        }
        | inr h ↦ record { phase = End; represents = (h.0, h.1, h.2); step = at_no_end b h.3 }
      ]
    ]
  ]
]

long_trailer : (l : Line) (ts : List (List ℕ)) (t x d : List ℕ) (b : ℕ) → InTrailer l ts t x d → length (trailers_bytes ts) + length t ≡ MAX_TRAILERS → (t ≡ [] → IsPlain b) → Breaks x d b TrailersTooLong
long_trailer l ts [] x d b part full plain = record {
  phase = Trailer (length (trailers_bytes ts) + 0) false;
  represents = (l, ts, [], part, refl, refl);
  step = at_long_first (length (trailers_bytes ts) + 0) b (omega arith) (plain refl);
}
long_trailer l ts (c ∷ t) x d b part full plain = record {
  phase = Trailer (length (trailers_bytes ts) + length (c ∷ t)) true;
  represents = (l, ts, c ∷ t, part, refl, omega arith);
  step = at_long (length (trailers_bytes ts) + length (c ∷ t)) b (omega arith);
}

long_trailers : (x d : List ℕ) (b : ℕ) → ShowsLongTrailers x d b → Breaks x d b TrailersTooLong
long_trailers x d b shows = elim shows [
  | inl h ↦ long_trailer h.0 h.1 h.2 x d b h.3 h.4 h.5
  | inr h ↦
      let full = h.4 in
      record {
        phase = TrailerEnd (length (trailers_bytes h.1) + length h.2 + 1);
        represents = (h.0, h.1, h.2, h.3, refl);
        step = at_long_end (length (trailers_bytes h.1) + length h.2 + 1) b (omega arith);
      }
]

pub breaks : (x d : List ℕ) (b : ℕ) (fault : FrameFault) → PartShows x d b fault → Breaks x d b fault
breaks x d b BadChunkLine shows = bad_line x d b shows
breaks x d b ChunkLineTooLong shows = long_line x d b shows
breaks x d b ChunkTooLarge shows = large_chunk x d b shows
breaks x d b BadChunkEnd shows = bad_end x d b shows
breaks x d b TrailersTooLong shows = long_trailers x d b shows
breaks x d b BadSizeLine shows = absurd shows
breaks x d b SizeLineTooLong shows = absurd shows
breaks x d b RecordTooLarge shows = absurd shows
