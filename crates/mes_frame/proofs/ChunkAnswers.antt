-- Every byte after a part of a chunked body has a result: the byte continues the part, ends a chunk
-- or the body, or is an error.
use Rattle.std.proofs.Common.{◌≡◌, ◌≢◌, ℕ, ◌+◌, ◌-◌, ◌*◌, ◌^◌, ◌<◌, ◌≤◌, ◌⊎◌, true, false, List, [], ◌∷◌, ◌++◌, length, refl, ap, sym, ◌∙◌, inl, inr, subst, append_assoc, arith, length-append}
use Rattle.std.proofs.lemmas.Bool.{cases_eq, cases_lt}
use Rattle.std.proofs.lemmas.List.{append-nil}
use Rattle.std.specs.Char.{digit_value}
use Rattle.mes_frame.specs.Chunk.{Line, line_bytes, size_of, Chunk, IsChunk, BeginsExtension, IsExtensionByte, ending, IsEnding}
use Rattle.mes_frame.specs.ChunkFront.{InSize, InData, AfterData, InTrailer, AfterTrailer}
use Rattle.mes_frame.specs.ChunkFaults.{PartShows}
use Rattle.mes_frame.specs.ChunkState.{PhaseRepresents, PhaseSteps}
use Rattle.mes_frame.specs.declared.limits.TheConstants.{MAX_CHUNK_LINE, MAX_TRAILERS}
use Rattle.mes_frame.specs.declared.fault.FrameFault.{FrameFault}
use Rattle.mes_frame.specs.declared.fault.FrameFault.TheVariants.{BadChunkLine, ChunkLineTooLong, ChunkTooLarge, BadChunkEnd, TrailersTooLong}
use Rattle.mes_frame.specs.declared.chunk.Phase.{Phase}
use Rattle.mes_frame.specs.declared.chunk.Phase.TheVariants.{Size, Extension, LineEnd, Data, DataEnd, Trailer, TrailerEnd, End, Closed, Failed}
use Rattle.mes_frame.specs.declared.chunk.ChunkOut.{ChunkOut}
use Rattle.mes_frame.specs.declared.chunk.ChunkOut.TheVariants as out
use Rattle.mes_frame.proofs.Chunks.{digit_kept, digit_too_large, size_shows, size_ends, extension_begins, extension_kept, trailer_kept, trailer_ends, body_ends}

-- for the byte b after the part x with the data d: a result and the next phase
pub record Answer (x d : List ℕ) (b : ℕ) : Type 0 where
  pub phase : Phase
  pub answer : ChunkOut
  pub steps : PhaseSteps phase x d b answer

quietly : (p : Phase) (x d : List ℕ) (b : ℕ) → PhaseRepresents p (x ++ b ∷ []) d → Answer x d b
quietly p x d b represents = record { phase = p; answer = out.Quiet; steps = inl represents }

quietly_at : (p : Phase) (x d : List ℕ) (b c : ℕ) → b ≡ c → PhaseRepresents p (x ++ c ∷ []) d → Answer x d b
quietly_at p x d b c is represents = subst (Answer x d) (sym is) (quietly p x d c represents)

shows : (fault : FrameFault) (x d : List ℕ) (b : ℕ) → PartShows x d b fault → Answer x d b
shows fault x d b is = record { phase = Failed fault; answer = out.Fault fault; steps = (is, refl) }

begins_or_not : (b : ℕ) → BeginsExtension b ⊎ (BeginsExtension b → ⊥)
begins_or_not b = elim (cases_eq b 59) [
  | inl is ↦ inl (inl is)
  | inr other ↦ elim (cases_eq b 32) [
    | inl is ↦ inl (inr (inl is))
    | inr more ↦ elim (cases_eq b 9) [
      | inl is ↦ inl (inr (inr is))
      | inr none ↦ inr (λ h. elim h [ inl e ↦ other e | inr g ↦ elim g [ inl e ↦ more e | inr e ↦ none e ] ])
    ]
  ]
]

byte_or_not : (b : ℕ) → IsExtensionByte b ⊎ (IsExtensionByte b → ⊥)
byte_or_not b = elim (cases_eq b 9) [
  | inl is ↦ inl (inl is)
  | inr other ↦ elim (cases_lt b 32) [
    | inl low ↦ inr (λ h. elim h [ inl e ↦ other e | inr g ↦ let least = g.0 in omega arith ])
    | inr least ↦ elim (cases_eq b 127) [
      | inl del ↦ inr (λ h. elim h [ inl e ↦ other e | inr g ↦ g.1 del ])
      | inr kept ↦ elim (cases_lt b 256) [
        | inl most ↦ inl (inr (least, kept, most))
        | inr high ↦ inr (λ h. elim h [ inl e ↦ other e | inr g ↦ let most = g.2 in omega arith ])
      ]
    ]
  ]
]

no_digit : (count size b : ℕ) (x d : List ℕ) → PhaseRepresents (Size count size) x d → count < MAX_CHUNK_LINE → 16 ≤ digit_value b → (0 < count → b ≡ 13 → ⊥) → Answer x d b
no_digit count size b x d represents remaining other cr = elim (cases_lt 0 count) [
  | inl some ↦ elim (begins_or_not b) [
    | inl begins ↦ quietly (Extension (count + 1) size) x d b (extension_begins count size b x d represents some remaining begins)
    | inr bare ↦ shows BadChunkLine x d b (size_shows count size b x d represents remaining other (λ h. bare) cr)
  ]
  | inr none ↦ shows BadChunkLine x d b (size_shows count size b x d represents remaining other (λ h. absurd (omega arith)) cr)
]

a_digit : (count size b : ℕ) (x d : List ℕ) → PhaseRepresents (Size count size) x d → count < MAX_CHUNK_LINE → digit_value b < 16 → Answer x d b
a_digit count size b x d represents remaining digit = elim (cases_lt (size * 16 + digit_value b) (2 ^ 64)) [
  | inl fits ↦ quietly (Size (count + 1) (size * 16 + digit_value b)) x d b (digit_kept count size (digit_value b) b x d represents remaining refl digit fits)
  | inr over ↦ shows ChunkTooLarge x d b (digit_too_large count size (digit_value b) b x d represents remaining refl digit over)
]

full_size : (count size b : ℕ) (x d : List ℕ) → PhaseRepresents (Size count size) x d → MAX_CHUNK_LINE ≤ count → b ≢ 13 → Answer x d b
full_size count size b x d (part, len, value) full other = let short = part.short in shows ChunkLineTooLong x d b (inl (part, omega arith, other))

behind_size : (count size b : ℕ) (x d : List ℕ) → PhaseRepresents (Size count size) x d → Answer x d b
behind_size count size b x d represents = elim (cases_eq b 13) [
  | inl cr ↦ elim (cases_lt 0 count) [
    | inl some ↦ quietly_at (LineEnd size) x d b 13 cr (size_ends count size x d represents some)
    | inr none ↦ let value = ap digit_value cr in no_digit count size b x d represents (omega arith) (omega arith) (λ some. absurd (omega arith))
  ]
  | inr other ↦ elim (cases_lt count MAX_CHUNK_LINE) [
    | inl remaining ↦ elim (cases_lt (digit_value b) 16) [
      | inl digit ↦ a_digit count size b x d represents remaining digit
      | inr none ↦ no_digit count size b x d represents remaining none (λ some. other)
    ]
    | inr full ↦ full_size count size b x d represents full other
  ]
]

behind_extension : (count size b : ℕ) (x d : List ℕ) → PhaseRepresents (Extension count size) x d → Answer x d b
behind_extension count size b x d (l, part, len, value) = elim (cases_eq b 13) [
  | inl cr ↦ quietly_at (LineEnd size) x d b 13 cr
      (l, record { line = part.line; spelt = ap (λ (y : List ℕ). y ++ 13 ∷ []) part.spelt; empty = part.empty }, value)
  | inr other ↦ elim (cases_lt count MAX_CHUNK_LINE) [
    | inl remaining ↦ elim (byte_or_not b) [
      | inl is ↦ quietly (Extension (count + 1) size) x d b (extension_kept count size b x d (l, part, len, value) remaining is)
      | inr bare ↦ shows BadChunkLine x d b (inr (inl (l, part, omega arith, bare, other)))
    ]
    | inr full ↦
        let lens = ap length part.spelt in
        let whole = length-append l.size l.extension in
        let short = part.line.short in
        shows ChunkLineTooLong x d b (inr (l, part, omega arith, other))
  ]
]

line_spelt : (l : Line) (x : List ℕ) → x ≡ line_bytes l ++ 13 ∷ [] → x ++ 10 ∷ [] ≡ line_bytes l ++ (13 ∷ 10 ∷ [])
line_spelt l x is = ap (λ (y : List ℕ). y ++ 10 ∷ []) is ∙ append_assoc (line_bytes l) (13 ∷ []) (10 ∷ [])

behind_line : (size b : ℕ) (x d : List ℕ) → PhaseRepresents (LineEnd size) x d → Answer x d b
behind_line size b x d (l, part, value) = elim (cases_eq b 10) [
  | inl lf ↦ elim (cases_lt 0 (size_of l)) [
    | inl some ↦
        let zero_long = ap length part.empty in
        let data_is : InData l (size_of l) (x ++ 10 ∷ []) d = record {
          line = part.line;
          spelt = line_spelt l x part.spelt ∙ ap (λ (y : List ℕ). line_bytes l ++ (13 ∷ 10 ∷ y)) (sym part.empty);
          size = omega arith;
          some = some;
        } in
        quietly_at (Data (size_of l)) x d b 10 lf (l, data_is)
    | inr none ↦
        let ends : IsEnding l [] = record { line = part.line; zero_size = omega arith; each = tt; short = omega arith } in
        let trailer : InTrailer l [] [] (x ++ 10 ∷ []) d = record {
          ends = ends;
          plain = tt;
          short = omega arith;
          spelt = line_spelt l x part.spelt ∙ sym (append-nil (ending l []));
          empty = part.empty;
        } in
        quietly_at (Trailer 0 false) x d b 10 lf (l, [], [], trailer, refl, refl)
  ]
  | inr other ↦ shows BadChunkLine x d b (inr (inr (l, part, other)))
]

data_push : (l : Line) (left b : ℕ) (x d : List ℕ) → InData l left x d → 0 < left → InData l (left - 1) (x ++ b ∷ []) (d ++ b ∷ [])
data_push l left b x d part more =
    let len = length-append d (b ∷ []) in
    let size = part.size in
    record {
      line = part.line;
      spelt = ap (λ (y : List ℕ). y ++ b ∷ []) part.spelt ∙ append_assoc (line_bytes l) (13 ∷ 10 ∷ d) (b ∷ []);
      size = omega arith;
      some = part.some;
    }

behind_data : (left b : ℕ) (x d : List ℕ) → PhaseRepresents (Data left) x d → Answer x d b
behind_data left b x d (l, part) = elim (cases_lt 0 left) [
  | inl some ↦ record { phase = Data (left - 1); answer = out.Byte; steps = (l, data_push l left b x d part some) }
  | inr none ↦
      let zero_left : left ≡ 0 = omega arith in
      let at_end : InData l 0 x d = subst (λ (n : ℕ). InData l n x d) zero_left part in
      let size = at_end.size in
      let some = at_end.some in
      elim (cases_eq b 13) [
        | inl cr ↦
            let chunk : IsChunk (record { line = l; bytes = d }) = record { line = part.line; size = omega arith; some = omega arith } in
            let whole : AfterData l (x ++ 13 ∷ []) d = record {
              chunk = chunk;
              spelt = ap (λ (y : List ℕ). y ++ 13 ∷ []) part.spelt ∙ append_assoc (line_bytes l) (13 ∷ 10 ∷ d) (13 ∷ []);
            } in
            quietly_at DataEnd x d b 13 cr (l, whole)
        | inr other ↦ shows BadChunkEnd x d b (inl (l, at_end, other))
      ]
]

behind_data_cr : (b : ℕ) (x d : List ℕ) → PhaseRepresents DataEnd x d → Answer x d b
behind_data_cr b x d (l, part) = elim (cases_eq b 10) [
  | inl lf ↦
      let c : Chunk = record { line = l; bytes = d } in
      let none : InSize [] [] = record { hex = tt; fits = omega arith; short = omega arith; empty = refl } in
      let spelt : x ++ 10 ∷ [] ≡ line_bytes l ++ (13 ∷ 10 ∷ (d ++ 13 ∷ 10 ∷ [])) = ap (λ (y : List ℕ). y ++ 10 ∷ []) part.spelt ∙ simp append_assoc in
      let ended : Answer x d 10 = record { phase = Size 0 0; answer = out.Quiet; steps = inr (c, part.chunk, spelt, refl, (none, refl, refl)) } in
      subst (Answer x d) (sym lf) ended
  | inr other ↦ shows BadChunkEnd x d b (inr (inl (l, part, other)))
]

behind_trailers : (used b : ℕ) (x d : List ℕ) → PhaseRepresents (Trailer used false) x d → Answer x d b
behind_trailers used b x d (l, ts, t, part, len, none) = elim (cases_eq b 13) [
  | inl cr ↦
      let spelt : x ++ 13 ∷ [] ≡ ending l ts ++ 13 ∷ [] =
      ap (λ (y : List ℕ). y ++ 13 ∷ []) (part.spelt ∙ ap (λ (y : List ℕ). ending l ts ++ y) none ∙ append-nil (ending l ts)) in
      quietly_at End x d b 13 cr (l, ts, record { ends = part.ends; spelt = spelt; empty = part.empty })
  | inr no_cr ↦ elim (cases_eq b 10) [
    | inl lf ↦ shows BadChunkEnd x d b (inr (inr (inl (l, ts, t, part, lf, inl none))))
    | inr no_lf ↦ elim (cases_lt used MAX_TRAILERS) [
      | inl remaining ↦ quietly (Trailer (used + 1) true) x d b (trailer_kept used b false x d (l, ts, t, part, len, none) remaining (no_cr, no_lf))
      | inr full ↦ let short = part.short in shows TrailersTooLong x d b (inl (l, ts, t, part, omega arith, λ h. (no_cr, no_lf)))
    ]
  ]
]

behind_trailer : (used b : ℕ) (x d : List ℕ) → PhaseRepresents (Trailer used true) x d → Answer x d b
behind_trailer used b x d (l, ts, t, part, len, some) = elim (cases_lt used MAX_TRAILERS) [
  | inl remaining ↦ elim (cases_eq b 13) [
    | inl cr ↦
        let ended : AfterTrailer l ts t (x ++ 13 ∷ []) d = record {
          ends = part.ends;
          is_trailer = (some, part.plain);
          short = omega arith;
          spelt = ap (λ (y : List ℕ). y ++ 13 ∷ []) part.spelt ∙ append_assoc (ending l ts) t (13 ∷ []);
          empty = part.empty;
        } in
        quietly_at (TrailerEnd (used + 1)) x d b 13 cr (l, ts, t, ended, omega arith)
    | inr no_cr ↦ elim (cases_eq b 10) [
      | inl lf ↦ shows BadChunkEnd x d b (inr (inr (inl (l, ts, t, part, lf, inr (omega arith)))))
      | inr no_lf ↦ quietly (Trailer (used + 1) true) x d b (trailer_kept used b true x d (l, ts, t, part, len, some) remaining (no_cr, no_lf))
    ]
  ]
  | inr full ↦
      let short = part.short in
      shows TrailersTooLong x d b (inl (l, ts, t, part, omega arith, λ none. let zero_long = ap length none in absurd (omega arith)))
]

behind_trailer_cr : (used b : ℕ) (x d : List ℕ) → PhaseRepresents (TrailerEnd used) x d → Answer x d b
behind_trailer_cr used b x d (l, ts, t, part, len) = elim (cases_lt used MAX_TRAILERS) [
  | inl remaining ↦ elim (cases_eq b 10) [
    | inl lf ↦ quietly_at (Trailer (used + 1) false) x d b 10 lf (trailer_ends used x d (l, ts, t, part, len) remaining)
    | inr other ↦ shows BadChunkEnd x d b (inr (inr (inr (inl (l, ts, t, part, other, omega arith)))))
  ]
  | inr full ↦ let short = part.short in shows TrailersTooLong x d b (inr (l, ts, t, part, omega arith))
]

behind_end_cr : (b : ℕ) (x d : List ℕ) → PhaseRepresents End x d → Answer x d b
behind_end_cr b x d (l, ts, part) = elim (cases_eq b 10) [
  | inl lf ↦
      let closed : Answer x d 10 = record { phase = Closed; answer = out.Closed; steps = (body_ends l ts x d part, part.empty, refl) } in
      subst (Answer x d) (sym lf) closed
  | inr other ↦ shows BadChunkEnd x d b (inr (inr (inr (inr (l, ts, part, other)))))
]

pub answer_at : (p : Phase) (b : ℕ) (x d : List ℕ) → PhaseRepresents p x d → Answer x d b
answer_at (Size count size) b x d represents = behind_size count size b x d represents
answer_at (Extension count size) b x d represents = behind_extension count size b x d represents
answer_at (LineEnd size) b x d represents = behind_line size b x d represents
answer_at (Data left) b x d represents = behind_data left b x d represents
answer_at DataEnd b x d represents = behind_data_cr b x d represents
answer_at (Trailer used false) b x d represents = behind_trailers used b x d represents
answer_at (Trailer used true) b x d represents = behind_trailer used b x d represents
answer_at (TrailerEnd used) b x d represents = behind_trailer_cr used b x d represents
answer_at End b x d represents = behind_end_cr b x d represents
answer_at Closed b x d represents = absurd represents
answer_at (Failed fault) b x d represents = absurd represents
