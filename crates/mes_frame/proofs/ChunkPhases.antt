-- Every open part of a chunked body is represented by a phase, and the decoder is in that phase
-- after the part.
use Rattle.std.proofs.Common.{◌≡◌, ℕ, ◌+◌, Bool, true, false, List, [], ◌∷◌, ◌++◌, length, refl, ap, sym, ◌∙◌, inl, inr, subst, arith}
use Rattle.std.proofs.lemmas.List.{append-nil}
use Rattle.std.specs.Str.Parse.{digits_value}
use Rattle.mes_frame.specs.Chunk.{Line, size_of, line_bytes, trailers_bytes, ending}
use Rattle.mes_frame.specs.ChunkFront.{InSize, InExtension, AfterLine, InData, AfterData, InTrailer, AfterTrailer, AfterEnding, IsPart}
use Rattle.mes_frame.specs.ChunkState.{IsBegun, PhaseRepresents}
use Rattle.mes_frame.specs.declared.chunk.Phase.{Phase}
use Rattle.mes_frame.specs.declared.chunk.Phase.TheVariants.{Size, Extension, LineEnd, Data, DataEnd, Trailer, TrailerEnd, End, Closed, Failed}
use Rattle.mes_frame.proofs.ChunkRun.{start, Goes, stays, by_quiet, and_then, goes_as}
use Rattle.mes_frame.proofs.ChunkBytes.{at_empty}
use Rattle.mes_frame.proofs.ChunkGoes.{goes_digits, goes_extended, goes_line, goes_data, goes_whole_data, goes_begun, goes_trailer_cr, goes_ending}

size_reaches : (count size : ℕ) (x d : List ℕ) → InSize x d → count ≡ length x → size ≡ digits_value 16 x → Goes start x (Size count size) d
size_reaches count size x d part len value =
    let short = part.short in
    let fits = part.fits in
    goes_as _ _ x x d [] refl part.empty (goes_digits x 0 0 count size part.hex (omega arith) (omega arith) value (omega arith))

extension_reaches : (count size : ℕ) (l : Line) (x d : List ℕ) → InExtension l x d → count ≡ length x → size ≡ size_of l → Goes start x (Extension count size) d
extension_reaches count size l x d part len value =
    let spelt = ap length part.spelt in
    subst (λ (n : ℕ). Goes start x (Extension count n) d) (sym value)
    (goes_as _ _ x (line_bytes l) d [] part.spelt part.empty (goes_extended l count part.line part.some (omega arith)))

line_reaches : (size : ℕ) (l : Line) (x d : List ℕ) → AfterLine l x d → size ≡ size_of l → Goes start x (LineEnd size) d
line_reaches size l x d part value =
    subst (λ (n : ℕ). Goes start x (LineEnd n) d) (sym value)
    (goes_as _ _ x (line_bytes l ++ 13 ∷ []) d [] part.spelt part.empty (goes_line l _ [] [] part.line (stays _ _ refl)))

data_reaches : (left : ℕ) (l : Line) (x d : List ℕ) → InData l left x d → Goes start x (Data left) d
data_reaches left l x d part =
    goes_as _ _ x (line_bytes l ++ (13 ∷ 10 ∷ (d ++ []))) d d (part.spelt ∙ ap (λ (y : List ℕ). line_bytes l ++ (13 ∷ 10 ∷ y)) (sym (append-nil d))) refl
    (goes_data l left _ d [] part.line part.size part.some (stays _ _ refl))

data_end_reaches : (l : Line) (x d : List ℕ) → AfterData l x d → Goes start x DataEnd d
data_end_reaches l x d part =
    goes_as _ _ x (line_bytes l ++ (13 ∷ 10 ∷ (d ++ 13 ∷ []))) d d part.spelt refl
    (goes_whole_data (record { line = l; bytes = d }) _ [] part.chunk (stays _ _ refl))

trailer_reaches : (used : ℕ) (begun : Bool) (l : Line) (ts : List (List ℕ)) (t x d : List ℕ) → InTrailer l ts t x d → used ≡ length (trailers_bytes ts) + length t → IsBegun begun t → Goes start x (Trailer used begun) d
trailer_reaches used false l ts t x d part len none =
    let zero_long = ap length none in
    goes_as _ _ x (ending l ts) d [] (part.spelt ∙ ap (λ (y : List ℕ). ending l ts ++ y) none ∙ append-nil (ending l ts)) part.empty
    (goes_ending l ts used part.ends (omega arith))
trailer_reaches used true l ts t x d part len some =
    let short = part.short in
    goes_as _ _ x (ending l ts ++ t) d [] part.spelt part.empty
    (and_then _ _ _ (ending l ts) t [] [] (goes_ending l ts (length (trailers_bytes ts)) part.ends refl)
    (goes_begun t (length (trailers_bytes ts)) used some part.plain len (omega arith)))

trailer_end_reaches : (used : ℕ) (l : Line) (ts : List (List ℕ)) (t x d : List ℕ) → AfterTrailer l ts t x d → used ≡ length (trailers_bytes ts) + length t + 1 → Goes start x (TrailerEnd used) d
trailer_end_reaches used l ts t x d part len =
    let short = part.short in
    goes_as _ _ x (ending l ts ++ (t ++ 13 ∷ [])) d [] part.spelt part.empty
    (and_then _ _ _ (ending l ts) (t ++ 13 ∷ []) [] [] (goes_ending l ts (length (trailers_bytes ts)) part.ends refl)
    (goes_trailer_cr t (length (trailers_bytes ts)) used part.is_trailer len (omega arith)))

end_reaches : (l : Line) (ts : List (List ℕ)) (x d : List ℕ) → AfterEnding l ts x d → Goes start x End d
end_reaches l ts x d part =
    goes_as _ _ x (ending l ts ++ 13 ∷ []) d [] part.spelt part.empty
    (and_then _ _ _ (ending l ts) (13 ∷ []) [] [] (goes_ending l ts (length (trailers_bytes ts)) part.ends refl)
    (by_quiet _ _ _ 13 [] [] (at_empty (length (trailers_bytes ts))) (stays _ _ refl)))

pub place_reaches : (p : Phase) (x d : List ℕ) → PhaseRepresents p x d → Goes start x p d
place_reaches (Size count size) x d (part, len, value) = size_reaches count size x d part len value
place_reaches (Extension count size) x d (l, part, len, value) = extension_reaches count size l x d part len value
place_reaches (LineEnd size) x d (l, part, value) = line_reaches size l x d part value
place_reaches (Data left) x d (l, part) = data_reaches left l x d part
place_reaches DataEnd x d (l, part) = data_end_reaches l x d part
place_reaches (Trailer used begun) x d (l, ts, t, part, len, is) = trailer_reaches used begun l ts t x d part len is
place_reaches (TrailerEnd used) x d (l, ts, t, part, len) = trailer_end_reaches used l ts t x d part len
place_reaches End x d (l, ts, part) = end_reaches l ts x d part
place_reaches Closed x d represents = absurd represents
place_reaches (Failed fault) x d represents = absurd represents

-- a phase represents the part x with the data d
pub record AtPlace (x d : List ℕ) : Type 0 where
  pub phase : Phase
  pub represents : PhaseRepresents phase x d

in_size : (x d : List ℕ) → InSize x d → AtPlace x d
in_size x d part = record { phase = Size (length x) (digits_value 16 x); represents = (part, refl, refl) }

in_extension : (l : Line) (x d : List ℕ) → InExtension l x d → AtPlace x d
in_extension l x d part = record { phase = Extension (length x) (size_of l); represents = (l, part, refl, refl) }

in_trailer : (l : Line) (ts : List (List ℕ)) (t x d : List ℕ) → InTrailer l ts t x d → AtPlace x d
in_trailer l ts [] x d part = record { phase = Trailer (length (trailers_bytes ts) + 0) false; represents = (l, ts, [], part, refl, refl) }
in_trailer l ts (b ∷ t) x d part =
    record { phase = Trailer (length (trailers_bytes ts) + length (b ∷ t)) true; represents = (l, ts, b ∷ t, part, refl, omega arith) }

in_trailer_end : (l : Line) (ts : List (List ℕ)) (t x d : List ℕ) → AfterTrailer l ts t x d → AtPlace x d
in_trailer_end l ts t x d part = record { phase = TrailerEnd (length (trailers_bytes ts) + length t + 1); represents = (l, ts, t, part, refl) }

pub at_place : (x d : List ℕ) → IsPart x d → AtPlace x d
at_place x d part = elim part [
  | inl h ↦ in_size x d h
  | inr g ↦ elim g [
    | inl h ↦ in_extension h.0 x d h.1
    | inr g ↦ elim g [
      | inl h ↦ record { phase = LineEnd (size_of h.0); represents = (h.0, h.1, refl) }
      | inr g ↦ elim g [
        | inl h ↦ record { phase = Data h.1; represents = (h.0, h.2) }
        | inr g ↦ elim g [
          | inl h ↦ record { phase = DataEnd; represents = h }
          | inr g ↦ elim g [
            | inl h ↦ in_trailer h.0 h.1 h.2 x d h.3
            | inr g ↦ elim g [
              | inl h ↦ in_trailer_end h.0 h.1 h.2 x d h.3
              | inr h ↦ record { phase = End; represents = h }
            ]
          ]
        ]
      ]
    ]
  ]
]
