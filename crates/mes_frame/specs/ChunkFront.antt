-- A chunked body that has not ended: whole chunks, then a part of a chunk or of the body's end. For
-- each part, x is the bytes of the part so far, and d is the data among them.
use Rattle.std.specs.Prelude.{◌≡◌, ℕ, ◌+◌, ◌^◌, ◌<◌, ◌≤◌, ◌⊎◌, List, [], ◌∷◌, ◌++◌, length}
use Rattle.std.specs.List.{AllByRecursion}
use Rattle.std.specs.Str.Parse.{AllDigits, digits_value}
use Rattle.mes_frame.specs.Chunk.{Line, IsLine, line_bytes, size_of, Chunk, IsChunk, IsPlain, IsTrailer, trailers_bytes, ending, IsEnding, chunks_bytes, data_of}
use Rattle.mes_frame.specs.declared.limits.TheConstants.{MAX_CHUNK_LINE, MAX_TRAILERS}

-- x is the digits of chunk-size so far, perhaps none
pub record InSize (x d : List ℕ) : Type 0 where
  pub hex : AllDigits 16 x
  pub fits : digits_value 16 x < 2 ^ 64
  pub short : length x ≤ MAX_CHUNK_LINE
  pub empty : d ≡ []

-- x is the bytes of the line l so far: chunk-size and at least one byte of chunk-ext
pub record InExtension (l : Line) (x d : List ℕ) : Type 0 where
  pub line : IsLine l
  pub some : 0 < length l.extension
  pub spelt : x ≡ line_bytes l
  pub empty : d ≡ []

-- x is the chunk's line l and a CR
pub record AfterLine (l : Line) (x d : List ℕ) : Type 0 where
  pub line : IsLine l
  pub spelt : x ≡ line_bytes l ++ 13 ∷ []
  pub empty : d ≡ []

-- x is the line l, CRLF and the chunk-data d so far, with `left` bytes to come
pub record InData (l : Line) (left : ℕ) (x d : List ℕ) : Type 0 where
  pub line : IsLine l
  pub spelt : x ≡ line_bytes l ++ (13 ∷ 10 ∷ d)
  pub size : size_of l ≡ length d + left
  pub some : 0 < size_of l

-- x is the line l, CRLF, the chunk-data d and a CR
pub record AfterData (l : Line) (x d : List ℕ) : Type 0 where
  pub chunk : IsChunk (record { line = l; bytes = d })
  pub spelt : x ≡ line_bytes l ++ (13 ∷ 10 ∷ (d ++ 13 ∷ []))

-- x is last-chunk, the trailer lines ts, and the bytes t of a next line, perhaps none
pub record InTrailer (l : Line) (ts : List (List ℕ)) (t x d : List ℕ) : Type 0 where
  pub ends : IsEnding l ts
  pub plain : AllByRecursion IsPlain t
  pub short : length (trailers_bytes ts) + length t ≤ MAX_TRAILERS
  pub spelt : x ≡ ending l ts ++ t
  pub empty : d ≡ []

-- x is last-chunk, the trailer lines ts, the trailer line t and a CR
pub record AfterTrailer (l : Line) (ts : List (List ℕ)) (t x d : List ℕ) : Type 0 where
  pub ends : IsEnding l ts
  pub is_trailer : IsTrailer t
  pub short : length (trailers_bytes ts) + length t < MAX_TRAILERS
  pub spelt : x ≡ ending l ts ++ (t ++ 13 ∷ [])
  pub empty : d ≡ []

-- x is last-chunk, the trailer lines ts and the CR of the empty line
pub record AfterEnding (l : Line) (ts : List (List ℕ)) (x d : List ℕ) : Type 0 where
  pub ends : IsEnding l ts
  pub spelt : x ≡ ending l ts ++ 13 ∷ []
  pub empty : d ≡ []

abbrev pub IsPart : List ℕ → List ℕ → Type 0
IsPart x d =
    InSize x d
    ⊎ ((l : Line) × InExtension l x d)
    ⊎ ((l : Line) × AfterLine l x d)
    ⊎ ((l : Line) × (left : ℕ) × InData l left x d)
    ⊎ ((l : Line) × AfterData l x d)
    ⊎ ((l : Line) × (ts : List (List ℕ)) × (t : List ℕ) × InTrailer l ts t x d)
    ⊎ ((l : Line) × (ts : List (List ℕ)) × (t : List ℕ) × AfterTrailer l ts t x d)
    ⊎ ((l : Line) × (ts : List (List ℕ)) × AfterEnding l ts x d)

-- w is whole chunks and then a part with the property P, and `body` is all data in w
pub record After (P : List ℕ → List ℕ → Type 0) (w body : List ℕ) : Type 0 where
  pub chunks : List Chunk
  pub each : AllByRecursion IsChunk chunks
  pub part : List ℕ
  pub represents : List ℕ
  pub is : P part represents
  pub spelt : w ≡ chunks_bytes chunks ++ part
  pub content : body ≡ data_of chunks ++ represents

-- w is an open body with the data `body`: a prefix of a chunked body that has not ended
abbrev pub IsOpen : List ℕ → List ℕ → Type 0
IsOpen w body = After IsPart w body
