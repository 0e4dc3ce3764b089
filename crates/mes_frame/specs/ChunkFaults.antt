-- The byte after an open chunked body at which each fault is detected. F2 takes precedence over F1
-- and F3, and F5 over F4.
use Rattle.std.specs.Prelude.{◌≡◌, ◌≢◌, ℕ, ◌+◌, ◌^◌, ◌<◌, ◌≤◌, ◌⊎◌, List, [], ◌∷◌, ◌++◌, length}
use Rattle.std.specs.Char.{digit_value}
use Rattle.std.specs.Str.Parse.{digits_value}
use Rattle.mes_frame.specs.Chunk.{Line, BeginsExtension, IsExtensionByte, IsPlain, trailers_bytes}
use Rattle.mes_frame.specs.ChunkFront.{InSize, InExtension, AfterLine, InData, AfterData, InTrailer, AfterTrailer, AfterEnding, After}
use Rattle.mes_frame.specs.declared.limits.TheConstants.{MAX_CHUNK_LINE, MAX_TRAILERS}
use Rattle.mes_frame.specs.declared.fault.FrameFault.{FrameFault}
use Rattle.mes_frame.specs.declared.fault.FrameFault.TheVariants.{BadChunkLine, ChunkLineTooLong, ChunkTooLarge, BadChunkEnd, TrailersTooLong, BadSizeLine, SizeLineTooLong, RecordTooLarge}

-- b ends the digits x, but not as a size may end: by an extension or a CR, after at least one digit
abbrev pub EndsNoSize : List ℕ → ℕ → Type 0
EndsNoSize x b = (16 ≤ digit_value b) × (0 < length x → (BeginsExtension b → ⊥) × (b ≢ 13))

-- F1: a byte that a chunk's line cannot contain at this position, such as a LF without CR
abbrev pub ShowsBadLine : List ℕ → List ℕ → ℕ → Type 0
ShowsBadLine x d b =
    (InSize x d × (length x < MAX_CHUNK_LINE) × EndsNoSize x b)
    ⊎ ((l : Line) × InExtension l x d × (length x < MAX_CHUNK_LINE) × (IsExtensionByte b → ⊥) × (b ≢ 13))
    ⊎ ((l : Line) × AfterLine l x d × (b ≢ 10))

-- F2: the byte after MAX_CHUNK_LINE bytes of a chunk's line, if the byte is not a CR
abbrev pub ShowsLongLine : List ℕ → List ℕ → ℕ → Type 0
ShowsLongLine x d b =
    (InSize x d × (length x ≡ MAX_CHUNK_LINE) × (b ≢ 13))
    ⊎ ((l : Line) × InExtension l x d × (length x ≡ MAX_CHUNK_LINE) × (b ≢ 13))

-- F3: the digit at which a chunk's size exceeds 2^64 - 1
abbrev pub ShowsLargeChunk : List ℕ → List ℕ → ℕ → Type 0
ShowsLargeChunk x d b =
    InSize x d × (length x < MAX_CHUNK_LINE) × (digit_value b < 16) × (2 ^ 64 ≤ digits_value 16 (x ++ b ∷ []))

-- F4: no CR LF after chunk-data; after last-chunk, a LF without CR or a CR without LF
abbrev pub ShowsBadEnd : List ℕ → List ℕ → ℕ → Type 0
ShowsBadEnd x d b =
    ((l : Line) × InData l 0 x d × (b ≢ 13))
    ⊎ ((l : Line) × AfterData l x d × (b ≢ 10))
    ⊎ ((l : Line) × (ts : List (List ℕ)) × (t : List ℕ) × InTrailer l ts t x d × (b ≡ 10)
    × ((t ≡ []) ⊎ (length (trailers_bytes ts) + length t < MAX_TRAILERS)))
    ⊎ ((l : Line) × (ts : List (List ℕ)) × (t : List ℕ) × AfterTrailer l ts t x d × (b ≢ 10)
    × (length (trailers_bytes ts) + length t + 1 < MAX_TRAILERS))
    ⊎ ((l : Line) × (ts : List (List ℕ)) × AfterEnding l ts x d × (b ≢ 10))

-- F5: the byte after MAX_TRAILERS bytes of trailer lines, unless it is a CR or LF at a line's start
abbrev pub ShowsLongTrailers : List ℕ → List ℕ → ℕ → Type 0
ShowsLongTrailers x d b =
    ((l : Line) × (ts : List (List ℕ)) × (t : List ℕ) × InTrailer l ts t x d
    × (length (trailers_bytes ts) + length t ≡ MAX_TRAILERS) × (t ≡ [] → IsPlain b))
    ⊎ ((l : Line) × (ts : List (List ℕ)) × (t : List ℕ) × AfterTrailer l ts t x d
    × (length (trailers_bytes ts) + length t + 1 ≡ MAX_TRAILERS))

-- after the part x with the data d, `fault` is detected at the byte b
abbrev pub PartShows : List ℕ → List ℕ → ℕ → FrameFault → Type 0
PartShows x d b BadChunkLine = ShowsBadLine x d b
PartShows x d b ChunkLineTooLong = ShowsLongLine x d b
PartShows x d b ChunkTooLarge = ShowsLargeChunk x d b
PartShows x d b BadChunkEnd = ShowsBadEnd x d b
PartShows x d b TrailersTooLong = ShowsLongTrailers x d b
PartShows x d b BadSizeLine = ⊥
PartShows x d b SizeLineTooLong = ⊥
PartShows x d b RecordTooLarge = ⊥

-- after the open body w with the data `body`, `fault` is detected at the byte b
abbrev pub ChunkShows : List ℕ → List ℕ → ℕ → FrameFault → Type 0
ChunkShows w body b fault = After (λ x d. PartShows x d b fault) w body
