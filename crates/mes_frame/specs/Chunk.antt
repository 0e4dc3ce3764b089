-- Chunked bodies (RFC 9112, section 7.1):
--     chunked-body    = *chunk last-chunk trailer-section CRLF
--     chunk           = chunk-size [ chunk-ext ] CRLF chunk-data CRLF
--     chunk-size      = 1*HEXDIG
--     last-chunk      = 1*("0") [ chunk-ext ] CRLF
--     trailer-section = *( field-line CRLF )
use Rattle.std.specs.Prelude.{◌≡◌, ◌≢◌, ℕ, ◌+◌, ◌^◌, ◌<◌, ◌≤◌, ◌⊎◌, List, [], ◌∷◌, ◌++◌, length}
use Rattle.std.specs.List.{AllByRecursion, flat_map}
use Rattle.std.specs.Str.Parse.{AllDigits, digits_value}
use Rattle.mes_frame.specs.declared.limits.TheConstants.{MAX_CHUNK_LINE, MAX_TRAILERS}

-- a chunk's line: chunk-size, and the bytes between it and the CRLF
pub record Line : Type 0 where
  pub size : List ℕ
  pub extension : List ℕ

-- [ chunk-ext ] or white space: begins with ";", SP or HTAB, then HTAB, SP, VCHAR and obs-text only
abbrev pub BeginsExtension : ℕ → Type 0
BeginsExtension b = (b ≡ 59) ⊎ (b ≡ 32) ⊎ (b ≡ 9)

abbrev pub IsExtensionByte : ℕ → Type 0
IsExtensionByte b = (b ≡ 9) ⊎ ((32 ≤ b) × (b ≢ 127) × (b < 256))

abbrev pub IsExtension : List ℕ → Type 0
IsExtension [] = Unit {0}
IsExtension (b ∷ bs) = BeginsExtension b × AllByRecursion IsExtensionByte bs

abbrev pub line_bytes : Line → List ℕ
line_bytes l = l.size ++ l.extension

abbrev pub size_of : Line → ℕ
size_of l = digits_value 16 l.size

-- a line chunk-size [ chunk-ext ] of at most MAX_CHUNK_LINE bytes, with a size below 2^64
pub record IsLine (l : Line) : Type 0 where
  pub some : 0 < length l.size
  pub hex : AllDigits 16 l.size
  pub fits : size_of l < 2 ^ 64
  pub extension : IsExtension l.extension
  pub short : length l.size + length l.extension ≤ MAX_CHUNK_LINE

-- a chunk: its line, and its data `bytes`
pub record Chunk : Type 0 where
  pub line : Line
  pub bytes : List ℕ

abbrev pub chunk_bytes : Chunk → List ℕ
chunk_bytes c = line_bytes c.line ++ (13 ∷ 10 ∷ (c.bytes ++ 13 ∷ 10 ∷ []))

pub record IsChunk (c : Chunk) : Type 0 where
  pub line : IsLine c.line
  pub size : size_of c.line ≡ length c.bytes
  pub some : 0 < length c.bytes

-- a byte of a trailer line
abbrev pub IsPlain : ℕ → Type 0
IsPlain b = (b ≢ 13) × (b ≢ 10)

-- a trailer line: at least one byte, none of them CR or LF
abbrev pub IsTrailer : List ℕ → Type 0
IsTrailer t = (0 < length t) × AllByRecursion IsPlain t

abbrev pub trailer_bytes : List ℕ → List ℕ
trailer_bytes t = t ++ 13 ∷ 10 ∷ []

-- the trailer lines, each followed by CRLF
abbrev pub trailers_bytes : List (List ℕ) → List ℕ
trailers_bytes ts = flat_map trailer_bytes ts

-- last-chunk trailer-section
abbrev pub ending : Line → List (List ℕ) → List ℕ
ending l ts = line_bytes l ++ (13 ∷ 10 ∷ trailers_bytes ts)

pub record IsEnding (l : Line) (ts : List (List ℕ)) : Type 0 where
  pub line : IsLine l
  pub zero_size : size_of l ≡ 0
  pub each : AllByRecursion IsTrailer ts
  pub short : length (trailers_bytes ts) ≤ MAX_TRAILERS

abbrev pub chunks_bytes : List Chunk → List ℕ
chunks_bytes cs = flat_map chunk_bytes cs

abbrev pub data_of : List Chunk → List ℕ
data_of cs = flat_map (λ c. c.bytes) cs

-- w is a chunked-body, and `body` its chunk-data, joined
pub record IsChunked (w body : List ℕ) : Type 0 where
  pub chunks : List Chunk
  pub last : Line
  pub trailers : List (List ℕ)
  pub each : AllByRecursion IsChunk chunks
  pub ends : IsEnding last trailers
  pub spelt : w ≡ chunks_bytes chunks ++ (ending last trailers ++ 13 ∷ 10 ∷ [])
  pub content : body ≡ data_of chunks
