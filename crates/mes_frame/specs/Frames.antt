-- The bytes that are written for a record, and for a body in chunks.
use Rattle.std.specs.Prelude.{◌≡◌, ℕ, ◌<◌, List, [], ◌∷◌, ◌++◌, length, take, drop, false, decimal}
use Rattle.std.specs.List.{flat_map}
use Rattle.std.specs.Fmt.{digits}

-- the bytes of a record: its size in decimal without leading zeros, LF, and the data
abbrev pub record_bytes : List ℕ → List ℕ
record_bytes r = decimal (length r) ++ 10 ∷ r

-- the pieces are the body, cut into pieces of `most` bytes and a shorter one for the remainder
abbrev pub IsCut : ℕ → List ℕ → List (List ℕ) → Type 0
IsCut most body [] = body ≡ []
IsCut most body (p ∷ ps) = (0 < length p) × (p ≡ take most body) × IsCut most (drop most body) ps

-- chunk-size CRLF chunk-data CRLF, the size in lower case without leading zeros
abbrev pub piece_bytes : List ℕ → List ℕ
piece_bytes p = digits 16 false (length p) ++ (13 ∷ 10 ∷ (p ++ 13 ∷ 10 ∷ []))

-- w is the body in chunks of `most` bytes, and a last-chunk without trailer lines
pub record IsFrames (body : List ℕ) (most : ℕ) (w : List ℕ) : Type 0 where
  pub pieces : List (List ℕ)
  pub cut : IsCut most body pieces
  pub spelt : w ≡ flat_map piece_bytes pieces ++ (48 ∷ 13 ∷ 10 ∷ 13 ∷ 10 ∷ [])
