-- The lines of a text in JSON Lines (https://jsonlines.org). A line ends with LF. CR LF is accepted
-- too: a CR directly before the LF is not part of the line's record.
use Rattle.std.specs.Prelude.{◌≡◌, ◌≢◌, ◌==◌, ℕ, ◌≤◌, ◌⊎◌, List, [], ◌∷◌, ◌++◌, length, count_by}
use Rattle.std.specs.List.{AllByRecursion}

-- the number of line feeds
abbrev pub line_feeds_in : List ℕ → ℕ
line_feeds_in w = count_by (λ (byte : ℕ). byte == 10) w

-- no byte of the line is LF
abbrev pub IsLine : List ℕ → Type 0
IsLine line = AllByRecursion (λ b. b ≢ 10) line

-- the line does not end with CR
abbrev pub HasNoCr : List ℕ → Type 0
HasNoCr line = (front : List ℕ) → line ≢ front ++ 13 ∷ []

-- r is the record of the line: the line without a CR at its end
abbrev pub IsRecordOf : List ℕ → List ℕ → Type 0
IsRecordOf line r = (line ≡ r ++ 13 ∷ []) ⊎ ((line ≡ r) × HasNoCr line)

-- the line has the record r, which has 1 to `limit` bytes
pub record IsFilled (line r : List ℕ) (limit : ℕ) : Type 0 where
  pub is : IsLine line
  pub content : IsRecordOf line r
  pub some : r ≢ []
  pub within : length r ≤ limit

-- the line is passed over: it has no bytes, or just a CR
pub record IsBlank (line : List ℕ) : Type 0 where
  pub is : IsLine line
  pub content : IsRecordOf line []

-- x is a part of a line: at most `limit` bytes, and perhaps a CR after them
pub record LineBegun (x : List ℕ) (limit : ℕ) : Type 0 where
  pub is : IsLine x
  pub within : (length x ≤ limit) ⊎ ((r : List ℕ) × (x ≡ r ++ 13 ∷ []) × (length r ≤ limit))

-- The byte c after x passes the limit: x has `limit` bytes, and c is not CR; or x has `limit` bytes
-- and then a CR.
abbrev pub PassesLimit : List ℕ → ℕ → ℕ → Type 0
PassesLimit x c limit = ((length x ≡ limit) × (c ≢ 13)) ⊎ ((r : List ℕ) × (x ≡ r ++ 13 ∷ []) × (length r ≡ limit))

-- F9: the byte c after x, a part of a line, is not LF and passes the limit
pub record LineTooLong (x : List ℕ) (c limit : ℕ) : Type 0 where
  pub is : IsLine x
  pub next : c ≢ 10
  pub passes : PassesLimit x c limit
