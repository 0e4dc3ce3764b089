-- RecordIO, the framing of Mesos event streams:
--     record      = record-size LF record-data
--     record-size = 1*20DIGIT     ; the number of bytes of record-data; leading zeros are allowed
--     record-data = *OCTET
use Rattle.std.specs.Prelude.{◌≡◌, ℕ, ◌+◌, ◌<◌, ◌≤◌, ◌⊎◌, List, [], ◌∷◌, ◌++◌, length}
use Rattle.std.specs.Char.{digit_value}
use Rattle.std.specs.Str.Parse.{AllDigits, digits_value}
use Rattle.mes_frame.specs.declared.fault.FrameFault.{FrameFault}
use Rattle.mes_frame.specs.declared.fault.FrameFault.TheVariants.{BadChunkLine, ChunkLineTooLong, ChunkTooLarge, BadChunkEnd, TrailersTooLong, BadSizeLine, SizeLineTooLong, RecordTooLarge}
use Rattle.mes_frame.specs.declared.limits.TheConstants.{MAX_SIZE_DIGITS}

-- 0 to 20 digits: a prefix of record-size
pub record SizeBegun (x : List ℕ) : Type 0 where
  pub digits : AllDigits 10 x
  pub few : length x ≤ MAX_SIZE_DIGITS

-- record-size = 1*20DIGIT
pub record IsSize (x : List ℕ) : Type 0 where
  pub begun : SizeBegun x
  pub some : 0 < length x

-- b is a record with the data r, and r has at most `limit` bytes
pub record IsRecord (b r : List ℕ) (limit : ℕ) : Type 0 where
  pub size : List ℕ
  pub is_size : IsSize size
  pub spelt : b ≡ size ++ 10 ∷ r
  pub value : digits_value 10 size ≡ length r
  pub within : length r ≤ limit

-- x is a size line within the limit and then the data r, of which `left` more bytes are to come
pub record DataBegun (x r : List ℕ) (left limit : ℕ) : Type 0 where
  pub size : List ℕ
  pub is_size : IsSize size
  pub spelt : x ≡ size ++ 10 ∷ r
  pub value : digits_value 10 size ≡ length r + left
  pub within : digits_value 10 size ≤ limit
  pub some : 0 < left

-- x is an unfinished record, perhaps empty, and r is its data so far
abbrev pub Begun : List ℕ → List ℕ → ℕ → Type 0
Begun x r limit = (SizeBegun x × (r ≡ [])) ⊎ ((left : ℕ) × DataBegun x r left limit)

-- after the size digits x, the fault is detected at the byte b
abbrev pub SizeShows : List ℕ → ℕ → ℕ → FrameFault → Type 0
-- F7: neither a digit, nor a LF after a digit
SizeShows x b limit BadSizeLine = SizeBegun x × (10 ≤ digit_value b) × (b ≡ 10 → x ≡ [])
-- F8: the 21st digit
SizeShows x b limit SizeLineTooLong = SizeBegun x × (length x ≡ MAX_SIZE_DIGITS) × (digit_value b < 10)
-- F9: the LF of a size line whose value exceeds the limit
SizeShows x b limit RecordTooLarge = IsSize x × (b ≡ 10) × (limit < digits_value 10 x)
-- F1 to F5 are faults of chunked bodies
SizeShows x b limit BadChunkLine = ⊥
SizeShows x b limit ChunkLineTooLong = ⊥
SizeShows x b limit ChunkTooLarge = ⊥
SizeShows x b limit BadChunkEnd = ⊥
SizeShows x b limit TrailersTooLong = ⊥
