-- The results of decoding bytes as a stream of records.
use Rattle.std.specs.Prelude.{◌≡◌, ℕ, List, ◌∷◌, ◌++◌}
use Rattle.mes_frame.specs.Record.{Begun, IsRecord, SizeShows}
use Rattle.mes_frame.specs.declared.fault.FrameFault.{FrameFault}

pub data RecordReading : Type 0 where
  -- the bytes are an unfinished record with the data r so far
  Begins : (r : List ℕ) → RecordReading
  -- the bytes begin with the record `front`, whose data is r
  Whole : (front r : List ℕ) → RecordReading
  -- `fault` is detected at the byte after the unfinished record `front`
  Broken : (front : List ℕ) (byte : ℕ) (fault : FrameFault) → RecordReading

-- the bytes w have the decoded result, under the given limit
abbrev pub ReadsRecord : ℕ → List ℕ → RecordReading → Type 0
ReadsRecord limit w (Begins r) = Begun w r limit
ReadsRecord limit w (Whole front r) = (rest : List ℕ) × (w ≡ front ++ rest) × IsRecord front r limit
ReadsRecord limit w (Broken front byte fault) = (rest : List ℕ) × (w ≡ front ++ byte ∷ rest) × SizeShows front byte limit fault
