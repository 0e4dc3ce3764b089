-- The reading of any bytes as a chunked stream.
use Rattle.std.specs.Prelude.{◌≡◌, ℕ, List, ◌∷◌, ◌++◌}
use Rattle.mes_stream.specs.declared.record_error.RecordError.{RecordError}
use Rattle.mes_stream.specs.Chunked.{IsStream, Live, ChunkedShows}
use Rattle.mes_stream.specs.declared.fault.Fault.{Fault}

pub data StreamReading (E : Type 0) : Type 0 where
  -- the bytes are a prefix of a stream of the values
  Goes : (values : List E) → StreamReading E
  -- the bytes begin with `front`, a whole stream of the values
  Ends : (front : List ℕ) (values : List E) → StreamReading E
  -- `front` is a prefix of a stream of the values, and an error is detected at the byte after it
  Stops : (front : List ℕ) (byte : ℕ) (values : List E) (fault : Fault) → StreamReading E

-- the bytes w have the given reading
abbrev pub ReadsStream : {E : Type 0} → (List ℕ → E → Type 0) → (List ℕ → RecordError → Type 0) → ℕ → ℕ → List ℕ → StreamReading E → Type 0
ReadsStream spells breaks ahead limit w (Goes values) = Live spells limit w values
ReadsStream spells breaks ahead limit w (Ends front values) = (rest : List ℕ) × (w ≡ front ++ rest) × IsStream spells limit front values
ReadsStream spells breaks ahead limit w (Stops front byte values fault) =
    (rest : List ℕ) × (w ≡ front ++ byte ∷ rest) × ChunkedShows spells breaks ahead limit front values byte fault

-- both readings have the same values, and the same end or error
abbrev pub IsAlike : {E : Type 0} → StreamReading E → StreamReading E → Type 0
IsAlike (Goes values) (Goes others) = values ≡ others
IsAlike (Goes values) (Ends front others) = ⊥
IsAlike (Goes values) (Stops front byte others fault) = ⊥
IsAlike (Ends front values) (Goes others) = ⊥
IsAlike (Ends front values) (Ends other others) = values ≡ others
IsAlike (Ends front values) (Stops other byte others fault) = ⊥
IsAlike (Stops front byte values fault) (Goes others) = ⊥
IsAlike (Stops front byte values fault) (Ends other others) = ⊥
IsAlike (Stops front byte values fault) (Stops other last others also) = (values ≡ others) × (fault ≡ also)
