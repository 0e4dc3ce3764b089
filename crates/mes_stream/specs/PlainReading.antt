-- The reading of any bytes as plain RecordIO.
use Rattle.std.specs.Prelude.{◌≡◌, ◌≢◌, ℕ, ◌⊎◌, List, ◌∷◌, ◌++◌}
use Rattle.mes_stream.specs.declared.record_error.RecordError.{RecordError}
use Rattle.mes_stream.specs.declared.record_error.RecordError.TheVariants as refusal
use Rattle.mes_stream.specs.Stream.{BodyLive, BodyShows}
use Rattle.mes_stream.specs.declared.fault.Fault.{Fault}

-- the data of a record have at most one value or one error
pub record IsExact {E : Type 0} (spells : List ℕ → E → Type 0) (breaks : List ℕ → RecordError → Type 0) : Type 0 where
  pub value : (r : List ℕ) (a b : E) → spells r a → spells r b → a ≡ b
  pub why : (r : List ℕ) (f g : RecordError) → f ≢ refusal.NoMemory → g ≢ refusal.NoMemory → breaks r f → breaks r g → f ≡ g
  pub apart : (r : List ℕ) (a : E) (f : RecordError) → f ≢ refusal.NoMemory → spells r a → breaks r f → ⊥

-- the data of any record have a value or an error
abbrev pub IsDecided : {E : Type 0} → (List ℕ → E → Type 0) → (List ℕ → RecordError → Type 0) → Type 0
IsDecided {E} spells breaks = (r : List ℕ) → ((value : E) × spells r value) ⊎ ((why : RecordError) × (why ≢ refusal.NoMemory) × breaks r why)

pub data PlainReading (E : Type 0) : Type 0 where
  -- the bytes are records of the values, and perhaps a part of one more record
  Goes : (values : List E) → PlainReading E
  -- like `Goes` for the bytes `front`; an error is detected at the byte after `front`
  Stops : (front : List ℕ) (byte : ℕ) (values : List E) (fault : Fault) → PlainReading E

-- the bytes w have the given reading
abbrev pub ReadsPlain : {E : Type 0} → (List ℕ → E → Type 0) → (List ℕ → RecordError → Type 0) → ℕ → ℕ → List ℕ → PlainReading E → Type 0
ReadsPlain spells breaks ahead limit w (Goes values) = BodyLive spells limit w values
ReadsPlain spells breaks ahead limit w (Stops front byte values fault) =
    (rest : List ℕ) × (w ≡ front ++ byte ∷ rest) × BodyShows spells breaks ahead limit front values byte fault
