-- A stream of values as plain RecordIO: consecutive records whose data each represent one value.
-- `spells` relates data to their value, and `breaks` data without a value to their error.
use Rattle.std.specs.Prelude.{◌≡◌, ◌≢◌, ℕ, ◌+◌, ◌-◌, ◌^◌, ◌⊎◌, min, List, [], ◌∷◌, ◌++◌, length}
use Rattle.mes_frame.specs.Record.{IsRecord, Begun, DataBegun, SizeShows}
use Rattle.mes_stream.specs.declared.record_error.RecordError.{RecordError}
use Rattle.mes_stream.specs.declared.record_error.RecordError.TheVariants as refusal
use Rattle.mes_stream.specs.declared.fault.Fault.{Fault}
use Rattle.mes_stream.specs.declared.fault.Fault.TheVariants.{Frame, EndsInsideChunks, EndsInsideRecord, Text, Field, NoMemory, Read, ReadsSpent, BadEntry}

-- n, or 2^64 - 1 if n is larger
abbrev pub saturated : ℕ → ℕ
saturated n = min n (2 ^ 64 - 1)

-- the bytes b are records of the values in order, each with at most `limit` bytes of data
abbrev pub Records : {E : Type 0} → (List ℕ → E → Type 0) → ℕ → List ℕ → List E → Type 0
Records spells limit b [] = b ≡ []
Records spells limit b (value ∷ values) =
    (front : List ℕ) × (rest : List ℕ) × (r : List ℕ) × IsRecord front r limit × spells r value × (b ≡ front ++ rest)
    × Records spells limit rest values

-- the bytes b are records of the values, followed by bytes x for which `Is` holds
pub record Following {E : Type 0} (spells : List ℕ → E → Type 0) (limit : ℕ) (Is : List ℕ → Type 0) (b : List ℕ) (values : List E) : Type 0 where
  pub whole : List ℕ
  pub x : List ℕ
  pub spelt : b ≡ whole ++ x
  pub records : Records spells limit whole values
  pub is : Is x

-- the bytes b are records of the values, and perhaps a part of one more record
abbrev pub BodyLive : {E : Type 0} → (List ℕ → E → Type 0) → ℕ → List ℕ → List E → Type 0
BodyLive spells limit b values = Following spells limit (λ x. (r : List ℕ) × Begun x r limit) b values

-- the bytes b are records of the values, followed by an incomplete record
abbrev pub EndsInside : {E : Type 0} → (List ℕ → E → Type 0) → ℕ → List ℕ → List E → Type 0
EndsInside spells limit b values = Following spells limit (λ x. (x ≢ []) × ((r : List ℕ) × Begun x r limit)) b values

-- the number, from 1, of the record after those of the values; `ahead` records precede the stream
abbrev pub number_after : {E : Type 0} → ℕ → List E → ℕ
number_after ahead values = saturated (ahead + length values + 1)

-- the byte c after the bytes b ends a record whose data satisfy `Is`
abbrev pub EndsRecord : {E : Type 0} → (List ℕ → E → Type 0) → ℕ → List ℕ → List E → ℕ → (List ℕ → Type 0) → Type 0
EndsRecord spells limit b values c Is = Following spells limit (λ x. (r : List ℕ) × IsRecord (x ++ c ∷ []) r limit × Is r) b values

-- the data r represent the value, and are not empty
abbrev pub HasValue : {E : Type 0} → (List ℕ → E → Type 0) → E → List ℕ → Type 0
HasValue spells value r = (r ≢ []) × spells r value

-- the error is detected at the byte c after b: in a size line, or in the record that c ends
abbrev pub BodyShows : {E : Type 0} → (List ℕ → E → Type 0) → (List ℕ → RecordError → Type 0) → ℕ → ℕ → List ℕ → List E → ℕ → Fault → Type 0
BodyShows spells breaks ahead limit b values c (Frame fault) = Following spells limit (λ x. SizeShows x c limit fault) b values
BodyShows spells breaks ahead limit b values c (Text at_record byte why) =
    EndsRecord spells limit b values c (λ r. breaks r (refusal.Text (record { byte = byte; why = why }))) × (at_record ≡ number_after ahead values)
BodyShows spells breaks ahead limit b values c (Field at_record path why) =
    EndsRecord spells limit b values c (λ r. breaks r (refusal.Field (record { path = path; why = why }))) × (at_record ≡ number_after ahead values)
BodyShows spells breaks ahead limit b values c EndsInsideChunks = ⊥
BodyShows spells breaks ahead limit b values c EndsInsideRecord = ⊥
BodyShows spells breaks ahead limit b values c NoMemory = ⊥
BodyShows spells breaks ahead limit b values c Read = ⊥
BodyShows spells breaks ahead limit b values c ReadsSpent = ⊥
BodyShows spells breaks ahead limit b values c (BadEntry at_record) =
    EndsRecord spells limit b values c (λ r. breaks r refusal.BadEntry) × (at_record ≡ number_after ahead values)

-- the byte after b is data of a record; `Is` holds for the record's data in b
abbrev pub InRecordData : {E : Type 0} → (List ℕ → E → Type 0) → ℕ → List ℕ → List E → (List ℕ → Type 0) → Type 0
InRecordData spells limit b values Is = Following spells limit (λ x. (r : List ℕ) × (left : ℕ) × DataBegun x r left limit × Is r) b values

-- the byte c after b is data of a record, and `breaks` permits an allocation to fail at c
abbrev pub RunsOut : {E : Type 0} → (List ℕ → E → Type 0) → (List ℕ → RecordError → Type 0) → ℕ → List ℕ → List E → ℕ → Type 0
RunsOut spells breaks limit b values c = InRecordData spells limit b values (λ r. breaks (r ++ c ∷ []) refusal.NoMemory)

-- the error is detected at the byte c after b, or an allocation fails there, as `breaks` permits
abbrev pub BodyStops : {E : Type 0} → (List ℕ → E → Type 0) → (List ℕ → RecordError → Type 0) → ℕ → ℕ → List ℕ → List E → ℕ → Fault → Type 0
BodyStops spells breaks ahead limit b values c fault =
    BodyShows spells breaks ahead limit b values c fault ⊎ ((fault ≡ NoMemory) × RunsOut spells breaks limit b values c)
