-- A stream of values as records in a chunked body (RFC 9112 section 7.1).
use Rattle.std.specs.Prelude.{◌≡◌, ℕ, ◌⊎◌, List, [], ◌∷◌, ◌++◌}
use Rattle.mes_frame.specs.Chunk.{IsChunked}
use Rattle.mes_frame.specs.ChunkFront.{IsOpen}
use Rattle.mes_frame.specs.ChunkFaults.{ChunkShows}
use Rattle.mes_stream.specs.declared.record_error.RecordError.{RecordError}
use Rattle.mes_stream.specs.Stream.{Records, BodyLive, EndsInside, EndsRecord, HasValue, BodyShows, RunsOut}
use Rattle.mes_stream.specs.declared.fault.Fault.{Fault}
use Rattle.mes_stream.specs.declared.fault.Fault.TheVariants.{Frame, EndsInsideChunks, EndsInsideRecord, Text, Field, NoMemory, Read, ReadsSpent, BadEntry}

-- w is a whole chunked body, and the data of w are records of the values
abbrev pub IsStream : {E : Type 0} → (List ℕ → E → Type 0) → ℕ → List ℕ → List E → Type 0
IsStream spells limit w values = (body : List ℕ) × IsChunked w body × Records spells limit body values

-- w is a prefix of a chunked body; the data of w are records of the values, and perhaps a part of
-- one more record
abbrev pub Live : {E : Type 0} → (List ℕ → E → Type 0) → ℕ → List ℕ → List E → Type 0
Live spells limit w values = (body : List ℕ) × IsOpen w body × BodyLive spells limit body values

-- the byte c after w is data of the chunked body, and `Is` holds of the data before it
abbrev pub AtData : {E : Type 0} → (List ℕ → List E → Type 0) → List ℕ → List E → ℕ → Type 0
AtData Is w values c = (body : List ℕ) × IsOpen w body × IsOpen (w ++ c ∷ []) (body ++ c ∷ []) × Is body values

-- the byte c after w ends a record whose data represent the value
abbrev pub EndsWith : {E : Type 0} → (List ℕ → E → Type 0) → ℕ → List ℕ → List E → ℕ → E → Type 0
EndsWith spells limit w values c value = AtData (λ body vs. EndsRecord spells limit body vs c (HasValue spells value)) w values c

-- The error is detected at the byte c after w: the framing or a record is invalid, or the body ends
-- inside a record.
abbrev pub ChunkedShows : {E : Type 0} → (List ℕ → E → Type 0) → (List ℕ → RecordError → Type 0) → ℕ → ℕ → List ℕ → List E → ℕ → Fault → Type 0
ChunkedShows spells breaks ahead limit w values c (Frame fault) =
    ((body : List ℕ) × ChunkShows w body c fault × BodyLive spells limit body values)
    ⊎ AtData (λ body vs. BodyShows spells breaks ahead limit body vs c (Frame fault)) w values c
ChunkedShows spells breaks ahead limit w values c (Text at_record byte why) =
    AtData (λ body vs. BodyShows spells breaks ahead limit body vs c (Text at_record byte why)) w values c
ChunkedShows spells breaks ahead limit w values c (Field at_record path why) =
    AtData (λ body vs. BodyShows spells breaks ahead limit body vs c (Field at_record path why)) w values c
ChunkedShows spells breaks ahead limit w values c EndsInsideRecord =
    (body : List ℕ) × IsChunked (w ++ c ∷ []) body × EndsInside spells limit body values
ChunkedShows spells breaks ahead limit w values c EndsInsideChunks = ⊥
ChunkedShows spells breaks ahead limit w values c NoMemory = ⊥
ChunkedShows spells breaks ahead limit w values c Read = ⊥
ChunkedShows spells breaks ahead limit w values c ReadsSpent = ⊥
ChunkedShows spells breaks ahead limit w values c (BadEntry at_record) =
    AtData (λ body vs. BodyShows spells breaks ahead limit body vs c (BadEntry at_record)) w values c

-- the error is detected at the byte c after w, or an allocation fails there, as `breaks` permits
abbrev pub ChunkedStops : {E : Type 0} → (List ℕ → E → Type 0) → (List ℕ → RecordError → Type 0) → ℕ → ℕ → List ℕ → List E → ℕ → Fault → Type 0
ChunkedStops spells breaks ahead limit w values c fault =
    ChunkedShows spells breaks ahead limit w values c fault ⊎ ((fault ≡ NoMemory) × AtData (λ body vs. RunsOut spells breaks limit body vs c) w values c)
