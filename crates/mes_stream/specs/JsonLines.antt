-- A stream of values as JSON Lines (https://jsonlines.org): each line has one value, except for the
-- lines that are passed over.
use Rattle.std.specs.Prelude.{◌≡◌, ◌≢◌, ℕ, ◌<◌, ◌⊎◌, List, [], ◌∷◌, ◌++◌, length}
use Rattle.std.specs.List.{flat_map}
use Rattle.mes_frame.specs.declared.fault.FrameFault.TheVariants.{BadChunkLine, ChunkLineTooLong, ChunkTooLarge, BadChunkEnd, TrailersTooLong, BadSizeLine, SizeLineTooLong, RecordTooLarge}
use Rattle.mes_stream.specs.LineRecord.{IsFilled, IsBlank, LineBegun, LineTooLong}
use Rattle.mes_stream.specs.Stream.{number_after}
use Rattle.mes_stream.specs.declared.record_error.RecordError.{RecordError}
use Rattle.mes_stream.specs.declared.record_error.RecordError.TheVariants as refusal
use Rattle.mes_stream.specs.declared.fault.Fault.{Fault}
use Rattle.mes_stream.specs.declared.fault.Fault.TheVariants.{Frame, EndsInsideChunks, EndsInsideRecord, Text, Field, NoMemory, Read, ReadsSpent, BadEntry}

-- the line and its LF
abbrev pub ended : List ℕ → List ℕ
ended line = line ++ 10 ∷ []

-- the lines have the values in order, except for the lines that are passed over
abbrev pub HaveValues : {E : Type 0} → (List ℕ → E → Type 0) → ℕ → List (List ℕ) → List E → Type 0
HaveValues spells limit [] values = values ≡ []
HaveValues {E = E} spells limit (line ∷ lines) values =
    (IsBlank line × HaveValues spells limit lines values)
    ⊎ ((r : List ℕ) × (value : E) × (more : List E) × IsFilled line r limit × spells r value × (values ≡ value ∷ more) × HaveValues spells limit lines more)

-- the bytes b are whole lines of the values, each with its LF
pub record AreLines {E : Type 0} (spells : List ℕ → E → Type 0) (limit : ℕ) (b : List ℕ) (values : List E) : Type 0 where
  pub lines : List (List ℕ)
  pub spelt : b ≡ flat_map ended lines
  pub have : HaveValues spells limit lines values

-- the bytes b are whole lines of the values, followed by bytes x for which `Is` holds
pub record LinesThen {E : Type 0} (spells : List ℕ → E → Type 0) (limit : ℕ) (Is : List ℕ → Type 0) (b : List ℕ) (values : List E) : Type 0 where
  pub whole : List ℕ
  pub x : List ℕ
  pub spelt : b ≡ whole ++ x
  pub lines : AreLines spells limit whole values
  pub is : Is x

-- the bytes b are lines of the values, and perhaps a part of one more line
abbrev pub LinesLive : {E : Type 0} → (List ℕ → E → Type 0) → ℕ → List ℕ → List E → Type 0
LinesLive spells limit b values = LinesThen spells limit (λ x. LineBegun x limit) b values

-- the bytes b are lines of the values, followed by a part of a line that has a byte
abbrev pub EndsInsideLine : {E : Type 0} → (List ℕ → E → Type 0) → ℕ → List ℕ → List E → Type 0
EndsInsideLine spells limit b values = LinesThen spells limit (λ x. (x ≢ []) × LineBegun x limit) b values

-- the byte c after b is the LF of a line whose record satisfies `Is`
abbrev pub EndsLine : {E : Type 0} → (List ℕ → E → Type 0) → ℕ → List ℕ → List E → ℕ → (List ℕ → Type 0) → Type 0
EndsLine spells limit b values c Is = (c ≡ 10) × LinesThen spells limit (λ x. (r : List ℕ) × IsFilled x r limit × Is r) b values

-- the error is detected at the byte c after b: c passes the limit, or ends a line without a value
abbrev pub LinesShow : {E : Type 0} → (List ℕ → E → Type 0) → (List ℕ → RecordError → Type 0) → ℕ → ℕ → List ℕ → List E → ℕ → Fault → Type 0
LinesShow spells breaks ahead limit b values c (Frame RecordTooLarge) = LinesThen spells limit (λ x. LineTooLong x c limit) b values
LinesShow spells breaks ahead limit b values c (Frame BadChunkLine) = ⊥
LinesShow spells breaks ahead limit b values c (Frame ChunkLineTooLong) = ⊥
LinesShow spells breaks ahead limit b values c (Frame ChunkTooLarge) = ⊥
LinesShow spells breaks ahead limit b values c (Frame BadChunkEnd) = ⊥
LinesShow spells breaks ahead limit b values c (Frame TrailersTooLong) = ⊥
LinesShow spells breaks ahead limit b values c (Frame BadSizeLine) = ⊥
LinesShow spells breaks ahead limit b values c (Frame SizeLineTooLong) = ⊥
LinesShow spells breaks ahead limit b values c (Text at_record byte why) =
    EndsLine spells limit b values c (λ r. breaks r (refusal.Text (record { byte = byte; why = why }))) × (at_record ≡ number_after ahead values)
LinesShow spells breaks ahead limit b values c (Field at_record path why) =
    EndsLine spells limit b values c (λ r. breaks r (refusal.Field (record { path = path; why = why }))) × (at_record ≡ number_after ahead values)
LinesShow spells breaks ahead limit b values c EndsInsideChunks = ⊥
LinesShow spells breaks ahead limit b values c EndsInsideRecord = ⊥
LinesShow spells breaks ahead limit b values c NoMemory = ⊥
LinesShow spells breaks ahead limit b values c Read = ⊥
LinesShow spells breaks ahead limit b values c ReadsSpent = ⊥
LinesShow spells breaks ahead limit b values c (BadEntry at_record) =
    EndsLine spells limit b values c (λ r. breaks r refusal.BadEntry) × (at_record ≡ number_after ahead values)

-- `breaks` permits an allocation to fail at the byte c after x, or at a CR that c follows. That byte,
-- or that CR, is within the limit.
abbrev pub FailsInLine : (List ℕ → RecordError → Type 0) → ℕ → List ℕ → ℕ → Type 0
FailsInLine breaks limit x c =
    ((length x < limit) × breaks (x ++ c ∷ []) refusal.NoMemory)
    ⊎ ((r : List ℕ) × (x ≡ r ++ 13 ∷ []) × (length r < limit) × breaks x refusal.NoMemory)

-- `breaks` permits an allocation to fail at the byte c after b: in a line, or at the LF of a line
abbrev pub LineRunsOut : {E : Type 0} → (List ℕ → E → Type 0) → (List ℕ → RecordError → Type 0) → ℕ → List ℕ → List E → ℕ → Type 0
LineRunsOut spells breaks limit b values c =
    ((c ≢ 10) × LinesThen spells limit (λ x. LineBegun x limit × FailsInLine breaks limit x c) b values)
    ⊎ EndsLine spells limit b values c (λ r. breaks r refusal.NoMemory)

-- the error is detected at the byte c after b, or an allocation fails there, as `breaks` permits
abbrev pub LinesStop : {E : Type 0} → (List ℕ → E → Type 0) → (List ℕ → RecordError → Type 0) → ℕ → ℕ → List ℕ → List E → ℕ → Fault → Type 0
LinesStop spells breaks ahead limit b values c fault =
    LinesShow spells breaks ahead limit b values c fault ⊎ ((fault ≡ NoMemory) × LineRunsOut spells breaks limit b values c)
