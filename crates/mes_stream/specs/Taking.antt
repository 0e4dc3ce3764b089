-- The state of a reader of consecutive records, and its result for a run of bytes.
use Rattle.std.specs.Prelude.{◌≡◌, ℕ, ◌+◌, ◌^◌, ◌<◌, ◌≤◌, ◌⊎◌, List, [], ◌∷◌, ◌++◌, length, take, slice_index, Result, Ok, Err}
use Rattle.mes_frame.specs.Record.{IsRecord, Begun, DataBegun, SizeShows}
use Rattle.mes_frame.specs.RecordState.{RecordStands, RecordPasses, limit_of}
use Rattle.mes_frame.specs.declared.record.RecordState.{RecordState}
use Rattle.mes_stream.specs.declared.record_error.RecordError.{RecordError}
use Rattle.mes_stream.specs.declared.record_error.RecordError.TheVariants as refusal
use Rattle.mes_stream.specs.Stream.{saturated, Records}
use Rattle.mes_stream.specs.declared.fault.Fault.{Fault}
use Rattle.mes_stream.specs.Refusals.{fault_at_record}
use Rattle.mes_stream.specs.Framings.{SaysIn}
use Rattle.mes_stream.specs.declared.record_body.Body.{Body}
use Rattle.mes_stream.specs.declared.stream_reader.Framing.{Framing}
use Rattle.mes_stream.specs.declared.step.Decoded.{Decoded}
use Rattle.mes_stream.specs.declared.step.Decoded.TheVariants as out
use Rattle.mes_stream.specs.declared.record_body.Front.{Front}
use Rattle.mes_stream.specs.declared.record_body.Front.TheVariants.{Size, Data, Empty, Bad}

-- the reader has consumed b: records of the values, and perhaps a part of one more record
pub record BodyRepresents {R E : Type 0} (holds : R → List ℕ → Type 0) (spells : List ℕ → E → Type 0) (ahead : ℕ) (d : Body R) (b : List ℕ) (values : List E) : Type 0 where
  pub whole : List ℕ
  pub x : List ℕ
  pub r : List ℕ
  pub spelt : b ≡ whole ++ x
  pub records : Records spells (limit_of d.records) whole values
  pub state : RecordStands d.records x r
  pub kept : holds d.reader r
  pub count : d.done ≡ saturated (ahead + length values)
  pub limit : limit_of d.records < 2 ^ 64

-- the number of bytes at the beginning of a run is positive and at most `len`, the run's length
abbrev pub IsWithin : ℕ → Front → Type 0
IsWithin len (Size count) = (0 < count) × (count ≤ len)
IsWithin len (Data count last) = (0 < count) × (count ≤ len)
IsWithin len Empty = Unit {0}
IsWithin len (Bad fault) = Unit {0}

-- the beginning of `run` after x, a prefix of a record with the data r so far
abbrev pub Fronts : RecordState → List ℕ → List ℕ → List ℕ → Front → Type 0
Fronts new x r run (Size count) =
    RecordStands new (x ++ take count run) r × ((n : ℕ) → n < count → Begun (x ++ take n run) r (limit_of new))
Fronts new x r run (Data count last) =
    ((left : ℕ) × DataBegun x r left (limit_of new) × (count ≤ left)) × RecordPasses new x r (take count run) last
Fronts new x r run Empty = IsRecord (x ++ slice_index run 0 ∷ []) [] (limit_of new)
Fronts new x r run (Bad fault) = SizeShows x (slice_index run 0) (limit_of new) fault

-- the error of the stream if the record after `done` others has no value
abbrev pub fault_of_record : ℕ → RecordError → Fault
fault_of_record done why = fault_at_record (saturated (done + 1)) why

-- The result for the complete record with data r: its value, or its error. The count of records is
-- one more.
abbrev pub Ends : {R E : Type 0} → (R → List ℕ → Type 0) → (List ℕ → E → Type 0) → (List ℕ → RecordError → Type 0) → Body R → Body R → List ℕ → Result E RecordError → Type 0
Ends holds spells breaks old new r (Ok value) = spells r value × holds new.reader [] × (new.done ≡ saturated (old.done + 1))
Ends holds spells breaks old new r (Err why) = breaks r why × (new.done ≡ saturated (old.done + 1))

-- like `Ends`, with the value appended to a list; if the list cannot grow, the error is NoMemory
abbrev pub EndsInto : {R E T : Type 0} → (R → List ℕ → Type 0) → (List ℕ → E → Type 0) → (List ℕ → RecordError → Type 0) → Body R → Body R → List ℕ → List E → List E → Result T RecordError → Type 0
EndsInto {E = E} holds spells breaks old new r before after (Ok done) = (value : E) × Ends holds spells breaks old new r (Ok value) × (after ≡ before ++ value ∷ [])
EndsInto {E = E} holds spells breaks old new r before after (Err why) =
    (Ends {E = E} holds spells breaks old new r (Err why) ⊎ ((why ≡ refusal.NoMemory) × ((value : E) × Ends holds spells breaks old new r (Ok value)))) × (after ≡ before)

-- the result of a step at the end of the record with the given number
abbrev pub record_answer : {E : Type 0} → ℕ → Result E RecordError → Decoded E Fault
record_answer number (Ok value) = out.Event value
record_answer number (Err why) = out.Fault (fault_at_record number why)

-- a record has ended, and `IsSo` holds for every result that its data may have
abbrev pub HasEnded : {R E : Type 0} → (R → List ℕ → Type 0) → (List ℕ → E → Type 0) → (List ℕ → RecordError → Type 0) → Body R → (Body R → Decoded E Fault → Type 0) → Type 0
HasEnded {R} {E} holds spells breaks d IsSo =
    (r : List ℕ) × holds d.reader r × (length r < 2 ^ 64)
    × ((after : Body R) (answer : Result E RecordError) → after.records ≡ d.records → Ends holds spells breaks d after r answer → IsSo after (record_answer after.done answer))

-- The meaning of a step, if the value of a record that ended is not decoded yet. `Represents`
-- states what a reader with a given body has consumed.
abbrev pub Reports : {R E : Type 0} → (R → List ℕ → Type 0) → (List ℕ → E → Type 0) → (List ℕ → RecordError → Type 0) → ℕ → Framing → (Body R → List ℕ → List E → Type 0) → Body R → ℕ → List ℕ → List E → List ℕ → ℕ → Decoded (Unit {0}) Fault → Type 0
Reports holds spells breaks ahead framing Represents body limit w values piece used out.More = SaysIn framing (Represents body) spells breaks ahead limit w values piece used out.More
Reports holds spells breaks ahead framing Represents body limit w values piece used (out.Event done) =
    HasEnded holds spells breaks body (λ after answer. SaysIn framing (Represents after) spells breaks ahead limit w values piece used answer)
Reports holds spells breaks ahead framing Represents body limit w values piece used out.End = SaysIn framing (Represents body) spells breaks ahead limit w values piece used out.End
Reports holds spells breaks ahead framing Represents body limit w values piece used (out.Fault fault) = SaysIn framing (Represents body) spells breaks ahead limit w values piece used (out.Fault fault)
