-- How reading a stream from a device ends.
use Rattle.std.specs.Prelude.{◌≡◌, ℕ, ◌+◌, ◌-◌, ◌<◌, ◌⊎◌, Option, ◌≤◌, List, [], ◌∷◌, ◌++◌, length, take, slice_index, None, Some, Result, Ok, Err}
use Rattle.std.specs.Io.KnownBytes.{IsAtEnd}
use Rattle.mes_frame.specs.declared.counts.Counts.{Counts}
use Rattle.mes_msg.specs.Events.{Spells}
use Rattle.mes_msg.specs.Event.{Event}
use Rattle.mes_stream.specs.Refusals.{IsEventRefusal}
use Rattle.mes_stream.specs.declared.record_error.RecordError.{RecordError}
use Rattle.mes_stream.specs.Reads.{ReadsMade, SomeReadsMade}
use Rattle.mes_stream.specs.Stream.{saturated}
use Rattle.mes_stream.specs.Framings.{GoesIn, GoesBefore, EndsIn, EndsRecordIn, WholeIn, InputEnds, EndsInput, StopsWithin}
use Rattle.mes_stream.specs.Held.{held_by_reading}
use Rattle.mes_stream.specs.StreamReaders.{StreamRepresents}
use Rattle.mes_stream.specs.declared.fault.Fault.{Fault}
use Rattle.mes_stream.specs.declared.fault.Fault.TheVariants.{Read, ReadsSpent}
use Rattle.mes_stream.specs.declared.fault.Report.{Report}
use Rattle.mes_stream.specs.declared.fault.Stop.{Stop}
use Rattle.mes_stream.specs.declared.limits.TheConstants.{MAX_READ}
use Rattle.mes_stream.specs.declared.counted_reader.EndedRecord.{EndedRecord}
use Rattle.mes_stream.specs.declared.counted_reader.Reading.{Reading}
use Rattle.mes_stream.specs.declared.counted_reader.ReadingStop.{ReadingStop}
use Rattle.mes_stream.specs.declared.counted_reader.ReadingStop.TheVariants as reading_stop
use Rattle.mes_stream.specs.declared.read_loop.ReadsEnd.{ReadsEnd}
use Rattle.mes_stream.specs.declared.read_loop.ReadsEnd.TheVariants.{Stopped, AtEnd, Failed, Spent}
use Rattle.mes_stream.specs.declared.stream_reader.Framing.{Framing}
use Rattle.mes_stream.specs.declared.stream_reader.Framing.TheVariants.{Plain, Chunked}

-- the number of records and the number of bytes that precede the stream
pub record Ahead : Type 0 where
  pub records : ℕ
  pub bytes : ℕ

abbrev pub nothing_ahead : Ahead
nothing_ahead = record { records = 0; bytes = 0 }

-- the error `fault` is detected at one of the last 512 bytes of w
pub record StopsAt {E : Type 0} (framing : Framing) (spells : List ℕ → E → Type 0) (breaks : List ℕ → RecordError → Type 0) (ahead : Ahead) (limit : ℕ) (w : List ℕ) (values : List E) (used : ℕ) (fault : Fault) : Type 0 where
  pub n : ℕ
  pub count : used ≡ saturated (ahead.bytes + n)
  pub stops : StopsWithin framing spells breaks ahead.records limit w values fault n
  pub last : length w < n + MAX_READ

-- one of the last 512 bytes of w ends the stream, and `rest` are the bytes of w after that byte
pub record EndsAt {E : Type 0} (framing : Framing) (spells : List ℕ → E → Type 0) (ahead : Ahead) (limit : ℕ) (w : List ℕ) (values : List E) (used : ℕ) (rest : List ℕ) : Type 0 where
  pub stream : List ℕ
  pub is : w ≡ stream ++ rest
  pub count : used ≡ saturated (ahead.bytes + length stream)
  pub ends : EndsIn framing spells limit stream values
  pub last : length rest < MAX_READ

-- one of the last 512 bytes of w ended the stream, or an error was detected at that byte
abbrev pub ByteEndsAfter : {E : Type 0} → Framing → (List ℕ → E → Type 0) → (List ℕ → RecordError → Type 0) → Ahead → ℕ → List ℕ → List E → Result Report Stop → Type 0
ByteEndsAfter framing spells breaks ahead limit w values (Ok report) = EndsAt framing spells ahead limit w values report.used report.rest.items
ByteEndsAfter framing spells breaks ahead limit w values (Err stop) = StopsAt framing spells breaks ahead limit w values stop.used stop.fault

-- the result if the input ends after w
abbrev pub EndMeans : {E : Type 0} → Framing → (List ℕ → E → Type 0) → Ahead → ℕ → List ℕ → List E → Result Report Stop → Type 0
EndMeans framing spells ahead limit w values (Ok report) =
    InputEnds {T = Unit {0}} framing spells limit w values (Ok tt) × (report.used ≡ saturated (ahead.bytes + length w)) × (report.rest.items ≡ [])
EndMeans framing spells ahead limit w values (Err stop) =
    InputEnds {T = Unit {0}} framing spells limit w values (Err stop.fault) × (stop.used ≡ saturated (ahead.bytes + length w))

-- like `EndMeans`, but the end of JSON Lines ends the last line, like a LF that is not counted
abbrev pub InputMeans : {E : Type 0} → Framing → (List ℕ → E → Type 0) → (List ℕ → RecordError → Type 0) → Ahead → ℕ → List ℕ → List E → Result Report Stop → Type 0
InputMeans framing spells breaks ahead limit w values (Ok report) =
    EndsInput {T = Unit {0}} framing spells breaks ahead.records limit w values (Ok tt) × (report.used ≡ saturated (ahead.bytes + length w)) × (report.rest.items ≡ [])
InputMeans framing spells breaks ahead limit w values (Err stop) =
    EndsInput {T = Unit {0}} framing spells breaks ahead.records limit w values (Err stop.fault) × (stop.used ≡ saturated (ahead.bytes + length w))

-- the stream continues after w, but reading stopped with the error `fault`
abbrev pub BreaksOff : {E : Type 0} → Fault → Framing → (List ℕ → E → Type 0) → Ahead → ℕ → List ℕ → List E → Result Report Stop → Type 0
BreaksOff fault framing spells ahead limit w values (Ok report) = ⊥
BreaksOff fault framing spells ahead limit w values (Err stop) =
    (stop.fault ≡ fault) × GoesIn framing spells limit w values × (stop.used ≡ saturated (ahead.bytes + length w))

-- How reading ended, with the bytes w read: at a byte of w; at the device's end; at a failed read
-- (F14); or after all allowed reads (F15). `old` and `new` are the device's counts, `last` its
-- bytes left.
abbrev pub EndsReadingAs : {E : Type 0} → (List ℕ → List E → Result Report Stop → Type 0) → (List ℕ → List E → Result Report Stop → Type 0) → (Fault → List ℕ → List E → Result Report Stop → Type 0)
    → ℕ → Counts → Counts → Option (List ℕ) → List ℕ → List E → Result Report Stop → Type 0
EndsReadingAs Byte End Off reads old new last w values outcome =
    (Byte w values outcome × SomeReadsMade reads old new w 0 0)
    ⊎ (End w values outcome × IsAtEnd last × SomeReadsMade reads old new w 0 1)
    ⊎ (Off Read w values outcome × SomeReadsMade reads old new w 1 0)
    ⊎ (Off ReadsSpent w values outcome × ReadsMade reads old new w reads 0 0)

-- `ByteEndsAfter` for a stream with nothing before it
abbrev pub ByteEnds : {E : Type 0} → Framing → (List ℕ → E → Type 0) → (List ℕ → RecordError → Type 0) → ℕ → List ℕ → List E → Result Report Stop → Type 0
ByteEnds framing spells breaks limit w values outcome = ByteEndsAfter framing spells breaks nothing_ahead limit w values outcome

-- `EndsReadingAs` for a stream with nothing before it
abbrev pub EndsReading : {E : Type 0} → Framing → (List ℕ → E → Type 0) → (List ℕ → RecordError → Type 0) → ℕ → ℕ → Counts → Counts → Option (List ℕ) → List ℕ → List E → Result Report Stop → Type 0
EndsReading framing spells breaks limit reads old new last w values outcome =
    EndsReadingAs (ByteEnds framing spells breaks limit) (InputMeans framing spells breaks nothing_ahead limit) (λ fault. BreaksOff fault framing spells nothing_ahead limit) reads old new last w values outcome

-- `EndsReading` for events in plain RecordIO
abbrev pub EndsPlain : ℕ → ℕ → Counts → Counts → Option (List ℕ) → List ℕ → List Event → Result Report Stop → Type 0
EndsPlain limit reads old new last w events outcome = EndsReading Plain Spells IsEventRefusal limit reads old new last w events outcome

-- `EndsReading` for events in a chunked body
abbrev pub EndsStream : ℕ → ℕ → Counts → Counts → Option (List ℕ) → List ℕ → List Event → Result Report Stop → Type 0
EndsStream limit reads old new last w events outcome = EndsReading Chunked Spells IsEventRefusal limit reads old new last w events outcome

-- the reading has consumed w, a prefix of a stream with the values, and counted its bytes
abbrev pub ReadingRepresentsAfter : {R E : Type 0} → (R → List ℕ → Type 0) → (List ℕ → E → Type 0) → Ahead → Reading R → Framing → ℕ → List ℕ → List E → Type 0
ReadingRepresentsAfter holds spells ahead d framing limit w values = StreamRepresents holds spells ahead.records d.stream framing limit w values × (d.used ≡ saturated (ahead.bytes + length w))

abbrev pub ReadingRepresents : {R E : Type 0} → (R → List ℕ → Type 0) → (List ℕ → E → Type 0) → Reading R → Framing → ℕ → List ℕ → List E → Type 0
ReadingRepresents holds spells d framing limit w values = ReadingRepresentsAfter holds spells nothing_ahead d framing limit w values

-- the result of a reading that has stopped
abbrev pub reported_as : {R : Type 0} → Reading R → ReadingStop → Result Report Stop
reported_as d reading_stop.Ended = Ok (record { used = d.used; rest = d.rest })
reported_as d (reading_stop.Fault fault) = Err (record { fault = fault; used = d.used })

-- the result for a piece after w; the values of the records that end in the piece were appended
abbrev pub ReadingTakesAfter : {R E T : Type 0} → (R → List ℕ → Type 0) → (List ℕ → E → Type 0) → (List ℕ → RecordError → Type 0) → Ahead → Reading R → Framing → ℕ → List ℕ → List E → List ℕ → List E → List E → Result T ReadingStop → Type 0
ReadingTakesAfter {E = E} holds spells breaks ahead new framing limit w values piece old now (Ok done) =
    (more : List E) × (now ≡ old ++ more) × ReadingRepresentsAfter holds spells ahead new framing limit (w ++ piece) (values ++ more)
ReadingTakesAfter {E = E} holds spells breaks ahead new framing limit w values piece old now (Err stop) =
    (more : List E) × (now ≡ old ++ more) × ByteEndsAfter framing spells breaks ahead limit (w ++ piece) (values ++ more) (reported_as new stop)

abbrev pub ReadingTakes : {R E T : Type 0} → (R → List ℕ → Type 0) → (List ℕ → E → Type 0) → (List ℕ → RecordError → Type 0) → Reading R → Framing → ℕ → List ℕ → List E → List ℕ → List E → List E → Result T ReadingStop → Type 0
ReadingTakes holds spells breaks new framing limit w values piece old now result = ReadingTakesAfter holds spells breaks nothing_ahead new framing limit w values piece old now result

-- The result for a piece after w up to the end of a record: the piece was used and no record ended;
-- or a record ended with the last byte used; or the stream ended, or has an error.
abbrev pub ReadingTakesRecord : {R E : Type 0} → (R → List ℕ → Type 0) → (List ℕ → E → Type 0) → (List ℕ → RecordError → Type 0) → Ahead → Reading R → Framing → ℕ → List ℕ → List E → List ℕ → Result (Option (EndedRecord E)) ReadingStop → Type 0
ReadingTakesRecord holds spells breaks ahead new framing limit w values piece (Ok None) = ReadingRepresentsAfter holds spells ahead new framing limit (w ++ piece) values
ReadingTakesRecord holds spells breaks ahead new framing limit w values piece (Ok (Some ended)) =
    ReadingRepresentsAfter holds spells ahead new framing limit (w ++ take ended.used piece) (values ++ ended.value ∷ [])
    × WholeIn framing spells limit (w ++ take ended.used piece) (values ++ ended.value ∷ [])
    × EndsRecordIn framing spells limit (w ++ take (ended.used - 1) piece) values (slice_index piece (ended.used - 1)) ended.value
    × GoesBefore framing spells limit w values piece ended.used
ReadingTakesRecord holds spells breaks ahead new framing limit w values piece (Err stop) = ByteEndsAfter framing spells breaks ahead limit (w ++ piece) values (reported_as new stop)

-- if a record ended, the number of bytes used is positive and at most the piece's length `len`
abbrev pub EndsWithin : {E T : Type 0} → ℕ → Result (Option (EndedRecord E)) T → Type 0
EndsWithin len (Ok None) = Unit {0}
EndsWithin len (Ok (Some ended)) = (0 < ended.used) × (ended.used ≤ len)
EndsWithin len (Err stop) = Unit {0}

-- the report of the reading, from the way in which the reads ended
abbrev pub MeansAfter : {R E : Type 0} → (R → List ℕ → Type 0) → (List ℕ → E → Type 0) → Ahead → Reading R → ReadsEnd ReadingStop → Result Report Stop → Type 0
MeansAfter holds spells ahead d (Stopped stop) answer = answer ≡ reported_as d stop
MeansAfter {E = E} holds spells ahead d AtEnd answer =
    (framing : Framing) (limit : ℕ) (w : List ℕ) (values : List E) → ReadingRepresentsAfter holds spells ahead d framing limit w values → EndMeans framing spells ahead limit w values answer
MeansAfter {E = E} holds spells ahead d Failed answer =
    (framing : Framing) (limit : ℕ) (w : List ℕ) (values : List E) → ReadingRepresentsAfter holds spells ahead d framing limit w values → BreaksOff Read framing spells ahead limit w values answer
MeansAfter {E = E} holds spells ahead d Spent answer =
    (framing : Framing) (limit : ℕ) (w : List ℕ) (values : List E) → ReadingRepresentsAfter holds spells ahead d framing limit w values → BreaksOff ReadsSpent framing spells ahead limit w values answer

-- the report of the reading, and the values appended to the list `old`, from the way in which the
-- reads ended
abbrev pub FinishMeans : {R E : Type 0} → (R → List ℕ → Type 0) → (List ℕ → E → Type 0) → (List ℕ → RecordError → Type 0) → Reading R → ReadsEnd ReadingStop → List E → List E → Result Report Stop → Type 0
FinishMeans holds spells breaks d (Stopped stop) old now answer = (now ≡ old) × (answer ≡ reported_as d stop)
FinishMeans {E = E} holds spells breaks d AtEnd old now answer =
    (ahead : Ahead) (framing : Framing) (limit : ℕ) (w : List ℕ) (values : List E) → ReadingRepresentsAfter holds spells ahead d framing limit w values
    → (more : List E) × (now ≡ old ++ more) × InputMeans framing spells breaks ahead limit w (values ++ more) answer
FinishMeans {E = E} holds spells breaks d Failed old now answer = (now ≡ old) × ((ahead : Ahead) → MeansAfter {E = E} holds spells ahead d Failed answer)
FinishMeans {E = E} holds spells breaks d Spent old now answer = (now ≡ old) × ((ahead : Ahead) → MeansAfter {E = E} holds spells ahead d Spent answer)

abbrev pub Means : {R E : Type 0} → (R → List ℕ → Type 0) → (List ℕ → E → Type 0) → Reading R → ReadsEnd ReadingStop → Result Report Stop → Type 0
Means holds spells d end answer = MeansAfter holds spells nothing_ahead d end answer

-- Between the states `first` and `now` the reading consumed w, and appended the values of w to the
-- list `start`, which became `to`. This holds for any bytes before w, and any records before the
-- stream.
abbrev pub Collects : {R E : Type 0} → (R → List ℕ → Type 0) → (List ℕ → E → Type 0) → Reading R → List E → Reading R → List E → List ℕ → Type 0
Collects {E = E} holds spells first start now to w =
    (ahead : Ahead) (framing : Framing) (limit : ℕ) (v : List ℕ) (before : List E) → ReadingRepresentsAfter holds spells ahead first framing limit v before
    → (more : List E) × (to ≡ start ++ more) × ReadingRepresentsAfter holds spells ahead now framing limit (v ++ w) (before ++ more)

-- like `Collects`, but the stream ended or an error was detected in the piece after w, and nothing
-- is buffered
abbrev pub GathersLast : {R E : Type 0} → (R → List ℕ → Type 0) → (List ℕ → E → Type 0) → (List ℕ → RecordError → Type 0) → (R → ℕ) → Reading R → List E → Reading R → List E → List ℕ → List ℕ → ReadingStop → Type 0
GathersLast {E = E} holds spells breaks kept first start now to w piece stop =
    ((ahead : Ahead) (framing : Framing) (limit : ℕ) (v : List ℕ) (before : List E) → ReadingRepresentsAfter holds spells ahead first framing limit v before
    → (more : List E) × (to ≡ start ++ more) × ByteEndsAfter framing spells breaks ahead limit (v ++ (w ++ piece)) (before ++ more) (reported_as now stop))
    × (held_by_reading kept now ≡ 0)
