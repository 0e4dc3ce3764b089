-- A stream of values by its framing: consecutive records, records in a chunked body, or JSON Lines.
use Rattle.std.specs.Prelude.{◌≡◌, ℕ, ◌+◌, ◌-◌, ◌<◌, List, [], ◌∷◌, ◌++◌, length, take, slice_index, Result, Ok, Err}
use Rattle.mes_frame.specs.ChunkFront.{IsOpen}
use Rattle.mes_stream.specs.declared.record_error.RecordError.{RecordError}
use Rattle.mes_stream.specs.Stream.{Records, BodyLive, EndsInside, EndsRecord, HasValue, BodyStops}
use Rattle.mes_stream.specs.Chunked.{IsStream, Live, EndsWith, ChunkedStops}
use Rattle.mes_stream.specs.JsonLines.{AreLines, LinesLive, EndsInsideLine, EndsLine, LinesStop}
use Rattle.mes_stream.specs.declared.fault.Fault.{Fault}
use Rattle.mes_stream.specs.declared.fault.Fault.TheVariants.{EndsInsideChunks, EndsInsideRecord}
use Rattle.mes_stream.specs.declared.step.Decoded.{Decoded}
use Rattle.mes_stream.specs.declared.step.Decoded.TheVariants as out
use Rattle.mes_stream.specs.declared.stream_reader.Framing.{Framing}
use Rattle.mes_stream.specs.declared.stream_reader.Framing.TheVariants.{Plain, Chunked, Lines}

-- w is a prefix of a stream with the values so far, and no byte of w ends the stream
abbrev pub GoesIn : {E : Type 0} → Framing → (List ℕ → E → Type 0) → ℕ → List ℕ → List E → Type 0
GoesIn Plain spells limit w values = BodyLive spells limit w values
GoesIn Chunked spells limit w values = Live spells limit w values
GoesIn Lines spells limit w values = LinesLive spells limit w values

-- w is a prefix of a stream with the values, and ends after a complete record or before the first
abbrev pub WholeIn : {E : Type 0} → Framing → (List ℕ → E → Type 0) → ℕ → List ℕ → List E → Type 0
WholeIn Plain spells limit w values = Records spells limit w values
WholeIn Chunked spells limit w values = (body : List ℕ) × IsOpen w body × Records spells limit body values
WholeIn Lines spells limit w values = AreLines spells limit w values

-- the last byte of w ends a stream of the values; no byte ends plain RecordIO or JSON Lines
abbrev pub EndsIn : {E : Type 0} → Framing → (List ℕ → E → Type 0) → ℕ → List ℕ → List E → Type 0
EndsIn Plain spells limit w values = ⊥
EndsIn Chunked spells limit w values = IsStream spells limit w values
EndsIn Lines spells limit w values = ⊥

-- the byte c after w ends a record whose data represent the value
abbrev pub EndsRecordIn : {E : Type 0} → Framing → (List ℕ → E → Type 0) → ℕ → List ℕ → List E → ℕ → E → Type 0
EndsRecordIn Plain spells limit w values c value = EndsRecord spells limit w values c (HasValue spells value)
EndsRecordIn Chunked spells limit w values c value = EndsWith spells limit w values c value
EndsRecordIn Lines spells limit w values c value = EndsLine spells limit w values c (HasValue spells value)

-- the error is detected at the byte c after w, or an allocation fails there
abbrev pub ByteStopsIn : {E : Type 0} → Framing → (List ℕ → E → Type 0) → (List ℕ → RecordError → Type 0) → ℕ → ℕ → List ℕ → List E → ℕ → Fault → Type 0
ByteStopsIn Plain spells breaks ahead limit w values c fault = BodyStops spells breaks ahead limit w values c fault
ByteStopsIn Chunked spells breaks ahead limit w values c fault = ChunkedStops spells breaks ahead limit w values c fault
ByteStopsIn Lines spells breaks ahead limit w values c fault = LinesStop spells breaks ahead limit w values c fault

-- the meaning of each result of a step that used `used` bytes of the piece after w
abbrev pub SaysIn : {E : Type 0} → Framing → (List ℕ → List E → Type 0) → (List ℕ → E → Type 0) → (List ℕ → RecordError → Type 0) → ℕ → ℕ → List ℕ → List E → List ℕ → ℕ → Decoded E Fault → Type 0
SaysIn framing Represents spells breaks ahead limit w values piece used out.More = Represents (w ++ take used piece) values
SaysIn framing Represents spells breaks ahead limit w values piece used (out.Event value) =
    Represents (w ++ take used piece) (values ++ value ∷ [])
    × EndsRecordIn framing spells limit (w ++ take (used - 1) piece) values (slice_index piece (used - 1)) value
SaysIn framing Represents spells breaks ahead limit w values piece used out.End = EndsIn framing spells limit (w ++ take used piece) values
SaysIn framing Represents spells breaks ahead limit w values piece used (out.Fault fault) =
    ByteStopsIn framing spells breaks ahead limit (w ++ take (used - 1) piece) values (slice_index piece (used - 1)) fault

-- no record ends, and no error is detected, before the last of the `used` bytes
abbrev pub GoesBefore : {E : Type 0} → Framing → (List ℕ → E → Type 0) → ℕ → List ℕ → List E → List ℕ → ℕ → Type 0
GoesBefore framing spells limit w values piece used = (n : ℕ) → n < used → GoesIn framing spells limit (w ++ take n piece) values

-- the end of the input after w: Ok between records or lines, F10 inside one, F6 inside a chunked
-- body
abbrev pub InputEnds : {E T : Type 0} → Framing → (List ℕ → E → Type 0) → ℕ → List ℕ → List E → Result T Fault → Type 0
InputEnds Plain spells limit w values (Ok done) = Records spells limit w values
InputEnds Plain spells limit w values (Err fault) = EndsInside spells limit w values × (fault ≡ EndsInsideRecord)
InputEnds Chunked spells limit w values (Ok done) = ⊥
InputEnds Chunked spells limit w values (Err fault) = Live spells limit w values × (fault ≡ EndsInsideChunks)
InputEnds Lines spells limit w values (Ok done) = AreLines spells limit w values
InputEnds Lines spells limit w values (Err fault) = EndsInsideLine spells limit w values × (fault ≡ EndsInsideRecord)

-- The end of the input after w, with the values of w. The end of JSON Lines ends the last line, like
-- a LF: the values are those of w and a LF, or an error is detected at that LF.
abbrev pub EndsInput : {E T : Type 0} → Framing → (List ℕ → E → Type 0) → (List ℕ → RecordError → Type 0) → ℕ → ℕ → List ℕ → List E → Result T Fault → Type 0
EndsInput Plain spells breaks ahead limit w values result = InputEnds Plain spells limit w values result
EndsInput Chunked spells breaks ahead limit w values result = InputEnds Chunked spells limit w values result
EndsInput Lines spells breaks ahead limit w values (Ok done) = AreLines spells limit (w ++ 10 ∷ []) values
EndsInput Lines spells breaks ahead limit w values (Err fault) = LinesStop spells breaks ahead limit w values 10 fault

-- the error `fault` is detected at the n-th byte of w, after records of the values
pub record StopsWithin {E : Type 0} (framing : Framing) (spells : List ℕ → E → Type 0) (breaks : List ℕ → RecordError → Type 0) (ahead limit : ℕ) (w : List ℕ) (values : List E) (fault : Fault) (n : ℕ) : Type 0 where
  pub front : List ℕ
  pub byte : ℕ
  pub rest : List ℕ
  pub is : w ≡ front ++ byte ∷ rest
  pub used : n ≡ length front + 1
  pub live : GoesIn framing spells limit front values
  pub stops : ByteStopsIn framing spells breaks ahead limit front values byte fault
