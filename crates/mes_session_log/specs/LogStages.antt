-- The state of the reader of a session log, before and after the end of the first record.
use Rattle.std.specs.Prelude.{◌≡◌, ℕ, List, [], ◌++◌, take, Option, None, Some, Result, Ok, Err}
use Rattle.mes_msg.specs.declared.entry.Entry.{Entry}
use Rattle.mes_stream.specs.Reading.{ReadingRepresents, ReadingRepresentsAfter, reported_as}
use Rattle.mes_stream.specs.declared.fault.Fault.TheVariants.{NoMemory, Read, ReadsSpent}
use Rattle.mes_stream.specs.declared.fault.Report.{Report}
use Rattle.mes_stream.specs.declared.fault.Stop.{Stop}
use Rattle.mes_stream.specs.declared.read_loop.ReadsEnd.{ReadsEnd}
use Rattle.mes_stream.specs.declared.read_loop.ReadsEnd.TheVariants.{Stopped, AtEnd, Failed, Spent}
use Rattle.mes_stream.specs.declared.counted_reader.ReadingStop.{ReadingStop}
use Rattle.mes_stream.specs.declared.stream_reader.Framing.TheVariants.{Plain}
use Rattle.mes_session_log_entry.specs.Entries.{SpellsFirst, SpellsEntry}
use Rattle.mes_session_log_entry.specs.EntryData.{HoldsFirst, HoldsEntry}
use Rattle.mes_session_log.specs.Logs.{AfterFirst, LogByteEnds, LogEndMeans, LogBreaksOff}
use Rattle.mes_session_log.specs.declared.log_reading.LogReading.{LogReading}
use Rattle.mes_session_log.specs.declared.log_reading.LogStop.{LogStop}
use Rattle.mes_session_log.specs.declared.log_reading.LogStop.TheVariants as log_stop
use Rattle.mes_session_log.specs.declared.log_reading.Stage.{Stage}
use Rattle.mes_session_log.specs.declared.log_reading.Stage.TheVariants as stage

-- the reader has consumed w, which begins a log; `entries` are the entries so far
abbrev pub StageRepresents : Stage → ℕ → List ℕ → List Entry → Type 0
StageRepresents (stage.First reading) limit w entries = ReadingRepresents HoldsFirst SpellsFirst reading Plain limit w [] × (entries ≡ [])
StageRepresents (stage.One reading) limit w entries =
    AfterFirst limit w entries (λ version ahead rest more. (version ≡ 1) × ReadingRepresentsAfter HoldsEntry (SpellsEntry 1) ahead reading Plain limit rest more)
StageRepresents (stage.Two reading) limit w entries =
    AfterFirst limit w entries (λ version ahead rest more. (version ≡ 2) × ReadingRepresentsAfter HoldsEntry (SpellsEntry 2) ahead reading Plain limit rest more)

-- the number of bytes that the reader has used
abbrev pub used_by : Stage → ℕ
used_by (stage.First reading) = reading.used
used_by (stage.One reading) = reading.used
used_by (stage.Two reading) = reading.used

-- the result that is reported if reading stops
abbrev pub stage_reported : Stage → ReadingStop → Result Report Stop
stage_reported (stage.First reading) stop = reported_as reading stop
stage_reported (stage.One reading) stop = reported_as reading stop
stage_reported (stage.Two reading) stop = reported_as reading stop

abbrev pub log_reported : Stage → LogStop → Result Report Stop
log_reported s (log_stop.Reading stop) = stage_reported s stop
log_reported s log_stop.NoMemory = Err (record { fault = NoMemory; used = used_by s })

-- the reader has consumed w, which begins a log and has a complete first record; `entries` are the
-- entries so far
abbrev pub RestRepresents : Stage → ℕ → List ℕ → List Entry → Type 0
RestRepresents (stage.First reading) limit w entries = ⊥
RestRepresents (stage.One reading) limit w entries = StageRepresents (stage.One reading) limit w entries
RestRepresents (stage.Two reading) limit w entries = StageRepresents (stage.Two reading) limit w entries

-- after a piece that follows w: the entries that end in the piece are appended, or a byte of the
-- piece stops the reading
abbrev pub StageTakes : {T : Type 0} → Stage → ℕ → List ℕ → List Entry → List ℕ → List Entry → List Entry → Result T LogStop → Type 0
StageTakes new limit w before piece old now (Ok done) = (more : List Entry) × (now ≡ old ++ more) × StageRepresents new limit (w ++ piece) (before ++ more)
StageTakes new limit w before piece old now (Err stop) = (more : List Entry) × (now ≡ old ++ more) × LogByteEnds limit (w ++ piece) (before ++ more) (log_reported new stop)

-- after a piece that follows w, up to the end of the first record: the record is incomplete, or
-- ended after `used` bytes, or a byte stopped the reading
abbrev pub StageBegins : Stage → ℕ → List ℕ → List Entry → List ℕ → List Entry → List Entry → Result (Option ℕ) LogStop → Type 0
StageBegins new limit w before piece old now (Ok None) = (now ≡ old) × StageRepresents new limit (w ++ piece) before
StageBegins new limit w before piece old now (Ok (Some used)) =
    (more : List Entry) × (now ≡ old ++ more) × RestRepresents new limit (w ++ take used piece) (before ++ more)
StageBegins new limit w before piece old now (Err stop) = (now ≡ old) × LogByteEnds limit (w ++ piece) before (log_reported new stop)

-- the result after the last read: a stop is reported; else the reader's state decides
abbrev pub StageMeans : Stage → ReadsEnd ReadingStop → Result Report Stop → Type 0
StageMeans s (Stopped stop) answer = answer ≡ stage_reported s stop
StageMeans s AtEnd answer = (limit : ℕ) (w : List ℕ) (entries : List Entry) → StageRepresents s limit w entries → LogEndMeans limit w entries answer
StageMeans s Failed answer = (limit : ℕ) (w : List ℕ) (entries : List Entry) → StageRepresents s limit w entries → LogBreaksOff limit Read w entries answer
StageMeans s Spent answer = (limit : ℕ) (w : List ℕ) (entries : List Entry) → StageRepresents s limit w entries → LogBreaksOff limit ReadsSpent w entries answer

-- the result after the last read; the stop may also be a failed allocation for the first entry
abbrev pub LogMeans : Stage → ReadsEnd LogStop → Result Report Stop → Type 0
LogMeans s (Stopped stop) answer = answer ≡ log_reported s stop
LogMeans s AtEnd answer = StageMeans s AtEnd answer
LogMeans s Failed answer = StageMeans s Failed answer
LogMeans s Spent answer = StageMeans s Spent answer

-- the result of reading records, as a result of reading the log
abbrev pub log_answer : {T : Type 0} → Result T ReadingStop → Result T LogStop
log_answer (Ok done) = Ok done
log_answer (Err stop) = Err (log_stop.Reading stop)

-- the reader with the limit `limit` has consumed w; `entries` are the entries so far
abbrev pub LogRepresents : LogReading → ℕ → List ℕ → List Entry → Type 0
LogRepresents d limit w entries = (d.limit ≡ limit) × StageRepresents d.stage limit w entries

-- the entries of w, which are read from the first byte on, are appended to `start`
abbrev pub LogGathers : LogReading → List Entry → LogReading → List Entry → List ℕ → Type 0
LogGathers first start now to w =
    (limit : ℕ) → LogRepresents first limit [] [] → (more : List Entry) × (to ≡ start ++ more) × LogRepresents now limit w more

-- the entries of w are appended to `start`, and a byte of the piece after w stops the reading
abbrev pub LogGathersLast : LogReading → List Entry → LogReading → List Entry → List ℕ → List ℕ → LogStop → Type 0
LogGathersLast first start now to w piece stop =
    (limit : ℕ) → LogRepresents first limit [] [] → (more : List Entry) × (to ≡ start ++ more) × LogByteEnds limit (w ++ piece) more (log_reported now.stage stop)

-- how reading the records ended, or `None` if an allocation failed for the first entry
abbrev pub reading_end : ReadsEnd LogStop → Option (ReadsEnd ReadingStop)
reading_end (Stopped (log_stop.Reading stop)) = Some (Stopped stop)
reading_end (Stopped log_stop.NoMemory) = None
reading_end AtEnd = Some AtEnd
reading_end Failed = Some Failed
reading_end Spent = Some Spent
