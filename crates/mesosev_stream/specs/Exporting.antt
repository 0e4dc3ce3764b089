-- The state of an exporter of a stream, read by read.
use Rattle.std.specs.Prelude.{◌≡◌, ℕ, ◌+◌, ◌≤◌, Option, List, [], ◌∷◌, ◌++◌, length, Result, Ok, Err}
use Rattle.mes_frame.specs.Devices.{Device}
use Rattle.mes_frame.specs.Written.{WentOut, Stops}
use Rattle.mes_frame.specs.declared.write.WriteFault.{WriteFault}
use Rattle.mes_msg.specs.Texts.{IsRefusalOf, IsTextOf}
use Rattle.mes_msg.specs.EncodeFault.{EncodeFault}
use Rattle.mesosev_stream.specs.Messages.{Messages}
use Rattle.mes_stream.specs.MessageData.{HoldsData}
use Rattle.mes_stream.specs.Reading.{FinishMeans, ReadingRepresents, ByteEnds, reported_as}
use Rattle.mes_stream.specs.RecordValues.{IsRefused}
use Rattle.mes_stream.specs.Refusals.{IsMessageRefusal}
use Rattle.mes_stream.specs.SendLines.{unsent_text}
use Rattle.mes_stream.specs.Sending.{fault_at}
use Rattle.mes_stream.specs.Stream.{saturated}
use Rattle.mes_stream.specs.declared.counted_reader.ReadingStop.{ReadingStop}
use Rattle.mes_stream.specs.declared.fault.Report.{Report}
use Rattle.mes_stream.specs.declared.fault.Stop.{Stop}
use Rattle.mes_stream.specs.declared.read_loop.ReadsEnd.{ReadsEnd}
use Rattle.mes_stream.specs.declared.read_loop.ReadsEnd.TheVariants.{Stopped, AtEnd, Failed, Spent}
use Rattle.mes_stream.specs.declared.stream_reader.Framing.{Framing}
use Rattle.mes_stream.specs.declared.stream_reader.Framing.TheVariants.{Lines}
use Rattle.mesosev_stream.specs.Following.{Brings, SendsText}
use Rattle.mesosev_stream.specs.JsonLines.{HaveLines, json_lines}
use Rattle.mesosev_stream.specs.Printing.{IsCutOff, Tells, outcome_line, outcome_status}
use Rattle.mesosev_stream.specs.declared.exit_status.ExitStatus.TheVariants as exit
use Rattle.mesosev_stream.specs.declared.exporter.Exporter.{Exporter}
use Rattle.mesosev_stream.specs.declared.exporter.ExportStop.{ExportStop}
use Rattle.mesosev_stream.specs.declared.exporter.ExportStop.TheVariants.{Reading, Line}
use Rattle.mesosev_stream.specs.declared.exporter.ExportProgress.{ExportProgress}
use Rattle.mesosev_stream.specs.declared.exporter.ExportProgress.TheVariants as done
use Rattle.mesosev_stream.specs.declared.exporter.LineFault.{LineFault}
use Rattle.mesosev_stream.specs.declared.exporter.LineFault.TheVariants.{Output, NoLine}
use Rattle.mesosev_stream.specs.declared.line_buffer.LineBuffer.{LineBuffer}
use Rattle.mesosev_stream.specs.declared.outcome.RunOutcome.{RunOutcome}
use Rattle.mesosev_stream.specs.declared.outcome.RunOutcome.TheVariants.{Status, OutputFailed}

-- `Goes` holds for the lines of all messages; or, if a message has no line, for the lines of the
-- messages before it. There were `before` other messages before these.
abbrev pub ExportsFrom : {M : Type 0} → Messages M → (List ℕ → Type 0) → ℕ → ℕ → List M → ExportProgress → Type 0
ExportsFrom of Goes limit before messages (done.All count) =
    HaveLines of limit messages × Goes (json_lines of messages) × (count ≡ saturated (before + length messages))
ExportsFrom {M = M} of Goes limit before messages (done.Until index why) =
    (front : List M) × (message : M) × (rest : List M) × (messages ≡ front ++ message ∷ rest) × HaveLines of limit front
    × IsRefusalOf of.kind message limit why × Goes (json_lines of front) × (index ≡ saturated (before + length front))

-- The effect of writing the lines of messages: as many lines as `ExportsFrom` states were written;
-- or the output failed in the lines of the messages.
abbrev pub ExportsMessages : {M : Type 0} → Messages M → ℕ → LineBuffer → LineBuffer → Device → Device → ℕ → List M → Result ExportProgress WriteFault → Type 0
ExportsMessages of limit lines after old new before messages (Ok progress) = ExportsFrom of (SendsText lines after old new) limit before messages progress
ExportsMessages of limit lines after old new before messages (Err fault) =
    Stops old.bytes new.bytes old.counts new.counts (lines.held.items ++ json_lines of messages) lines.sent fault

-- the exporter has not consumed any byte
pub record IsFreshExporter {M : Type 0} (of : Messages M) (d : Exporter M) (framing : Framing) (limit : ℕ) : Type 0 where
  pub represents : ReadingRepresents HoldsData (IsTextOf of.kind) d.reading framing limit [] []
  pub limit_is : d.limit ≡ limit
  pub count : d.count ≡ 0
  pub messages : d.messages.items ≡ []
  pub lines : d.lines.held.items ≡ []
  pub sent : d.lines.sent ≡ 0

-- the exporter has not consumed any byte, and reads JSON Lines
abbrev pub StartsLines : {M : Type 0} → Messages M → Exporter M → Type 0
StartsLines of d = (limit : ℕ) × IsFreshExporter of d Lines limit

-- the lines of the messages were written completely: `sent` bytes
pub record HasExported {M : Type 0} (of : Messages M) (limit : ℕ) (out printed : Device) (sent : ℕ) (messages : List M) : Type 0 where
  pub have : HaveLines of limit messages
  pub went : WentOut out.bytes printed.bytes out.counts printed.counts (json_lines of messages) 0 sent

-- the exporter has written the lines of the messages, and nothing is buffered
pub record HasWritten {M : Type 0} (of : Messages M) (limit : ℕ) (out printed : Device) (d : Exporter M) (messages : List M) : Type 0 where
  pub shown : HasExported of limit out printed d.lines.sent messages
  pub count : d.count ≡ saturated (length messages)
  pub cleared : d.messages.items ≡ []
  pub lines : d.lines.held.items ≡ []
  pub limit_is : d.limit ≡ limit

-- the exporter has consumed w, and wrote the lines of its messages
pub record Exported {M : Type 0} (of : Messages M) (framing : Framing) (limit : ℕ) (out printed : Device) (d : Exporter M) (w : List ℕ) : Type 0 where
  pub messages : List M
  pub represents : ReadingRepresents HoldsData (IsTextOf of.kind) d.reading framing limit w messages
  pub has : HasWritten of limit out printed d messages

-- the stream ended, or an error was detected, in w; the lines of the messages before were written
pub record ExportedTo {M : Type 0} (of : Messages M) (framing : Framing) (limit : ℕ) (out printed : Device) (d : Exporter M) (w : List ℕ) (stop : ReadingStop) : Type 0 where
  pub messages : List M
  pub ends : ByteEnds framing (IsTextOf of.kind) (IsMessageRefusal of.kind) limit w messages (reported_as d.reading stop)
  pub has : HasWritten of limit out printed d messages

-- the output failed in the lines of the messages that the piece after w completes
pub record ExportedPart {M : Type 0} (of : Messages M) (framing : Framing) (limit : ℕ) (out printed : Device) (w piece : List ℕ) (sent : ℕ) : Type 0 where
  pub before : List M
  pub last : List M
  pub brings : Brings of framing limit w piece before last
  pub have : HaveLines of limit before
  pub cut : IsCutOff out printed (json_lines of before) (json_lines of last) sent

-- one of the messages that the piece after w completes has no line; those before it were written
pub record ExportedUntil {M : Type 0} (of : Messages M) (framing : Framing) (limit : ℕ) (out printed : Device) (d : Exporter M) (w piece : List ℕ) (index : ℕ) (why : EncodeFault) : Type 0 where
  pub before : List M
  pub last : List M
  pub message : M
  pub more : List M
  pub brings : Brings of framing limit w piece before (last ++ message ∷ more)
  pub bad : IsRefusalOf of.kind message limit why
  pub shown : HasExported of limit out printed d.lines.sent (before ++ last)
  pub index_is : index ≡ saturated (length (before ++ last))

-- The exporter stopped in the piece after w: the stream ended or has an error; the output failed;
-- or a message has no line.
abbrev pub StopsExport : {M : Type 0} → Messages M → Framing → ℕ → Device → Device → Exporter M → List ℕ → List ℕ → ExportStop → Type 0
StopsExport of framing limit out printed d w piece (Reading stop) =
    ExportedTo of framing limit out printed d (w ++ piece) stop × (saturated (length w + 1) ≤ d.reading.used)
StopsExport of framing limit out printed d w piece (Line (Output fault)) = ExportedPart of framing limit out printed w piece fault.sent
StopsExport of framing limit out printed d w piece (Line (NoLine index why)) = ExportedUntil of framing limit out printed d w piece index why

-- After the lines of the last messages: the line of the result was printed to `err`; or the reason
-- for which a message has no line; or nothing, if the output failed in those lines.
abbrev pub TellsResult : {M : Type 0} → Messages M → Option ℕ → Result Report Stop → Result ExportProgress WriteFault → Device → Device → RunOutcome → Type 0
TellsResult of line outcome (Ok (done.All count)) err reported ended = Tells err reported (outcome_line of.word line count outcome ++ 10 ∷ []) × (ended ≡ Status (outcome_status outcome))
TellsResult of line outcome (Ok (done.Until index why)) err reported ended = Tells err reported (unsent_text of.word (fault_at index why) ++ 10 ∷ []) × (ended ≡ Status exit.Fault)
TellsResult of line outcome (Err fault) err reported ended = (reported ≡ err) × (ended ≡ OutputFailed fault.sent)

-- the lines of the messages that the end of the input completes were written, and then the result was
-- printed
pub record FinishesExport {M : Type 0} (of : Messages M) (d : Exporter M) (end : ReadsEnd ReadingStop) (line : Option ℕ) (out printed err reported : Device) (ended : RunOutcome) : Type 0 where
  pub last : List M
  pub outcome : Result Report Stop
  pub lines : LineBuffer
  pub progress : Result ExportProgress WriteFault
  pub means : FinishMeans HoldsData (IsTextOf of.kind) (IsRefused (IsTextOf of.kind) (IsMessageRefusal of.kind)) d.reading end d.messages.items last outcome
  pub writes : (number : ℕ) → d.count ≡ saturated number → ExportsMessages of d.limit d.lines lines out printed number last progress
  pub result : TellsResult of line outcome progress err reported ended

-- `Exported` for an exporter that has not consumed any byte, for any framing and any limit
abbrev pub ExportGoes : {M : Type 0} → Messages M → Exporter M → Device → Exporter M → Device → List ℕ → Type 0
ExportGoes of first out d printed w = (framing : Framing) (limit : ℕ) → IsFreshExporter of first framing limit → Exported of framing limit out printed d w

abbrev pub ExportStops : {M : Type 0} → Messages M → Exporter M → Device → Exporter M → Device → List ℕ → List ℕ → ExportStop → Type 0
ExportStops of first out d printed w piece stop =
    (framing : Framing) (limit : ℕ) → IsFreshExporter of first framing limit → StopsExport of framing limit out printed d w piece stop

-- how the reads ended; or the reason for which not all lines were written
abbrev pub read_of : ReadsEnd ExportStop → Result (ReadsEnd ReadingStop) LineFault
read_of (Stopped (Reading stop)) = Ok (Stopped stop)
read_of (Stopped (Line fault)) = Err fault
read_of AtEnd = Ok AtEnd
read_of Failed = Ok Failed
read_of Spent = Ok Spent
