-- The effect of `convert`: the events of a stream are written again.
use Rattle.std.specs.Prelude.{◌≡◌, ℕ, ◌+◌, ◌≤◌, ◌⊎◌, Option, List, [], ◌∷◌, ◌++◌, length, Result, Ok, Err}
use Rattle.mesosev_stream.specs.Messages.{Messages}
use Rattle.mes_msg.specs.Texts.{IsTextOf}
use Rattle.mes_stream.specs.MessageData.{HoldsData, kept_data}
use Rattle.mes_stream.specs.Reading.{Collects, GathersLast, ReadingRepresents}
use Rattle.mes_stream.specs.RecordValues.{IsRefused}
use Rattle.mes_stream.specs.Refusals.{IsMessageRefusal}
use Rattle.mes_stream.specs.SendLines.{unsent_text}
use Rattle.mes_stream.specs.Stream.{saturated}
use Rattle.mes_stream.specs.declared.counted_reader.Reading.{Reading}
use Rattle.mes_stream.specs.declared.counted_reader.ReadingStop.{ReadingStop}
use Rattle.mes_stream.specs.declared.message_reader.MessageReader.{MessageReader}
use Rattle.mes_stream.specs.Sending.{IsPlainOf, IsStreamOf, StopsSending, WroteAll}
use Rattle.mes_stream.specs.declared.fault.Report.{Report}
use Rattle.mes_stream.specs.declared.fault.Stop.{Stop}
use Rattle.mes_msg.specs.declared.send_fault.SendFault.{SendFault}
use Rattle.mes_stream.specs.declared.stream_reader.Framing.{Framing}
use Rattle.mes_stream.specs.declared.stream_reader.Framing.TheVariants.{Lines}
use Rattle.mes_frame.specs.Devices.{Device}
use Rattle.mesosev_stream.specs.JsonLines.{IsLinesOf}
use Rattle.mesosev_stream.specs.LineNumbers.{stop_text}
use Rattle.mesosev_stream.specs.Printing.{ReadsInput, Tells, last_line}
use Rattle.mesosev_stream.specs.declared.conversion.OutputFormat.{OutputFormat}
use Rattle.mesosev_stream.specs.declared.conversion.OutputFormat.TheVariants as form
use Rattle.mesosev_stream.specs.declared.exit_status.ExitStatus.{ExitStatus}
use Rattle.mesosev_stream.specs.declared.exit_status.ExitStatus.TheVariants as exit
use Rattle.mesosev_stream.specs.declared.limits.TheConstants.{MAX_READS}

-- the bytes w are the encoding of the messages: plain RecordIO, a stream in chunks of `most` bytes,
-- or JSON Lines
abbrev pub IsConverted : {M : Type 0} → Messages M → ℕ → OutputFormat → List M → List ℕ → Type 0
IsConverted of limit form.Plain messages w = IsPlainOf of.kind limit messages w
IsConverted of limit (form.Chunked most) messages w = IsStreamOf of.kind limit most messages w
IsConverted of limit form.JsonLines messages w = IsLinesOf of limit messages w

-- The messages were written, and nothing was printed to `err`. Or encoding or writing failed, and
-- the error was printed.
abbrev pub Sends : {M : Type 0} → Messages M → ℕ → OutputFormat → List M → Device → Device → Device → Device → ExitStatus → Type 0
Sends of limit format messages out written err reported status =
    ((w : List ℕ) × IsConverted of limit format messages w × WroteAll {W = Device} (λ d. d) out written w
    × (reported ≡ err) × (status ≡ exit.Success))
    ⊎ ((fault : SendFault) × StopsSending {W = Device} of.kind (λ d. d) (IsConverted of limit format messages) limit messages out written fault
    × Tells err reported (unsent_text of.word fault ++ 10 ∷ []) × (status ≡ exit.Fault))

-- the messages that were read were written, if the stream ended; otherwise the error was printed
abbrev pub SendsRead : {M : Type 0} → Messages M → ℕ → OutputFormat → Option ℕ → List M → Result Report Stop → Device → Device → Device → Device → ExitStatus → Type 0
SendsRead of limit format line messages (Ok report) out written err reported status = Sends of limit format messages out written err reported status
SendsRead of limit format line messages (Err stop) out written err reported status =
    (written ≡ out) × Tells err reported (stop_text line stop ++ 10 ∷ []) × (status ≡ exit.Fault)

-- the reading has not consumed any byte, and reads JSON Lines
abbrev pub StartsLines : {M : Type 0} → Messages M → Reading (MessageReader M) → Type 0
StartsLines of d = (limit : ℕ) × ReadingRepresents HoldsData (IsTextOf of.kind) d Lines limit [] []

-- `Collects` for a reader of messages
abbrev pub Gathers : {M : Type 0} → Messages M → Reading (MessageReader M) → List M → Reading (MessageReader M) → List M → List ℕ → Type 0
Gathers of first start now to w = Collects HoldsData (IsTextOf of.kind) first start now to w

-- `GathersLast` for a reader of messages, which stopped at a byte of the piece after w
abbrev pub StopsGathering : {M : Type 0} → Messages M → Reading (MessageReader M) → List M → Reading (MessageReader M) → List M → List ℕ → List ℕ → ReadingStop → Type 0
StopsGathering of first start now to w piece stop =
    GathersLast HoldsData (IsTextOf of.kind) (IsRefused (IsTextOf of.kind) (IsMessageRefusal of.kind)) kept_data first start now to w piece stop
    × ((framing : Framing) (limit : ℕ) → ReadingRepresents HoldsData (IsTextOf of.kind) first framing limit [] [] → saturated (length w + 1) ≤ now.used)

-- the messages that were read from the input were appended to the list `old`, which became `now`;
-- with the result, and the number of the line in which the reading ended
abbrev pub ReadsAll : {M : Type 0} → Messages M → Framing → ℕ → Device → Device → List M → List M → Result Report Stop → Option ℕ → Type 0
ReadsAll {M = M} of framing limit input rest old now outcome line =
    (w : List ℕ) × (messages : List M) × (now ≡ old ++ messages) × ReadsInput of framing limit MAX_READS input rest w messages outcome
    × (line ≡ last_line framing w outcome)

-- some bytes w were read from the input, with some messages and result for which `SendsRead` holds
abbrev pub Converts : {M : Type 0} → Messages M → Framing → ℕ → OutputFormat → Device → Device → Device → Device → Device → Device → ExitStatus → Type 0
Converts {M = M} of framing limit format input rest out written err reported status =
    (w : List ℕ) × (messages : List M) × (outcome : Result Report Stop) × ReadsInput of framing limit MAX_READS input rest w messages outcome
    × SendsRead of limit format (last_line framing w outcome) messages outcome out written err reported status
