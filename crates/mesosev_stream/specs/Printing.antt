-- The bytes read from the input, and the texts printed.
use Rattle.std.specs.Prelude.{◌≡◌, ℕ, ◌+◌, ◌<◌, Bool, true, false, Option, List, [], ◌∷◌, ◌++◌, length, take, Result, Ok, Err}
use Rattle.std.specs.Io.KnownBytes.{Appends, Consumes}
use Rattle.mes_frame.specs.Devices.{Device}
use Rattle.mes_frame.specs.Write.{NoneFails, StopsWrite}
use Rattle.mes_frame.specs.declared.write.WriteFault.{WriteFault}
use Rattle.mes_frame.specs.declared.write.WriteFaultKind.{WriteFaultKind}
use Rattle.mes_frame.specs.declared.write.WriteFaultKind.TheVariants as why
use Rattle.mes_stream.specs.Lines.{fault_text, counts_text}
use Rattle.mesosev_stream.specs.LineNumbers.{line_in, stop_text}
use Rattle.mes_stream.specs.SendLines.{send_text}
use Rattle.mes_stream.specs.Reading.{EndsReading}
use Rattle.mes_stream.specs.Stream.{saturated}
use Rattle.mes_stream.specs.declared.stream_reader.Framing.{Framing}
use Rattle.mes_msg.specs.Texts.{IsTextOf}
use Rattle.mes_stream.specs.Refusals.{IsMessageRefusal}
use Rattle.mesosev_stream.specs.Messages.{Messages}
use Rattle.mes_stream.specs.declared.fault.Fault.TheVariants.{NoMemory}
use Rattle.mes_stream.specs.declared.fault.Report.{Report}
use Rattle.mes_stream.specs.declared.fault.Stop.{Stop}
use Rattle.mes_msg.specs.declared.send_fault.SendFault.TheVariants as send
use Rattle.mesosev_stream.specs.declared.exit_status.ExitStatus.{ExitStatus}
use Rattle.mesosev_stream.specs.declared.exit_status.ExitStatus.TheVariants as exit
use Rattle.mesosev_stream.specs.declared.outcome.RunOutcome.{RunOutcome}
use Rattle.mesosev_stream.specs.declared.outcome.RunOutcome.TheVariants.{Status, OutputFailed}

-- the text was written completely, and no call failed or wrote 0 bytes
abbrev pub GoesOut : Device → Device → List ℕ → Type 0
GoesOut old new text = Appends old.bytes new.bytes text × NoneFails old.counts new.counts

-- the text `front` was written, then n bytes of `text`, but not all; `sent` is the sum of both
pub record IsCutOff (old new : Device) (front text : List ℕ) (sent : ℕ) : Type 0 where
  pub n : ℕ
  pub short : n < length text
  pub out : Appends old.bytes new.bytes (front ++ take n text)
  pub sent_is : sent ≡ saturated (length front + n)
  pub why : WriteFaultKind
  pub stops : StopsWrite why old.counts new.counts

-- the text was written completely; or only a part of the text, as the error describes
abbrev pub PrintsText : {T : Type 0} → Device → Device → List ℕ → Result T WriteFault → Type 0
PrintsText old new text (Ok done) = GoesOut old new text
PrintsText old new text (Err fault) = IsCutOff old new [] text fault.sent × StopsWrite fault.why old.counts new.counts

-- `PrintsText` with some result, for an output whose errors are ignored
abbrev pub Tells : Device → Device → List ℕ → Type 0
Tells old new text = (printed : Result (Unit {0}) WriteFault) × PrintsText old new text printed

-- the line of an error was printed to `err`, and nothing to `out`; the status is `Fault`
abbrev pub TellsFault : List ℕ → Device → Device → Device → Device → RunOutcome → Type 0
TellsFault line out printed err reported ended = Tells err reported line × (printed ≡ out) × (ended ≡ Status exit.Fault)

-- the outcome of a run after its last text was printed: the status `meant`, or the failed output
abbrev pub outcome_after : {T : Type 0} → ExitStatus → Result T WriteFault → RunOutcome
outcome_after meant (Ok done) = Status meant
outcome_after meant (Err fault) = OutputFailed fault.sent

-- both texts were written, and the status is `meant`; or the output failed within the second text
abbrev pub PrintsAfter : List ℕ → Device → Device → List ℕ → ExitStatus → RunOutcome → Type 0
PrintsAfter front old new text meant (Status status) = GoesOut old new (front ++ text) × (status ≡ meant)
PrintsAfter front old new text meant (OutputFailed sent) = IsCutOff old new front text sent

-- `PrintsAfter` if no text was written before `text`
abbrev pub Prints : Device → Device → List ℕ → ExitStatus → RunOutcome → Type 0
Prints old new text meant ended = PrintsAfter [] old new text meant ended

-- the outcome of a run, if `before` bytes were written before the run
abbrev pub ended_after : ℕ → RunOutcome → RunOutcome
ended_after before (Status status) = Status status
ended_after before (OutputFailed sent) = OutputFailed (saturated (before + sent))

-- the line of an output that failed after `sent` bytes, for example `write failed after 7`
abbrev pub failed_text : ℕ → List ℕ
failed_text sent = send_text (send.Write (record { sent = sent; why = why.Device }))

-- the line of a failed output is printed to standard error, unless the output is closed
abbrev pub Finishes : Bool → Device → Device → RunOutcome → ExitStatus → Type 0
Finishes closed err reported (Status answer) status = (reported ≡ err) × (status ≡ answer)
Finishes true err reported (OutputFailed sent) status = (reported ≡ err) × (status ≡ exit.Fault)
Finishes false err reported (OutputFailed sent) status = Tells err reported (failed_text sent ++ 10 ∷ []) × (status ≡ exit.Fault)

-- the line of a stream that was read: the number of its messages and bytes, or its error, which is
-- in the given line of JSON Lines
abbrev pub outcome_line : List ℕ → Option ℕ → ℕ → Result Report Stop → List ℕ
outcome_line word line messages (Ok report) = counts_text word messages report.used
outcome_line word line messages (Err stop) = stop_text line stop

-- the number of bytes used
abbrev pub used_by : Result Report Stop → ℕ
used_by (Ok report) = report.used
used_by (Err stop) = stop.used

-- the number of the line in which the reading of w ended, if w is JSON Lines
abbrev pub last_line : Framing → List ℕ → Result Report Stop → Option ℕ
last_line framing w outcome = line_in framing (used_by outcome) w

-- the status of a stream that was read: `Success` if it was read to its end
abbrev pub outcome_status : Result Report Stop → ExitStatus
outcome_status (Ok report) = exit.Success
outcome_status (Err stop) = exit.Fault

-- the bytes w were read from the input, with the given messages and result
abbrev pub ReadsInput : {M : Type 0} → Messages M → Framing → ℕ → ℕ → Device → Device → List ℕ → List M → Result Report Stop → Type 0
ReadsInput of framing limit reads input rest w messages outcome = Consumes input.bytes rest.bytes w
    × EndsReading framing (IsTextOf of.kind) (IsMessageRefusal of.kind) limit reads input.counts rest.counts rest.bytes w messages outcome

-- some bytes were read from the input, and the line of the result was printed
abbrev pub Checks : {M : Type 0} → Messages M → Framing → ℕ → ℕ → Device → Device → Device → Device → RunOutcome → Type 0
Checks {M = M} of framing limit reads input rest out printed ended =
    (w : List ℕ) × (messages : List M) × (outcome : Result Report Stop) × ReadsInput of framing limit reads input rest w messages outcome
    × Prints out printed (outcome_line of.word (last_line framing w outcome) (length messages) outcome ++ 10 ∷ []) (outcome_status outcome) ended

-- an allocation failed before any byte was used, and the line of that error was printed
abbrev pub LacksMemory : Device → Device → RunOutcome → Type 0
LacksMemory out printed ended = Prints out printed (fault_text NoMemory 0 ++ 10 ∷ []) exit.Fault ended
