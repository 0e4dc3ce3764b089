-- The state of a follower of a stream, read by read.
use Rattle.std.specs.Prelude.{◌≡◌, ℕ, ◌+◌, ◌-◌, ◌≤◌, Option, List, [], ◌∷◌, ◌++◌, length, Result, Ok, Err}
use Rattle.mes_frame.specs.Devices.{Device}
use Rattle.mes_frame.specs.Written.{Passes, WentOut, Stops}
use Rattle.mes_frame.specs.declared.write.WriteFault.{WriteFault}
use Rattle.mes_msg.specs.Texts.{IsTextOf}
use Rattle.mesosev_stream.specs.Messages.{Messages}
use Rattle.mes_stream.specs.MessageData.{HoldsData}
use Rattle.mes_stream.specs.Framings.{GoesIn}
use Rattle.mes_stream.specs.Reading.{FinishMeans, ReadingRepresents, ByteEnds, reported_as}
use Rattle.mes_stream.specs.RecordValues.{IsRefused}
use Rattle.mes_stream.specs.Refusals.{IsMessageRefusal}
use Rattle.mes_stream.specs.Stream.{saturated}
use Rattle.mes_stream.specs.declared.counted_reader.ReadingStop.{ReadingStop}
use Rattle.mes_stream.specs.declared.fault.Report.{Report}
use Rattle.mes_stream.specs.declared.fault.Stop.{Stop}
use Rattle.mes_stream.specs.declared.read_loop.ReadsEnd.{ReadsEnd}
use Rattle.mes_stream.specs.declared.read_loop.ReadsEnd.TheVariants.{Stopped, AtEnd, Failed, Spent}
use Rattle.mes_stream.specs.declared.stream_reader.Framing.{Framing}
use Rattle.mes_stream.specs.declared.stream_reader.Framing.TheVariants as framings
use Rattle.mesosev_stream.specs.Printing.{IsCutOff, LacksMemory, Prints, ended_after, outcome_line, outcome_status}
use Rattle.mesosev_stream.specs.Showing.{lines_from, printed_from, Spelt}
use Rattle.mesosev_stream.specs.declared.follower.Detail.{Detail}
use Rattle.mesosev_stream.specs.declared.follower.Detail.TheVariants.{Counts, Lines}
use Rattle.mesosev_stream.specs.declared.follower.Follower.{Follower}
use Rattle.mesosev_stream.specs.declared.follower.FollowStop.{FollowStop}
use Rattle.mesosev_stream.specs.declared.follower.FollowStop.TheVariants.{Reading, PrintError}
use Rattle.mesosev_stream.specs.declared.follower.PrintProgress.{PrintProgress}
use Rattle.mesosev_stream.specs.declared.follower.PrintProgress.TheVariants.{All}
use Rattle.mesosev_stream.specs.declared.follower.PrintProgress.TheVariants as seen
use Rattle.mesosev_stream.specs.declared.follower.PrintError.{PrintError as TextFaultKind}
use Rattle.mesosev_stream.specs.declared.follower.PrintError.TheVariants as why
use Rattle.mesosev_stream.specs.declared.line_buffer.LineBuffer.{LineBuffer}
use Rattle.mesosev_stream.specs.declared.outcome.RunOutcome.{RunOutcome}
use Rattle.mesosev_stream.specs.declared.outcome.RunOutcome.TheVariants.{OutputFailed}

-- of the buffered lines followed by a text, the first bytes were written, and the rest is buffered
abbrev pub HoldsText : LineBuffer → LineBuffer → Device → Device → List ℕ → Type 0
HoldsText before after old new text =
    Passes old.bytes new.bytes old.counts new.counts (before.held.items ++ text) after.held.items before.sent after.sent

-- the buffered lines and the text were written, and nothing is buffered
abbrev pub SendsText : LineBuffer → LineBuffer → Device → Device → List ℕ → Type 0
SendsText before after old new text =
    WentOut old.bytes new.bytes old.counts new.counts (before.held.items ++ text) before.sent after.sent × (after.held.items ≡ [])

-- `Goes` holds for the lines of all messages; or, if an allocation failed for the lines of a
-- message, for the lines of the messages before it
abbrev pub ShowsFrom : {M : Type 0} → Messages M → (List ℕ → Type 0) → ℕ → List M → PrintProgress → Type 0
ShowsFrom of Goes number messages (All next) = Goes (lines_from of number messages) × (next ≡ saturated (number + length messages))
ShowsFrom {M = M} of Goes number messages seen.NoMemory =
    (front : List M) × (message : M) × (rest : List M) × (messages ≡ front ++ message ∷ rest) × Goes (lines_from of number front)

-- The effect of printing messages. If messages are only counted, nothing is printed; otherwise the
-- buffered lines and the lines of the messages are written, or the output fails within these.
abbrev pub PrintsMessages : {M : Type 0} → Messages M → Detail → LineBuffer → LineBuffer → Device → Device → ℕ → List M → Result PrintProgress WriteFault → Type 0
PrintsMessages of Counts before after old new number messages (Ok (All next)) =
    (new ≡ old) × (after ≡ before) × (next ≡ saturated (number + length messages))
PrintsMessages of Counts before after old new number messages (Ok seen.NoMemory) = ⊥
PrintsMessages of Counts before after old new number messages (Err fault) = ⊥
PrintsMessages of Lines before after old new number messages (Ok done) = ShowsFrom of (SendsText before after old new) number messages done
PrintsMessages of Lines before after old new number messages (Err fault) =
    Stops old.bytes new.bytes old.counts new.counts (before.held.items ++ lines_from of number messages) before.sent fault

-- the follower has not consumed any byte
pub record IsFresh {M : Type 0} (of : Messages M) (d : Follower M) (framing : Framing) (limit : ℕ) : Type 0 where
  pub represents : ReadingRepresents HoldsData (IsTextOf of.kind) d.reading framing limit [] []
  pub number : d.number ≡ 1
  pub messages : d.messages.items ≡ []
  pub lines : d.lines.held.items ≡ []
  pub sent : d.lines.sent ≡ 0

-- the follower has not consumed any byte, and reads JSON Lines
abbrev pub StartsLines : {M : Type 0} → Messages M → Follower M → Type 0
StartsLines of d = (limit : ℕ) × IsFresh of d framings.Lines limit

-- the lines of the messages, if lines are printed, were written completely
abbrev pub HasPrinted : {M : Type 0} → Messages M → Detail → Device → Device → Follower M → List M → Type 0
HasPrinted of detail out printed d messages = WentOut out.bytes printed.bytes out.counts printed.counts (printed_from of detail 1 messages) 0 d.lines.sent

-- the follower has printed the messages, and nothing is buffered
pub record HasShown {M : Type 0} (of : Messages M) (detail : Detail) (out printed : Device) (d : Follower M) (messages : List M) : Type 0 where
  pub shown : HasPrinted of detail out printed d messages
  pub number : d.number ≡ saturated (1 + length messages)
  pub cleared : d.messages.items ≡ []
  pub lines : d.lines.held.items ≡ []
  pub detail_is : d.detail ≡ detail

-- the follower has consumed w, and printed its messages
pub record Followed {M : Type 0} (of : Messages M) (detail : Detail) (framing : Framing) (limit : ℕ) (out printed : Device) (d : Follower M) (w : List ℕ) : Type 0 where
  pub messages : List M
  pub represents : ReadingRepresents HoldsData (IsTextOf of.kind) d.reading framing limit w messages
  pub has : HasShown of detail out printed d messages

-- the stream ended, or an error was detected, in w; the messages before the end or error were
-- printed
pub record FollowedTo {M : Type 0} (of : Messages M) (detail : Detail) (framing : Framing) (limit : ℕ) (out printed : Device) (d : Follower M) (w : List ℕ) (stop : ReadingStop) : Type 0 where
  pub messages : List M
  pub ends : ByteEnds framing (IsTextOf of.kind) (IsMessageRefusal of.kind) limit w messages (reported_as d.reading stop)
  pub has : HasShown of detail out printed d messages

-- the bytes w have the messages `before`; the piece after w completes the messages `last`
pub record Brings {M : Type 0} (of : Messages M) (framing : Framing) (limit : ℕ) (w piece : List ℕ) (before last : List M) : Type 0 where
  pub had : GoesIn framing (IsTextOf of.kind) limit w before
  pub has : Spelt of framing limit (w ++ piece) (before ++ last)

-- The follower stopped in the piece after w: the stream ended or has an error; the output failed in
-- the lines of the piece's messages; or an allocation failed for the lines of one of those
-- messages.
abbrev pub StopsAs : {M : Type 0} → Messages M → Detail → Framing → ℕ → Device → Device → Follower M → List ℕ → List ℕ → FollowStop → Type 0
StopsAs of detail framing limit out printed d w piece (Reading stop) =
    FollowedTo of detail framing limit out printed d (w ++ piece) stop × (saturated (length w + 1) ≤ d.reading.used)
StopsAs {M = M} of detail framing limit out printed d w piece (PrintError (why.Output fault)) =
    (before : List M) × (last : List M) × Brings of framing limit w piece before last × (detail ≡ Lines)
    × IsCutOff out printed (lines_from of 1 before) (lines_from of (1 + length before) last) fault.sent
StopsAs {M = M} of detail framing limit out printed d w piece (PrintError why.NoMemory) =
    (before : List M) × (last : List M) × (message : M) × (more : List M) × Brings of framing limit w piece before (last ++ message ∷ more)
    × (detail ≡ Lines) × HasPrinted of Lines out printed d (before ++ last)

-- After `sent` bytes of the lines of the last messages were written: the line of the result was
-- printed; or F13, if an allocation failed for those lines; or nothing, if the output failed in
-- them.
abbrev pub PrintsResult : {M : Type 0} → Messages M → Option ℕ → Result Report Stop → ℕ → Result PrintProgress WriteFault → Device → Device → RunOutcome → Type 0
PrintsResult of line outcome sent (Ok (All next)) out printed ended =
    (told : RunOutcome) × Prints out printed (outcome_line of.word line (next - 1) outcome ++ 10 ∷ []) (outcome_status outcome) told × (ended ≡ ended_after sent told)
PrintsResult of line outcome sent (Ok seen.NoMemory) out printed ended = (told : RunOutcome) × LacksMemory out printed told × (ended ≡ ended_after sent told)
PrintsResult of line outcome sent (Err fault) out printed ended = (printed ≡ out) × (ended ≡ OutputFailed fault.sent)

-- the lines of the messages that the end of the input completes were printed, and then the result
pub record Finishes {M : Type 0} (of : Messages M) (d : Follower M) (end : ReadsEnd ReadingStop) (line : Option ℕ) (out printed : Device) (ended : RunOutcome) : Type 0 where
  pub last : List M
  pub outcome : Result Report Stop
  pub lines : LineBuffer
  pub between : Device
  pub progress : Result PrintProgress WriteFault
  pub means : FinishMeans HoldsData (IsTextOf of.kind) (IsRefused (IsTextOf of.kind) (IsMessageRefusal of.kind)) d.reading end d.messages.items last outcome
  pub prints : (number : ℕ) → d.number ≡ saturated number → PrintsMessages of d.detail d.lines lines out between number last progress
  pub result : PrintsResult of line outcome lines.sent progress between printed ended

-- `Followed` for a follower that has not consumed any byte, for any framing and any limit
abbrev pub GoesFrom : {M : Type 0} → Messages M → Follower M → Device → Follower M → Device → List ℕ → Type 0
GoesFrom of first out d printed w = (framing : Framing) (limit : ℕ) → IsFresh of first framing limit → Followed of first.detail framing limit out printed d w

abbrev pub StopsFrom : {M : Type 0} → Messages M → Follower M → Device → Follower M → Device → List ℕ → List ℕ → FollowStop → Type 0
StopsFrom of first out d printed w piece stop =
    (framing : Framing) (limit : ℕ) → IsFresh of first framing limit → StopsAs of first.detail framing limit out printed d w piece stop

-- how the reads ended; or the error, if the lines of a message were not printed
abbrev pub ended_of : ReadsEnd FollowStop → Result (ReadsEnd ReadingStop) TextFaultKind
ended_of (Stopped (Reading stop)) = Ok (Stopped stop)
ended_of (Stopped (PrintError why)) = Err why
ended_of AtEnd = Ok AtEnd
ended_of Failed = Ok Failed
ended_of Spent = Ok Spent
