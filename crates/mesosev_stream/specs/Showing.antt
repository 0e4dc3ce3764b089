-- The output of `show`: the lines of each event, then the line that ends the stream.
use Rattle.std.specs.Prelude.{◌≡◌, ℕ, ◌+◌, ◌≤◌, ◌⊎◌, List, [], ◌∷◌, ◌++◌, length, Result}
use Rattle.std.specs.Io.KnownBytes.{Consumes, IsAtEnd}
use Rattle.mes_msg.specs.Texts.{IsTextOf}
use Rattle.mesosev_stream.specs.Messages.{Messages}
use Rattle.mes_frame.specs.Devices.{Device}
use Rattle.mes_stream.specs.Lines.{fault_text}
use Rattle.mes_stream.specs.Framings.{GoesIn, EndsIn}
use Rattle.mes_stream.specs.Reading.{InputMeans, nothing_ahead}
use Rattle.mes_stream.specs.Reads.{SomeReadsMade, LastRead}
use Rattle.mes_stream.specs.Refusals.{IsMessageRefusal}
use Rattle.mes_stream.specs.Stream.{saturated}
use Rattle.mes_stream.specs.declared.limits.TheConstants.{MAX_READ}
use Rattle.mes_stream.specs.declared.stream_reader.Framing.{Framing}
use Rattle.mes_stream.specs.declared.fault.Fault.TheVariants.{NoMemory}
use Rattle.mes_stream.specs.declared.fault.Report.{Report}
use Rattle.mes_stream.specs.declared.fault.Stop.{Stop}
use Rattle.mesosev_stream.specs.Printing.{IsCutOff, PrintsAfter, ReadsInput, Checks, last_line, outcome_line, outcome_status}
use Rattle.mesosev_stream.specs.declared.exit_status.ExitStatus.TheVariants as exit
use Rattle.mesosev_stream.specs.declared.outcome.RunOutcome.{RunOutcome}
use Rattle.mesosev_stream.specs.declared.outcome.RunOutcome.TheVariants.{OutputFailed}
use Rattle.mesosev_stream.specs.declared.follower.Detail.{Detail}
use Rattle.mesosev_stream.specs.declared.follower.Detail.TheVariants.{Counts, Lines}

-- the lines of the messages; the first message has the given number
abbrev pub lines_from : {M : Type 0} → Messages M → ℕ → List M → List ℕ
lines_from of number [] = []
lines_from of number (message ∷ messages) = of.lines (saturated number) message ++ lines_from of (number + 1) messages

-- the text printed for the messages: nothing, or their lines; the first message has the given
-- number
abbrev pub printed_from : {M : Type 0} → Messages M → Detail → ℕ → List M → List ℕ
printed_from of Counts number messages = []
printed_from of Lines number messages = lines_from of number messages

-- w is a prefix of a stream of the messages, or a whole stream, followed by at most the bytes of
-- one read
abbrev pub Spelt : {M : Type 0} → Messages M → Framing → ℕ → List ℕ → List M → Type 0
Spelt of framing limit w messages =
    (front : List ℕ) × (rest : List ℕ) × (w ≡ front ++ rest) × (length rest ≤ MAX_READ)
    × (GoesIn framing (IsTextOf of.kind) limit front messages ⊎ EndsIn framing (IsTextOf of.kind) limit front messages)

-- the bytes before the last read have the messages `before`; the last read completes `last`
pub record LastMessages {M : Type 0} (of : Messages M) (framing : Framing) (limit : ℕ) (w : List ℕ) (before last : List M) : Type 0 where
  pub front : List ℕ
  pub piece : List ℕ
  pub read : LastRead w front piece
  pub had : GoesIn framing (IsTextOf of.kind) limit front before
  pub has : Spelt of framing limit w (before ++ last)

-- the bytes w have the messages `before`; the end of the input completes `last`: that of a last
-- line without LF, in JSON Lines
pub record EndMessages {M : Type 0} (of : Messages M) (framing : Framing) (limit : ℕ) (w : List ℕ) (before last : List M) : Type 0 where
  pub outcome : Result Report Stop
  pub had : GoesIn framing (IsTextOf of.kind) limit w before
  pub has : InputMeans framing (IsTextOf of.kind) (IsMessageRefusal of.kind) nothing_ahead limit w (before ++ last) outcome

-- the bytes w were read, and the last read, or the end of the input, completed the messages `last`
abbrev pub TakesMessages : {M : Type 0} → Messages M → Framing → ℕ → ℕ → Device → Device → List ℕ → List M → List M → Type 0
TakesMessages of framing limit reads input rest w before last = Consumes input.bytes rest.bytes w
    × ((LastMessages of framing limit w before last × SomeReadsMade reads input.counts rest.counts w 0 0)
    ⊎ (EndMessages of framing limit w before last × IsAtEnd rest.bytes × SomeReadsMade reads input.counts rest.counts w 0 1))

-- One of three outcomes: all messages and the result of the stream were printed; or the output
-- failed in the lines of the last messages, of the last read or at the end of the input; or an
-- allocation failed for the lines of one of those messages, and F13 was printed.
abbrev pub Shows : {M : Type 0} → Messages M → Framing → ℕ → ℕ → Device → Device → Device → Device → RunOutcome → Type 0
Shows {M = M} of framing limit reads input rest out printed ended =
    (w : List ℕ) × (messages : List M)
    × (((outcome : Result Report Stop) × ReadsInput of framing limit reads input rest w messages outcome
    × PrintsAfter (lines_from of 1 messages) out printed (outcome_line of.word (last_line framing w outcome) (length messages) outcome ++ 10 ∷ []) (outcome_status outcome) ended)
    ⊎ ((last : List M) × (sent : ℕ) × TakesMessages of framing limit reads input rest w messages last
    × IsCutOff out printed (lines_from of 1 messages) (lines_from of (1 + length messages) last) sent × (ended ≡ OutputFailed sent))
    ⊎ ((last : List M) × (message : M) × (more : List M) × TakesMessages of framing limit reads input rest w messages (last ++ message ∷ more)
    × PrintsAfter (lines_from of 1 (messages ++ last)) out printed (fault_text NoMemory 0 ++ 10 ∷ []) exit.Fault ended))

-- the messages of the input were counted (`Checks`), or printed (`Shows`)
abbrev pub Follows : {M : Type 0} → Messages M → Detail → Framing → ℕ → ℕ → Device → Device → Device → Device → RunOutcome → Type 0
Follows of Counts framing limit reads input rest out printed ended = Checks of framing limit reads input rest out printed ended
Follows of Lines framing limit reads input rest out printed ended = Shows of framing limit reads input rest out printed ended
