-- Events as JSON Lines: the line of an event is its canonical JSON and LF.
use Rattle.std.specs.Prelude.{◌≡◌, ℕ, ◌⊎◌, List, [], ◌∷◌, ◌++◌, length, All, Result}
use Rattle.std.specs.List.{flat_map}
use Rattle.mes_msg.specs.Texts.{canonical_of, IsRefusalOf, IsTextOf}
use Rattle.mes_msg.specs.EncodeFault.{EncodeFault}
use Rattle.mesosev_stream.specs.Messages.{Messages}
use Rattle.mes_frame.specs.Devices.{Device}
use Rattle.mes_stream.specs.SendLines.{unsent_text}
use Rattle.mes_stream.specs.Sending.{AllGood, fault_at}
use Rattle.mes_stream.specs.declared.stream_reader.Framing.{Framing}
use Rattle.mes_stream.specs.declared.fault.Report.{Report}
use Rattle.mes_stream.specs.declared.fault.Stop.{Stop}
use Rattle.mesosev_stream.specs.Printing.{GoesOut, IsCutOff, ReadsInput, Tells, last_line, outcome_line, outcome_status}
use Rattle.mesosev_stream.specs.Showing.{TakesMessages}
use Rattle.mesosev_stream.specs.declared.exit_status.ExitStatus.TheVariants as exit
use Rattle.mesosev_stream.specs.declared.outcome.RunOutcome.{RunOutcome}
use Rattle.mesosev_stream.specs.declared.outcome.RunOutcome.TheVariants.{Status, OutputFailed}

-- the canonical JSON of the message, and LF
abbrev pub json_line : {M : Type 0} → Messages M → M → List ℕ
json_line of message = canonical_of of.kind message ++ 10 ∷ []

-- the lines of the messages, in order
abbrev pub json_lines : {M : Type 0} → Messages M → List M → List ℕ
json_lines of messages = flat_map (json_line of) messages

-- each message has canonical JSON of at most `limit` bytes, which decodes to the message
pub record HaveLines {M : Type 0} (of : Messages M) (limit : ℕ) (messages : List M) : Type 0 where
  pub good : AllGood of.kind limit messages
  pub read : All (λ message. IsTextOf of.kind (canonical_of of.kind message) message) messages

-- w is the lines of the messages
pub record IsLinesOf {M : Type 0} (of : Messages M) (limit : ℕ) (messages : List M) (w : List ℕ) : Type 0 where
  pub have : HaveLines of limit messages
  pub written : w ≡ json_lines of messages

-- the stream was read; the lines of its messages were written to `out`, and the line of its result
-- to `err`
abbrev pub ExportsAll : {M : Type 0} → Messages M → Framing → ℕ → ℕ → Device → Device → Device → Device → Device → Device → RunOutcome → List ℕ → List M → Type 0
ExportsAll of framing limit reads input rest out printed err reported ended w messages =
    (outcome : Result Report Stop) × ReadsInput of framing limit reads input rest w messages outcome × HaveLines of limit messages
    × GoesOut out printed (json_lines of messages) × Tells err reported (outcome_line of.word (last_line framing w outcome) (length messages) outcome ++ 10 ∷ [])
    × (ended ≡ Status (outcome_status outcome))

-- the output failed in the lines of the last messages; nothing was written to `err`
abbrev pub ExportsPart : {M : Type 0} → Messages M → Framing → ℕ → ℕ → Device → Device → Device → Device → Device → Device → RunOutcome → List ℕ → List M → Type 0
ExportsPart {M = M} of framing limit reads input rest out printed err reported ended w messages =
    (last : List M) × (sent : ℕ) × TakesMessages of framing limit reads input rest w messages last × HaveLines of limit messages
    × IsCutOff out printed (json_lines of messages) (json_lines of last) sent × (reported ≡ err) × (ended ≡ OutputFailed sent)

-- One of the last messages has no canonical JSON of at most `limit` bytes, or an allocation failed
-- for it. The lines of the messages before it were written to `out`, and the reason to `err`.
abbrev pub ExportsUntil : {M : Type 0} → Messages M → Framing → ℕ → ℕ → Device → Device → Device → Device → Device → Device → RunOutcome → List ℕ → List M → Type 0
ExportsUntil {M = M} of framing limit reads input rest out printed err reported ended w messages =
    (last : List M) × (message : M) × (more : List M) × (why : EncodeFault)
    × TakesMessages of framing limit reads input rest w messages (last ++ message ∷ more) × HaveLines of limit (messages ++ last) × IsRefusalOf of.kind message limit why
    × GoesOut out printed (json_lines of (messages ++ last)) × Tells err reported (unsent_text of.word (fault_at (length (messages ++ last)) why) ++ 10 ∷ [])
    × (ended ≡ Status exit.Fault)

-- the input was decoded, and the lines of its messages were written to `out`; all else was written
-- to `err`
abbrev pub Exports : {M : Type 0} → Messages M → Framing → ℕ → ℕ → Device → Device → Device → Device → Device → Device → RunOutcome → Type 0
Exports {M = M} of framing limit reads input rest out printed err reported ended =
    (w : List ℕ) × (messages : List M)
    × (ExportsAll of framing limit reads input rest out printed err reported ended w messages
    ⊎ ExportsPart of framing limit reads input rest out printed err reported ended w messages
    ⊎ ExportsUntil of framing limit reads input rest out printed err reported ended w messages)
