-- The records in which messages, events or calls, are sent, and how sending ends.
use Rattle.std.specs.Prelude.{◌≡◌, ℕ, List, ◌∷◌, ◌++◌, length, All}
use Rattle.std.specs.List.{flat_map}
use Rattle.std.specs.Io.KnownBytes.{Appends}
use Rattle.mes_frame.specs.Frames.{record_bytes, IsFrames}
use Rattle.mes_frame.specs.Write.{NoneFails, CallsFor, StopsWrite}
use Rattle.mes_frame.specs.Written.{WroteFront}
use Rattle.mes_frame.specs.Devices.{Device}
use Rattle.mes_frame.specs.declared.write.WriteFault.{WriteFault}
use Rattle.mes_model_schema.specs.Kinds.{Kind}
use Rattle.mes_msg.specs.Texts.{IsTextOf, canonical_of, Fits, IsRefusalOf}
use Rattle.mes_msg.specs.EncodeFault.{EncodeFault}
use Rattle.mes_msg.specs.EncodeFault.TheVariants as refused
use Rattle.mes_stream.specs.Chunked.{IsStream}
use Rattle.mes_stream.specs.Stream.{Records}
use Rattle.mes_msg.specs.declared.send_fault.EncodeFaultKind.{EncodeFaultKind}
use Rattle.mes_msg.specs.declared.send_fault.EncodeFaultKind.TheVariants.{TooDeep, TooLarge}
use Rattle.mes_msg.specs.declared.send_fault.SendFault.{SendFault}
use Rattle.mes_msg.specs.declared.send_fault.SendFault.TheVariants.{Encode, NoMemory, Write}

-- the concatenated records of the canonical JSON of the messages
abbrev pub records_of : {M : Type 0} → Kind M → List M → List ℕ
records_of kind messages = flat_map (λ message. record_bytes (canonical_of kind message)) messages

-- the canonical JSON of each message can be encoded as a record of at most `limit` bytes
abbrev pub AllGood : {M : Type 0} → Kind M → ℕ → List M → Type 0
AllGood kind limit messages = All (λ message. Fits kind message limit) messages

-- the message cannot be encoded, for the given reason
abbrev pub IsBad : {M : Type 0} → Kind M → ℕ → M → EncodeFaultKind → Type 0
IsBad kind limit message TooDeep = IsRefusalOf kind message limit refused.TooDeep
IsBad kind limit message TooLarge = IsRefusalOf kind message limit refused.TooLarge

-- the message at `index`, counted from 0, is the first that cannot be encoded, for the reason `why`
pub record IsFirstBad {M : Type 0} (kind : Kind M) (limit : ℕ) (messages : List M) (index : ℕ) (why : EncodeFaultKind) : Type 0 where
  pub front : List M
  pub message : M
  pub rest : List M
  pub is : messages ≡ front ++ message ∷ rest
  pub phase : index ≡ length front
  pub good : AllGood kind limit front
  pub bad : IsBad kind limit message why

-- w is the encoding of the messages as plain RecordIO, and decodes to the messages
pub record IsPlainOf {M : Type 0} (kind : Kind M) (limit : ℕ) (messages : List M) (w : List ℕ) : Type 0 where
  pub good : AllGood kind limit messages
  pub written : w ≡ records_of kind messages
  pub read : Records (IsTextOf kind) limit w messages

-- w is the encoding of the messages as a stream in chunks of `most` bytes, and decodes to the
-- messages
pub record IsStreamOf {M : Type 0} (kind : Kind M) (limit most : ℕ) (messages : List M) (w : List ℕ) : Type 0 where
  pub good : AllGood kind limit messages
  pub written : IsFrames (records_of kind messages) most w
  pub read : IsStream (IsTextOf kind) limit w messages

-- w was written completely, and no call failed or wrote 0 bytes
pub record WroteAll {W : Type 0} (device : W → Device) (old new : W) (w : List ℕ) : Type 0 where
  pub out : Appends (device old).bytes (device new).bytes w
  pub none_fails : NoneFails (device old).counts (device new).counts
  pub calls : CallsFor (length w) (device old).counts (device new).counts

-- exactly the first `sent` bytes of w were written, not all; one call failed, or wrote 0 bytes
pub record WroteSome {W : Type 0} (device : W → Device) (old new : W) (w : List ℕ) (fault : WriteFault) : Type 0 where
  pub out : WroteFront (device old).bytes (device new).bytes w fault.sent
  pub last : StopsWrite fault.why (device old).counts (device new).counts
  pub calls : CallsFor (length w) (device old).counts (device new).counts

-- the reason for which the messages were not encoded
abbrev pub IsUnsent : {M : Type 0} → Kind M → ℕ → List M → SendFault → Type 0
IsUnsent kind limit messages (Encode index why) = IsFirstBad kind limit messages index why
IsUnsent kind limit messages NoMemory = Unit {0}
IsUnsent kind limit messages (Write fault) = ⊥

-- the error of a send whose message at `index` cannot be encoded
abbrev pub fault_at : ℕ → EncodeFault → SendFault
fault_at index refused.TooDeep = Encode index TooDeep
fault_at index refused.TooLarge = Encode index TooLarge
fault_at index refused.NoMemory = NoMemory

-- why sending failed: an encoding error, with nothing written; or the writer failed inside w
abbrev pub StopsSending : {M W : Type 0} → Kind M → (W → Device) → (List ℕ → Type 0) → ℕ → List M → W → W → SendFault → Type 0
StopsSending kind device Is limit messages old new (Encode index why) = IsFirstBad kind limit messages index why × (new ≡ old)
StopsSending kind device Is limit messages old new NoMemory = new ≡ old
StopsSending kind device Is limit messages old new (Write fault) = (w : List ℕ) × Is w × WroteSome device old new w fault
