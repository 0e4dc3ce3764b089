-- The records of a session log and of a stream.
use Rattle.std.specs.Prelude.{◌≡◌, ◌≢◌, ◌⊎◌, ℕ, ◌<◌, ◌≤◌, List, [], length}
use Rattle.mes_frame.specs.declared.limits.TheConstants.{MAX_RECORD_LIMIT}
use Rattle.mes_model_schema.specs.Kinds.{Kind}
use Rattle.mes_msg.specs.EncodeFault.{EncodeFault}
use Rattle.mes_msg.specs.EncodeFault.TheVariants as encode
use Rattle.mes_msg.specs.Texts.{IsTextOf}
use Rattle.mes_msg.specs.declared.entry.Entry.{Entry}
use Rattle.mes_session_log.specs.Encoding.{AddsEntry, IsEntryFault}
use Rattle.mes_session_log.specs.Writing.{log_bytes}
use Rattle.mes_stream.specs.declared.fault.Fault.TheVariants.{NoMemory}
use Rattle.mesosev_session.specs.Texts.{IsUnreadable}
use Rattle.mesosev_session.specs.declared.text_refusal.TextRefusal.{TextRefusal}
use Rattle.mesosev_session.specs.declared.text_refusal.TextRefusal.TheVariants.{Fault, Refused, Unfit, NoRoom, Absent}

-- the bytes are the header of a log of version 2: at most `most` bytes
abbrev pub IsHeader : ℕ → List ℕ → Type 0
IsHeader most bytes = (bytes ≡ log_bytes []) × (length bytes ≤ most)

abbrev pub HasNoHeader : ℕ → TextRefusal → Type 0
HasNoHeader most (Fault fault) = fault ≡ NoMemory
HasNoHeader most (Refused refusal) = ⊥
HasNoHeader most Unfit = ⊥
HasNoHeader most (NoRoom size) = (size ≡ length (log_bytes [])) × (most < size)
HasNoHeader most Absent = ⊥

-- the bytes are the record of the entry in a log of version 2: at most `most` bytes
pub record IsRecordOfEntry (entry : Entry) (most : ℕ) (bytes : List ℕ) : Type 0 where
  pub is : AddsEntry MAX_RECORD_LIMIT entry [] bytes
  pub within : length bytes ≤ most

-- the entry has no such record, or an allocation failed
abbrev pub HasNoRecord : Entry → ℕ → TextRefusal → Type 0
HasNoRecord entry most (Fault fault) = fault ≡ NoMemory
HasNoRecord entry most (Refused refusal) = ⊥
HasNoRecord entry most Unfit = (why : EncodeFault) × (why ≢ encode.NoMemory) × IsEntryFault MAX_RECORD_LIMIT entry why
HasNoRecord entry most (NoRoom size) = (bytes : List ℕ) × AddsEntry MAX_RECORD_LIMIT entry [] bytes × (size ≡ length bytes) × (most < size)
HasNoRecord entry most Absent = ⊥

-- the bytes w are a text of a message, and `bytes` the record of its entry
abbrev pub IsRecordOfText : {M : Type 0} → Kind M → (M → Entry) → List ℕ → ℕ → List ℕ → Type 0
IsRecordOfText {M = M} kind entry w most bytes = (m : M) × IsTextOf kind w m × IsRecordOfEntry (entry m) most bytes

abbrev pub HasNoRecordOfText : {M : Type 0} → Kind M → (M → Entry) → List ℕ → ℕ → TextRefusal → Type 0
HasNoRecordOfText {M = M} kind entry w most why = IsUnreadable kind w why ⊎ ((m : M) × IsTextOf kind w m × HasNoRecord (entry m) most why)
