-- The texts of events and calls: how they are read, and which canonical texts the caller has room
-- for.
use Rattle.std.specs.Prelude.{◌≡◌, ◌≢◌, ◌⊎◌, ℕ, ◌<◌, ◌≤◌, List, length, Option, None, Some, Result, Ok, Err}
use Rattle.std.specs.Global.{Vec}
use Rattle.mes_frame.specs.declared.limits.TheConstants.{MAX_RECORD_LIMIT}
use Rattle.mes_model_schema.specs.Kinds.{Kind}
use Rattle.mes_msg.specs.Call.{Call}
use Rattle.mes_msg.specs.Calls.{call}
use Rattle.mes_msg.specs.EncodeFault.{EncodeFault}
use Rattle.mes_msg.specs.EncodeFault.TheVariants as encode
use Rattle.mes_msg.specs.RecordFault.{RecordFault}
use Rattle.mes_msg.specs.Texts.{Fits, IsFaultOf, IsRefusalOf, IsTextOf, canonical_of}
use Rattle.mes_stream.specs.Refusals.{fault_at_record, refusal_of}
use Rattle.mes_stream.specs.declared.fault.Fault.TheVariants.{NoMemory}
use Rattle.mesosev_session.specs.declared.message_text.CallText.{CallText}
use Rattle.mesosev_session.specs.declared.text_refusal.TextRefusal.{TextRefusal}
use Rattle.mesosev_session.specs.declared.text_refusal.TextRefusal.TheVariants.{Fault, Refused, Unfit, NoRoom, Absent}

-- the bytes w are no value of the kind; the error is that of record 1 of a stream
abbrev pub IsUnreadable : {V : Type 0} → Kind V → List ℕ → TextRefusal → Type 0
IsUnreadable k w (Fault fault) = (why : RecordFault) × IsFaultOf k w why × (fault ≡ fault_at_record 1 (refusal_of why))
IsUnreadable k w (Refused refusal) = ⊥
IsUnreadable k w Unfit = ⊥
IsUnreadable k w (NoRoom size) = ⊥
IsUnreadable k w Absent = ⊥

-- the canonical text of the value v fits a record, and has at most `most` bytes
pub record IsRoomy {V : Type 0} (k : Kind V) (v : V) (most : ℕ) (text : List ℕ) : Type 0 where
  pub is : text ≡ canonical_of k v
  pub fits : Fits k v MAX_RECORD_LIMIT
  pub within : length text ≤ most

-- the canonical text of the value v nests too deep, or is too large for any record
abbrev pub IsUnfit : {V : Type 0} → Kind V → V → Type 0
IsUnfit k v = (why : EncodeFault) × (why ≢ encode.NoMemory) × IsRefusalOf k v MAX_RECORD_LIMIT why

-- the value v has no such canonical text, or an allocation failed
abbrev pub IsUnwritten : {V : Type 0} → Kind V → V → ℕ → TextRefusal → Type 0
IsUnwritten k v most (Fault fault) = fault ≡ NoMemory
IsUnwritten k v most (Refused refusal) = ⊥
IsUnwritten k v most Unfit = IsUnfit k v
IsUnwritten k v most (NoRoom size) = Fits k v MAX_RECORD_LIMIT × (size ≡ length (canonical_of k v)) × (most < size)
IsUnwritten k v most Absent = ⊥

-- the result for a value that is there or not: its canonical text, of at most `most` bytes
abbrev pub IsTextOfSome : {V : Type 0} → Kind V → Option V → ℕ → Result (Vec ℕ) TextRefusal → Type 0
IsTextOfSome k (Some v) most (Ok text) = IsRoomy k v most text.items
IsTextOfSome k (Some v) most (Err why) = IsUnwritten k v most why
IsTextOfSome k None most (Ok text) = ⊥
IsTextOfSome k None most (Err why) = why ≡ Absent

-- the bytes w are a text of the call, whose canonical text has at most `most` bytes
abbrev pub IsCallText : List ℕ → ℕ → CallText → Type 0
IsCallText w most read = IsTextOf call w read.call × IsRoomy call read.call most read.text.items

-- the bytes w are no call, or that of a call without such a canonical text
abbrev pub IsUnreadCall : List ℕ → ℕ → TextRefusal → Type 0
IsUnreadCall w most why = IsUnreadable call w why ⊎ ((c : Call) × IsTextOf call w c × IsUnwritten call c most why)
