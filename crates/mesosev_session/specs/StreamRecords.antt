-- The record of an event in plain RecordIO, and a chunk of a body.
use Rattle.std.specs.Prelude.{◌≡◌, ◌⊎◌, ℕ, ◌<◌, ◌≤◌, List, [], ◌∷◌, length}
use Rattle.mes_frame.specs.Frames.{piece_bytes}
use Rattle.mes_frame.specs.declared.limits.TheConstants.{MAX_RECORD_LIMIT}
use Rattle.mes_msg.specs.Event.{Event}
use Rattle.mes_msg.specs.Events.{event}
use Rattle.mes_msg.specs.Texts.{IsTextOf}
use Rattle.mes_msg.specs.declared.send_fault.EncodeFaultKind.{EncodeFaultKind}
use Rattle.mes_stream.specs.Sending.{IsBad, IsPlainOf}
use Rattle.mes_stream.specs.declared.fault.Fault.TheVariants.{NoMemory}
use Rattle.mesosev_session.specs.Texts.{IsUnreadable}
use Rattle.mesosev_session.specs.declared.text_refusal.TextRefusal.{TextRefusal}
use Rattle.mesosev_session.specs.declared.text_refusal.TextRefusal.TheVariants.{Fault, Refused, Unfit, NoRoom, Absent}

-- the bytes are the record of the event: at most `most` bytes
abbrev pub IsEventRecord : Event → ℕ → List ℕ → Type 0
IsEventRecord e most bytes = IsPlainOf event MAX_RECORD_LIMIT (e ∷ []) bytes × (length bytes ≤ most)

-- the bytes w are a text of an event, and `bytes` its record
abbrev pub IsStreamRecord : List ℕ → ℕ → List ℕ → Type 0
IsStreamRecord w most bytes = (e : Event) × IsTextOf event w e × IsEventRecord e most bytes

-- the event has no such record, or an allocation failed
abbrev pub IsUnsentEvent : Event → ℕ → TextRefusal → Type 0
IsUnsentEvent e most (Fault fault) = fault ≡ NoMemory
IsUnsentEvent e most (Refused refusal) = ⊥
IsUnsentEvent e most Unfit = (why : EncodeFaultKind) × IsBad event MAX_RECORD_LIMIT e why
IsUnsentEvent e most (NoRoom size) = (bytes : List ℕ) × IsPlainOf event MAX_RECORD_LIMIT (e ∷ []) bytes × (size ≡ length bytes) × (most < size)
IsUnsentEvent e most Absent = ⊥

abbrev pub HasNoStreamRecord : List ℕ → ℕ → TextRefusal → Type 0
HasNoStreamRecord w most why = IsUnreadable event w why ⊎ ((e : Event) × IsTextOf event w e × IsUnsentEvent e most why)

-- the chunk with the data w has at most `most` bytes
abbrev pub IsChunkWithin : List ℕ → ℕ → List ℕ → Type 0
IsChunkWithin w most chunk = (chunk ≡ piece_bytes w) × (length chunk ≤ most)

-- the chunk with the data w is longer, or an allocation failed
abbrev pub HasNoChunk : List ℕ → ℕ → TextRefusal → Type 0
HasNoChunk w most (Fault fault) = fault ≡ NoMemory
HasNoChunk w most (Refused refusal) = ⊥
HasNoChunk w most Unfit = ⊥
HasNoChunk w most (NoRoom size) = (size ≡ length (piece_bytes w)) × (most < size)
HasNoChunk w most Absent = ⊥
