-- A written session log: the header, then a record for each entry.
use Rattle.std.specs.Prelude.{◌≡◌, ℕ, ◌<◌, ◌≤◌, List, [], ◌∷◌, ◌++◌, length, Option, All}
use Rattle.std.specs.List.{flat_map}
use Rattle.mes_json.specs.Tree.{depth}
use Rattle.mes_json.specs.declared.limits.TheConstants.{MAX_NESTING}
use Rattle.mes_frame.specs.Frames.{record_bytes}
use Rattle.mes_frame.specs.Devices.{Device}
use Rattle.mes_model_schema.specs.Kinds.{Kind}
use Rattle.mes_msg.specs.Events.{event}
use Rattle.mes_msg.specs.Calls.{call}
use Rattle.mes_msg.specs.Texts.{canonical_of, NestsFew}
use Rattle.mes_msg.specs.declared.entry.Entry.{Entry}
use Rattle.mes_msg.specs.declared.entry.Entry.TheVariants.{Heard, Said, Broken}
use Rattle.mes_msg.specs.declared.send_fault.EncodeFaultKind.{EncodeFaultKind}
use Rattle.mes_msg.specs.declared.send_fault.EncodeFaultKind.TheVariants.{TooDeep, TooLarge}
use Rattle.mes_msg.specs.declared.send_fault.SendFault.{SendFault}
use Rattle.mes_msg.specs.declared.send_fault.SendFault.TheVariants.{Encode, NoMemory, Write}
use Rattle.mes_stream.specs.Sending.{WroteSome}
use Rattle.mes_session_log.specs.Logs.{IsLog}
use Rattle.mes_session_log_entry.specs.declared.record_letters.TheConstants.{EVENT, CALL, BROKEN, HEADER}

-- the data of an entry: its letter and then its canonical text, if it has one
abbrev pub entry_data : Entry → List ℕ
entry_data (Heard heard) = EVENT ∷ canonical_of event heard
entry_data (Said said) = CALL ∷ canonical_of call said
entry_data Broken = BROKEN ∷ []

-- the consecutive records of the entries
abbrev pub entry_records : List Entry → List ℕ
entry_records entries = flat_map (λ entry. record_bytes (entry_data entry)) entries

-- the log of the entries: the record of the header, then the records of the entries
abbrev pub log_bytes : List Entry → List ℕ
log_bytes entries = record_bytes (HEADER ∷ []) ++ entry_records entries

-- the letter and the text of a message do not fit a record of the limit: too deep, or too many
-- bytes
abbrev pub IsUnfit : {V : Type 0} → Kind V → ℕ → V → EncodeFaultKind → Type 0
IsUnfit k limit v TooDeep = MAX_NESTING < depth (k.tree v)
IsUnfit k limit v TooLarge = NestsFew k v × (limit ≤ length (canonical_of k v))

-- the letter and the text of a message fit a record of the limit
abbrev pub IsFit : {V : Type 0} → Kind V → ℕ → V → Type 0
IsFit k limit v = NestsFew k v × (length (canonical_of k v) < limit)

-- the entry fits a record of the limit
abbrev pub EntryFits : ℕ → Entry → Type 0
EntryFits limit (Heard heard) = IsFit event limit heard
EntryFits limit (Said said) = IsFit call limit said
EntryFits limit Broken = Unit {0}

-- the reason for which the entry does not fit a record of the limit
abbrev pub EntryUnfit : ℕ → Entry → EncodeFaultKind → Type 0
EntryUnfit limit (Heard heard) why = IsUnfit event limit heard why
EntryUnfit limit (Said said) why = IsUnfit call limit said why
EntryUnfit limit Broken why = ⊥

abbrev pub AllFit : ℕ → List Entry → Type 0
AllFit limit entries = All (EntryFits limit) entries

-- the entry at the index, from 0, is the first that does not fit a record of the limit
pub record IsFirstUnfit (limit : ℕ) (entries : List Entry) (index : ℕ) (why : EncodeFaultKind) : Type 0 where
  pub front : List Entry
  pub entry : Entry
  pub rest : List Entry
  pub is : entries ≡ front ++ entry ∷ rest
  pub place : index ≡ length front
  pub fit : AllFit limit front
  pub unfit : EntryUnfit limit entry why

-- w is the log of the entries, which all fit; if the limit is at least 1, w reads back to the
-- entries
pub record IsLogOf (limit : ℕ) (entries : List Entry) (w : List ℕ) : Type 0 where
  pub fit : AllFit limit entries
  pub written : w ≡ log_bytes entries
  pub read : 1 ≤ limit → IsLog limit w entries

-- the reason for which there is no log of the entries
abbrev pub IsUnwritten : ℕ → List Entry → SendFault → Type 0
IsUnwritten limit entries (Encode index why) = IsFirstUnfit limit entries index why
IsUnwritten limit entries NoMemory = Unit {0}
IsUnwritten limit entries (Write fault) = ⊥

-- the reason for which writing ended: an entry does not fit, out of memory, or the writer stopped
abbrev pub StopsLog : {W : Type 0} → (W → Device) → ℕ → List Entry → W → W → SendFault → Type 0
StopsLog device limit entries old new (Encode index why) = IsFirstUnfit limit entries index why × (new ≡ old)
StopsLog device limit entries old new NoMemory = new ≡ old
StopsLog device limit entries old new (Write fault) = (w : List ℕ) × IsLogOf limit entries w × WroteSome device old new w fault
