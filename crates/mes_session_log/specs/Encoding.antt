-- The record of one entry, appended to the records of the earlier entries.
use Rattle.std.specs.Prelude.{◌≡◌, ℕ, ◌≤◌, List, ◌++◌}
use Rattle.mes_frame.specs.Frames.{record_bytes}
use Rattle.mes_frame.specs.Record.{IsRecord}
use Rattle.mes_model_schema.specs.Kinds.{Kind}
use Rattle.mes_msg.specs.EncodeFault.{EncodeFault}
use Rattle.mes_msg.specs.EncodeFault.TheVariants as refused
use Rattle.mes_msg.specs.declared.entry.Entry.{Entry}
use Rattle.mes_msg.specs.declared.send_fault.EncodeFaultKind.TheVariants.{TooDeep, TooLarge}
use Rattle.mes_session_log_entry.specs.Entries.{SpellsEntry}
use Rattle.mes_session_log.specs.Writing.{entry_data, EntryFits, EntryUnfit, IsUnfit}

-- the entry fits a record of the limit, and its record is appended and reads back to the entry
pub record AddsEntry (limit : ℕ) (entry : Entry) (old new : List ℕ) : Type 0 where
  pub written : new ≡ old ++ record_bytes (entry_data entry)
  pub fits : EntryFits limit entry
  pub framed : 1 ≤ limit → IsRecord (record_bytes (entry_data entry)) (entry_data entry) limit
  pub spells : SpellsEntry 2 (entry_data entry) entry

-- the reason for which an entry does not fit; a failed allocation states nothing about the entry
abbrev pub IsEntryFault : ℕ → Entry → EncodeFault → Type 0
IsEntryFault limit entry refused.TooDeep = EntryUnfit limit entry TooDeep
IsEntryFault limit entry refused.TooLarge = EntryUnfit limit entry TooLarge
IsEntryFault limit entry refused.NoMemory = Unit {0}

-- the reason for which a message and its letter do not fit a record
abbrev pub IsMessageUnfit : {V : Type 0} → Kind V → ℕ → V → EncodeFault → Type 0
IsMessageUnfit k limit v refused.TooDeep = IsUnfit k limit v TooDeep
IsMessageUnfit k limit v refused.TooLarge = IsUnfit k limit v TooLarge
IsMessageUnfit k limit v refused.NoMemory = Unit {0}
