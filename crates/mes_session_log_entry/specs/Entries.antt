-- An entry of a session log: `E` and an event, `C` and a call, or in version 2 `B`, a disconnect. A
-- log of version 2 begins with the header, a record with the data `2`.
use Rattle.std.specs.Prelude.{◌≡◌, ◌≢◌, ℕ, ◌⊎◌, List, [], ◌∷◌}
use Rattle.mes_json.specs.Place.{Begins}
use Rattle.mes_json.specs.declared.limits.TheConstants.{MAX_NESTING}
use Rattle.mes_msg.specs.Events.{event, Spells}
use Rattle.mes_msg.specs.Calls.{call}
use Rattle.mes_msg.specs.Texts.{IsTextOf, IsFaultOf}
use Rattle.mes_msg.specs.RecordFault.{RecordFault}
use Rattle.mes_msg.specs.RecordFault.TheVariants as message
use Rattle.mes_msg.specs.declared.entry.Entry.{Entry}
use Rattle.mes_msg.specs.declared.entry.Entry.TheVariants.{Heard, Said, Broken}
use Rattle.mes_stream.specs.Refusals.{IsJson}
use Rattle.mes_stream.specs.declared.record_error.RecordError.{RecordError}
use Rattle.mes_stream.specs.declared.record_error.RecordError.TheVariants as refusal
use Rattle.mes_session_log_entry.specs.declared.first_reader.FirstRecord.{FirstRecord}
use Rattle.mes_session_log_entry.specs.declared.first_reader.FirstRecord.TheVariants as first
use Rattle.mes_session_log_entry.specs.declared.record_letters.TheConstants.{EVENT, CALL, BROKEN, HEADER}

-- the data r are the letter and then a text for which `Is` holds
abbrev pub AfterLetter : ℕ → (List ℕ → Type 0) → List ℕ → Type 0
AfterLetter letter Is r = (text : List ℕ) × (r ≡ letter ∷ text) × Is text

-- the letter is neither that of an event nor that of a call, so no text follows
abbrev pub IsOther : ℕ → Type 0
IsOther letter = (letter ≢ EVENT) × (letter ≢ CALL)

-- ---- entries

-- the data r are a disconnect, which only version 2 has
abbrev pub IsBreak : ℕ → List ℕ → Type 0
IsBreak version r = (version ≡ 2) × (r ≡ BROKEN ∷ [])

-- the data r are those of the entry
abbrev pub SpellsEntry : ℕ → List ℕ → Entry → Type 0
SpellsEntry version r (Heard heard) = AfterLetter EVENT (λ text. Spells text heard) r
SpellsEntry version r (Said said) = AfterLetter CALL (λ text. IsTextOf call text said) r
SpellsEntry version r Broken = IsBreak version r

-- the data are empty; or they do not begin with the letter of an event or a call, and are not a
-- disconnect
abbrev pub IsBadEntry : ℕ → List ℕ → Type 0
IsBadEntry version [] = Unit {0}
IsBadEntry version (letter ∷ text) = IsOther letter × (IsBreak version (letter ∷ text) → ⊥)

-- the text after the letter of an event, or of a call, has the fault at a place that is counted in
-- the text
abbrev pub IsMessageFault : List ℕ → RecordFault → Type 0
IsMessageFault r fault = AfterLetter EVENT (λ text. IsFaultOf event text fault) r ⊎ AfterLetter CALL (λ text. IsFaultOf call text fault) r

-- the data are the letter of an event or a call, and then the beginning of some JSON text
abbrev pub BeginsMessage : List ℕ → Type 0
BeginsMessage r = AfterLetter EVENT (λ text. Begins MAX_NESTING text) r ⊎ AfterLetter CALL (λ text. Begins MAX_NESTING text) r

-- the data are the letter of an event or a call, and then a JSON text
abbrev pub IsWholeMessage : List ℕ → Type 0
IsWholeMessage r = AfterLetter EVENT IsJson r ⊎ AfterLetter CALL IsJson r

-- the data are a whole event or call, or a disconnect
abbrev pub IsWholeEntry : ℕ → List ℕ → Type 0
IsWholeEntry version r = IsWholeMessage r ⊎ IsBreak version r

-- the data r have this fault; an allocation fails only at a byte with which an event or a call goes
-- on
abbrev pub EntryBreaks : ℕ → List ℕ → RecordError → Type 0
EntryBreaks version r (refusal.Text fault) = IsMessageFault r (message.Text fault)
EntryBreaks version r (refusal.Field fault) = IsMessageFault r (message.Field fault)
EntryBreaks version r refusal.BadEntry = IsBadEntry version r
EntryBreaks version r refusal.NoMemory = BeginsMessage r

-- ---- the first record

-- the data r are those of the header, or of an entry of version 1
abbrev pub SpellsFirst : List ℕ → FirstRecord → Type 0
SpellsFirst r first.Header = r ≡ HEADER ∷ []
SpellsFirst r (first.Entry entry) = SpellsEntry 1 r entry

-- the fault of data that are neither the header nor an entry of version 1
abbrev pub FirstBreaks : List ℕ → RecordError → Type 0
FirstBreaks r (refusal.Text fault) = EntryBreaks 1 r (refusal.Text fault)
FirstBreaks r (refusal.Field fault) = EntryBreaks 1 r (refusal.Field fault)
FirstBreaks r refusal.BadEntry = IsBadEntry 1 r × (r ≢ HEADER ∷ [])
FirstBreaks r refusal.NoMemory = BeginsMessage r

-- the data are a whole event or call, or the header
abbrev pub IsWholeFirst : List ℕ → Type 0
IsWholeFirst r = IsWholeMessage r ⊎ (r ≡ HEADER ∷ [])

-- the version of the log with this first record
abbrev pub version_of : FirstRecord → ℕ
version_of first.Header = 2
version_of (first.Entry entry) = 1

-- the entries in the first record; the header is not an entry
abbrev pub entries_in : FirstRecord → List Entry
entries_in first.Header = []
entries_in (first.Entry entry) = entry ∷ []
