-- A session log in plain RecordIO: the first record determines the version of the log. The header
-- counts as a record, but is not an entry.
use Rattle.std.specs.Prelude.{◌≡◌, ℕ, ◌⊎◌, Option, List, [], ◌∷◌, ◌++◌, length, Result}
use Rattle.mes_frame.specs.Record.{IsRecord}
use Rattle.mes_frame.specs.declared.counts.Counts.{Counts}
use Rattle.mes_msg.specs.declared.entry.Entry.{Entry}
use Rattle.mes_stream.specs.PlainReading.{PlainReading, Goes, Stops}
use Rattle.mes_stream.specs.Reading.{Ahead, nothing_ahead, ByteEndsAfter, EndMeans, BreaksOff, EndsReadingAs}
use Rattle.mes_stream.specs.RecordValues.{IsRefused}
use Rattle.mes_stream.specs.Stream.{Records, BodyLive, BodyShows}
use Rattle.mes_stream.specs.declared.fault.Fault.{Fault}
use Rattle.mes_stream.specs.declared.fault.Report.{Report}
use Rattle.mes_stream.specs.declared.fault.Stop.{Stop}
use Rattle.mes_stream.specs.declared.record_error.RecordError.{RecordError}
use Rattle.mes_stream.specs.declared.stream_reader.Framing.TheVariants.{Plain}
use Rattle.mes_session_log_entry.specs.Entries.{SpellsFirst, FirstBreaks, SpellsEntry, EntryBreaks, version_of, entries_in}
use Rattle.mes_session_log_entry.specs.declared.first_reader.FirstRecord.{FirstRecord}

-- the first record of w is complete, and `Is` holds for the rest of w with the entries `more`
pub record AfterFirst (limit : ℕ) (w : List ℕ) (entries : List Entry) (Is : ℕ → Ahead → List ℕ → List Entry → Type 0) : Type 0 where
  pub head : List ℕ
  pub rest : List ℕ
  pub content : List ℕ
  pub first : FirstRecord
  pub more : List Entry
  pub spelt : w ≡ head ++ rest
  pub framed : IsRecord head content limit
  pub says : SpellsFirst content first
  pub all : entries ≡ entries_in first ++ more
  pub is : Is (version_of first) (record { records = 1; bytes = length head }) rest more

-- `Is` holds for w if the first record of w is incomplete, or else for the rest of w after that
-- record
abbrev pub OfLog : ((E : Type 0) → (List ℕ → E → Type 0) → (List ℕ → RecordError → Type 0) → Ahead → List ℕ → List E → Type 0) → ℕ → List ℕ → List Entry → Type 0
OfLog Is limit w entries =
    (Is FirstRecord SpellsFirst FirstBreaks nothing_ahead w [] × (entries ≡ []))
    ⊎ AfterFirst limit w entries (λ version ahead rest more. Is Entry (SpellsEntry version) (EntryBreaks version) ahead rest more)

-- w is a whole log of these entries
abbrev pub IsLog : ℕ → List ℕ → List Entry → Type 0
IsLog limit w entries = OfLog (λ E spells breaks ahead b values. Records spells limit b values) limit w entries

-- ---- the result of reading any bytes

-- w begins a log with these entries, without a fault
abbrev pub LogGoes : ℕ → List ℕ → List Entry → Type 0
LogGoes limit w entries = OfLog (λ E spells breaks ahead b values. BodyLive spells limit b values) limit w entries

-- the fault is detected at the byte c, which follows w
abbrev pub LogShows : ℕ → List ℕ → List Entry → ℕ → Fault → Type 0
LogShows limit w entries c fault = OfLog (λ E spells breaks ahead b values. BodyShows spells breaks ahead.records limit b values c fault) limit w entries

-- reading the bytes w has this result
abbrev pub ReadsLog : ℕ → List ℕ → PlainReading Entry → Type 0
ReadsLog limit w (Goes entries) = LogGoes limit w entries
ReadsLog limit w (Stops front byte entries fault) = (rest : List ℕ) × (w ≡ front ++ byte ∷ rest) × LogShows limit front entries byte fault

-- ---- the end of reading

-- a byte among the last 512 of w stops the reading; memory runs out only in the text of a message
-- or for the list of entries
abbrev pub LogByteEnds : ℕ → List ℕ → List Entry → Result Report Stop → Type 0
LogByteEnds limit w entries outcome =
    (ByteEndsAfter Plain SpellsFirst FirstBreaks nothing_ahead limit w [] outcome × (entries ≡ []))
    ⊎ AfterFirst limit w entries (λ version ahead rest more. ByteEndsAfter Plain (SpellsEntry version) (IsRefused (SpellsEntry version) (EntryBreaks version)) ahead limit rest more outcome)

-- the input ends after w: w is a whole log, or ends inside a record
abbrev pub LogEndMeans : ℕ → List ℕ → List Entry → Result Report Stop → Type 0
LogEndMeans limit w entries outcome = OfLog (λ E spells breaks ahead b values. EndMeans Plain spells ahead limit b values outcome) limit w entries

-- reading stops after w with the fault `fault`, although the log may continue
abbrev pub LogBreaksOff : ℕ → Fault → List ℕ → List Entry → Result Report Stop → Type 0
LogBreaksOff limit fault w entries outcome = OfLog (λ E spells breaks ahead b values. BreaksOff fault Plain spells ahead limit b values outcome) limit w entries

-- the result of reading a log, as for a stream; w are the bytes consumed
abbrev pub EndsLog : ℕ → ℕ → Counts → Counts → Option (List ℕ) → List ℕ → List Entry → Result Report Stop → Type 0
EndsLog limit reads old new last w entries outcome =
    EndsReadingAs (LogByteEnds limit) (LogEndMeans limit) (LogBreaksOff limit) reads old new last w entries outcome
