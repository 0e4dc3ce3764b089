-- Decoding many events of a piece, stated as calls of `next`: each is on the bytes of the piece
-- that the earlier calls left.
use Rattle.std.specs.Prelude.{◌≡◌, ℕ, ◌+◌, ◌<◌, ◌⊎◌, List, [], ◌∷◌, ◌++◌, Bool, length, drop}
use Rattle.mesosev_c.specs.Rows.{Reporting, texts_of, rows_of}
use Rattle.mesosev_c.specs.Reporting.{ReportsStep}
use Rattle.mesosev_c.specs.declared.event_decoder.EventDecoder.{EventDecoder}
use Rattle.mesosev_c.specs.declared.rows.Row.{Row}
use Rattle.mesosev_c.specs.Numbers.{EVENT, NO_TEXT}
use Rattle.mesosev_c.specs.declared.text_decoder.Batch.{Batch}
use Rattle.mesosev_c.specs.declared.text_decoder.TextDecoder.{TextDecoder}
use Rattle.mesosev_c.specs.declared.text_decoder.Reported.{Reported}

-- the status is that of an event, with or without a text
abbrev pub IsEvent : ℕ → Type 0
IsEvent status = (status ≡ EVENT) ⊎ (status ≡ NO_TEXT)

-- for each event, in this order, one call of `next` reports it; the calls use `used` bytes
abbrev pub ReportsEach : Bool → EventDecoder → EventDecoder → List ℕ → ℕ → List Reporting → Type 0
ReportsEach texts old new piece used [] = (new ≡ old) × (used ≡ 0)
ReportsEach texts old new piece used (one ∷ others) =
    (between : EventDecoder) × (first : ℕ) × (rest : ℕ) × (used ≡ first + rest)
    × IsEvent one.reported.status × ReportsStep texts old between piece first one.reported one.text × ReportsEach texts between new (drop first piece) rest others

-- one more call of `next` reports no event, and the status is that of this call
pub record Stops (texts : Bool) (old new : EventDecoder) (piece : List ℕ) (used status : ℕ) : Type 0 where
  pub reported : Reported
  pub text : List ℕ
  pub step : ReportsStep texts old new piece used reported text
  pub no_event : IsEvent reported.status → ⊥
  pub is_status : status ≡ reported.status

-- calls of `next` report these events: one for each row of the buffer, or fewer before the end
pub record ReportsMany (texts : Bool) (old new : EventDecoder) (piece : List ℕ) (room used status : ℕ) (events : List Reporting) : Type 0 where
  pub between : EventDecoder
  pub taken : ℕ
  pub rest : ℕ
  pub each : ReportsEach texts old between piece taken events
  pub stops : ((length events ≡ room) × (new ≡ between) × (rest ≡ 0) × (status ≡ EVENT)) ⊎ ((length events < room) × Stops texts between new (drop taken piece) rest status)
  pub is_used : used ≡ taken + rest

-- the first rows of the buffer describe the events, whose texts are concatenated
pub record ReportsBatch (old new : TextDecoder) (piece : List ℕ) (before after : List Row) (batch : Batch) : Type 0 where
  pub events : List Reporting
  pub many : ReportsMany old.texts old.decoder new.decoder piece (length before) batch.used batch.status events
  pub count : batch.count ≡ length events
  pub rows : after ≡ rows_of 0 events ++ drop (length events) before
  pub text : new.text.items ≡ texts_of events
  pub texts : new.texts ≡ old.texts
