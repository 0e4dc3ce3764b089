-- The caller's rows, one for each decoded event; the texts of the events are concatenated.
use Rattle.std.specs.Prelude.{ℕ, ◌+◌, List, [], ◌∷◌, ◌++◌, length}
use Rattle.mesosev_c.specs.declared.rows.Row.{Row}
use Rattle.mesosev_c.specs.declared.text_decoder.Reported.{Reported}

-- the result of `next` for an event, with the event's text, or an empty text if it has none
pub record Reporting : Type 0 where
  pub reported : Reported
  pub text : List ℕ

-- the concatenated texts of the events
abbrev pub texts_of : List Reporting → List ℕ
texts_of [] = []
texts_of (one ∷ others) = one.text ++ texts_of others

-- a row for each event, the first with its text at offset `start`
abbrev pub rows_of : ℕ → List Reporting → List Row
rows_of start [] = []
rows_of start (one ∷ others) = record { kind = one.reported.kind; start = start; size = length one.text } ∷ rows_of (start + length one.text) others

-- the row of an event after its text was lost
abbrev pub without_text : Row → Row
without_text row = record { kind = row.kind; start = 0; size = 0 }
