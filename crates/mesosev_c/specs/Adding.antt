-- The effect of one more event on the rows and texts of the events before it.
use Rattle.std.specs.Prelude.{◌≡◌, ℕ, ◌+◌, ◌-◌, ◌≤◌, ◌⊎◌, List, [], ◌∷◌, ◌++◌, Bool, true, length, take, drop, map}
use Rattle.mes_msg.specs.Event.{Event}
use Rattle.mes_stream.specs.declared.fault.Fault.{Fault}
use Rattle.mes_stream.specs.declared.step.Decoded.{Decoded}
use Rattle.mes_stream.specs.declared.step.Decoded.TheVariants as out
use Rattle.mesosev_c.specs.Batches.{IsEvent}
use Rattle.mesosev_c.specs.Numbers.{MORE, EVENT, END, number_of_event, number_of_fault}
use Rattle.mesosev_c.specs.Rows.{Reporting, without_text}
use Rattle.mesosev_c.specs.Reporting.{ReportsEvent}
use Rattle.mesosev_c.specs.declared.rows.Row.{Row}

-- the event's text is appended at offset `at`, after the texts of the earlier events
pub record KeepsTexts (texts : Bool) (event : Event) (old new : List ℕ) (before after : List Row) (at : ℕ) : Type 0 where
  pub one : Reporting
  pub is_event : IsEvent one.reported.status
  pub reports : ReportsEvent texts event one.text one.reported
  pub text : new ≡ old ++ one.text
  pub rows : after ≡ before
  pub start : at ≡ length old

-- the text could not be allocated, and no event has a text any more
pub record LosesTexts (texts : Bool) (new : List ℕ) (before after : List Row) (at : ℕ) : Type 0 where
  pub made : texts ≡ true
  pub text : new ≡ []
  pub rows : after ≡ map without_text before
  pub start : at ≡ 0

abbrev pub AddsText : Bool → Event → List ℕ → List ℕ → List Row → List Row → ℕ → Type 0
AddsText texts event old new before after at = KeepsTexts texts event old new before after at ⊎ LosesTexts texts new before after at

-- row `count` describes the event, whose text follows those of the rows before it
pub record AddsEvent (texts : Bool) (event : Event) (old new : List ℕ) (count : ℕ) (before after : List Row) : Type 0 where
  pub at : ℕ
  pub others : List Row
  pub adds : AddsText texts event old new (take count before) others at
  pub rows : after ≡ others ++ record { kind = number_of_event event; start = at; size = length new - at } ∷ drop (count + 1) before

-- the status that reports a result of decoding
abbrev pub HasStatus : Decoded Event Fault → ℕ → Type 0
HasStatus out.More status = status ≡ MORE
HasStatus (out.Event event) status = status ≡ EVENT
HasStatus out.End status = status ≡ END
HasStatus (out.Fault fault) status = (status ≡ number_of_fault fault) × (status ≤ 16)
