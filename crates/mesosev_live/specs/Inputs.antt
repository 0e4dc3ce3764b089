-- The events of standard input.
use Rattle.std.specs.Prelude.{◌≡◌, ℕ, List, ◌++◌}
use Rattle.mes_msg.specs.Event.{Event}
use Rattle.mes_msg.specs.Events.{Spells}
use Rattle.mes_stream.specs.MessageData.{HoldsData, kept_data}
use Rattle.mes_stream.specs.Reading.{Collects, GathersLast}
use Rattle.mes_stream.specs.RecordValues.{IsRefused}
use Rattle.mes_stream.specs.Refusals.{IsEventRefusal}
use Rattle.mes_stream.specs.declared.counted_reader.Reading.{Reading}
use Rattle.mes_stream.specs.declared.counted_reader.ReadingStop.{ReadingStop}
use Rattle.mes_stream.specs.declared.message_reader.MessageReader.{MessageReader}

-- the bytes w were decoded, and their events appended
abbrev pub Decodes : Reading (MessageReader Event) → List Event → Reading (MessageReader Event) → List Event → List ℕ → Type 0
Decodes old before new after w = Collects HoldsData Spells old before new after w

-- the bytes were decoded up to a fault in one of their pieces, and the events before it appended
abbrev pub StopsIn : Reading (MessageReader Event) → List Event → Reading (MessageReader Event) → List Event → List ℕ → ReadingStop → Type 0
StopsIn old before new after bytes stop =
    (w : List ℕ) × (piece : List ℕ) × (rest : List ℕ) × (bytes ≡ w ++ (piece ++ rest))
    × GathersLast HoldsData Spells (IsRefused Spells IsEventRefusal) kept_data old before new after w piece stop
