-- The messages of a stream, events or calls: how they are read, and what is printed for them.
use Rattle.std.specs.Prelude.{ℕ, List, codes}
use Rattle.mes_model_schema.specs.Kinds.{Kind}
use Rattle.mes_msg.specs.Call.{Call}
use Rattle.mes_msg.specs.Calls.{call}
use Rattle.mes_msg.specs.Event.{Event}
use Rattle.mes_msg.specs.Events.{event}
use Rattle.mes_msg.specs.ShowLines.{event_lines}
use Rattle.mesosev_stream.specs.CallLines.{call_line}

-- the table of a message, its printed name, and its printed lines if it has the given number
pub record Messages (M : Type 0) : Type 1 where
  pub kind : Kind M
  pub word : List ℕ
  pub lines : ℕ → M → List ℕ

-- the messages that are read, named and printed so
abbrev pub shown_as : {M : Type 0} → Kind M → List ℕ → (ℕ → M → List ℕ) → Messages M
shown_as kind word lines = record { kind = kind; word = word; lines = lines }

abbrev pub events : Messages Event
events = record { kind = event; word = codes "event"; lines = event_lines }

abbrev pub calls : Messages Call
calls = record { kind = call; word = codes "call"; lines = call_line }
