-- The canonical text of an event, and the reason for which there is none.
use Rattle.std.specs.Prelude.{ℕ, List}
use Rattle.mes_msg_event.specs.Events.{event}
use Rattle.mes_msg_record.specs.Texts.{canonical_of, Fits, IsRefusalOf}
use Rattle.mes_msg_event.specs.declared.event.Event.{Event}
use Rattle.mes_msg_record.specs.declared.canon.EncodeFault.{EncodeFault}

-- the canonical text of the tree that the event is written as
abbrev pub canonical_text : Event → List ℕ
canonical_text ev = canonical_of event ev

-- the event has a canonical text of at most this number of bytes, nested at most MAX_NESTING deep
abbrev pub IsGood : Event → ℕ → Type 0
IsGood ev limit = Fits event ev limit

-- the reason for which there is no text within the limit; `NoMemory` states nothing about the event
abbrev pub IsEncodeFault : Event → ℕ → EncodeFault → Type 0
IsEncodeFault ev limit f = IsRefusalOf event ev limit f
