-- What a decoder of events represents, and the effect of a piece of the stream on it.
use Rattle.std.specs.Prelude.{◌≡◌, ◌≢◌, ℕ, ◌+◌, ◌<◌, ◌≤◌, List, length, Option, None, Some, IfSome, Result, Ok, Err}
use Rattle.mes_msg.specs.Event.{Event}
use Rattle.mes_msg.specs.Events.{Spells}
use Rattle.mes_stream.specs.MessageData.{HoldsData}
use Rattle.mes_stream.specs.Framings.{SaysIn, GoesBefore, InputEnds}
use Rattle.mes_stream.specs.Refusals.{IsEventRefusal}
use Rattle.mes_stream.specs.Stream.{saturated}
use Rattle.mes_stream.specs.StreamReaders.{StreamRepresents}
use Rattle.mes_stream.specs.declared.fault.Fault.{Fault}
use Rattle.mes_stream.specs.declared.stream_reader.Framing.{Framing}
use Rattle.mes_stream.specs.declared.step.Decoded.{Decoded}
use Rattle.mes_stream.specs.declared.step.Decoded.TheVariants as out
use Rattle.mesosev_c.specs.declared.event_decoder.EventDecoder.{EventDecoder}
use Rattle.mesosev_c.specs.declared.event_decoder.State.{State}
use Rattle.mesosev_c.specs.declared.event_decoder.State.TheVariants as state
use Rattle.mesosev_c.specs.declared.event_decoder.StreamEnd.{StreamEnd}
use Rattle.mesosev_c.specs.declared.event_decoder.StreamEnd.TheVariants.{Closed, Failed}

abbrev pub end_at : State → Option StreamEnd
end_at (state.Going stream) = None
end_at (state.Ended end) = Some end

-- how the stream of the decoder ended, if it did
abbrev pub end_of : EventDecoder → Option StreamEnd
end_of d = end_at d.state

abbrev pub DecoderStateRepresents : State → Framing → ℕ → List ℕ → List Event → Type 0
DecoderStateRepresents (state.Going stream) framing limit w events = StreamRepresents HoldsData Spells 0 stream framing limit w events
DecoderStateRepresents (state.Ended end) framing limit w events = ⊥

-- the decoder has read w, a stream's prefix with these events, and the stream has not ended
abbrev pub Represents : EventDecoder → Framing → ℕ → List ℕ → List Event → Type 0
Represents d framing limit w events = DecoderStateRepresents d.state framing limit w events × (d.used ≡ saturated (length w))

-- the results of `next` and `finish` after the stream has ended in this way
abbrev pub answer_of : StreamEnd → Decoded Event Fault
answer_of Closed = out.End
answer_of (Failed fault) = out.Fault fault

abbrev pub outcome_of : StreamEnd → Result (Unit {0}) Fault
outcome_of Closed = Ok tt
outcome_of (Failed fault) = Err fault

-- how the stream ended, by a result of `next`, and by the outcome at the end of the input
abbrev pub EndsBy : Option StreamEnd → Decoded Event Fault → Type 0
EndsBy end out.More = end ≡ None
EndsBy end (out.Event event) = end ≡ None
EndsBy end out.End = end ≡ Some Closed
EndsBy end (out.Fault fault) = end ≡ Some (Failed fault)

abbrev pub end_by : Result (Unit {0}) Fault → StreamEnd
end_by (Ok done) = Closed
end_by (Err fault) = Failed fault

-- the effect of a piece on a decoder: `next` used `used` bytes and returned `answer`
pub record Takes (old new : EventDecoder) (piece : List ℕ) (used : ℕ) (answer : Decoded Event Fault) : Type 0 where
  -- the meaning of the result, if the decoder has read w, a prefix of a stream with these events
  pub says : (framing : Framing) (limit : ℕ) (w : List ℕ) (events : List Event) → Represents old framing limit w events
      → SaysIn framing (Represents new framing limit) Spells IsEventRefusal 0 limit w events piece used answer
  -- before the last used byte the input is a prefix of a stream with the same events
  pub before : (framing : Framing) (limit : ℕ) (w : List ℕ) (events : List Event) → Represents old framing limit w events → GoesBefore framing Spells limit w events piece used
  -- the result `More` is returned only after the whole piece was used
  pub more : answer ≡ out.More → used ≡ length piece
  -- any other result of a stream that has not ended uses at least one byte
  pub some : end_of old ≡ None → answer ≢ out.More → 0 < used
  pub within : used ≤ length piece
  -- the used bytes are counted until the stream ends
  pub count : end_of old ≡ None → new.used ≡ saturated (old.used + used)
  -- an end or error is stored, so that later calls return it
  pub ends : EndsBy (end_of new) answer
  pub again : IfSome (end_of old) (λ e. (used ≡ 0) × (answer ≡ answer_of e) × (new ≡ old))

-- the effect of the end of the input on a decoder
pub record EndsInput (old new : EventDecoder) (outcome : Result (Unit {0}) Fault) : Type 0 where
  -- the meaning of the outcome, if the decoder has read w, a prefix of a stream with these events
  pub means : (framing : Framing) (limit : ℕ) (w : List ℕ) (events : List Event) → Represents old framing limit w events → InputEnds framing Spells limit w events outcome
  -- the outcome is stored, so that later calls return it
  pub ends : end_of new ≡ Some (end_by outcome)
  pub again : IfSome (end_of old) (λ e. (outcome ≡ outcome_of e) × (new ≡ old))
  pub count : new.used ≡ old.used
