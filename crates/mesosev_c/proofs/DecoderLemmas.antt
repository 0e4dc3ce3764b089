-- The effect of a piece on an `EventDecoder` follows from its effect on the decoder's
-- `StreamReader`.
use Rattle.std.proofs.Common.{Result, Ok, Err, ◌≡◌, ◌≢◌, ℕ, ◌+◌, ◌<◌, ◌≤◌, List, ◌++◌, length, take, refl, ◌∙◌, arith, length-append, length-take-le, None, Some}
use Rattle.mes_msg.specs.Event.{Event}
use Rattle.mes_msg.specs.Events.{Spells}
use Rattle.mes_stream.specs.MessageData.{HoldsData}
use Rattle.mes_stream.specs.Framings.{SaysIn, GoesBefore, InputEnds}
use Rattle.mes_stream.specs.Refusals.{IsEventRefusal}
use Rattle.mes_stream.specs.Stream.{saturated}
use Rattle.mes_stream.specs.StreamReaders.{StreamRepresents}
use Rattle.mes_stream.specs.declared.message_reader.MessageReader.{MessageReader}
use Rattle.mes_stream.specs.declared.stream_reader.Framing.{Framing}
use Rattle.mes_stream.specs.declared.stream_reader.StreamReader.{StreamReader}
use Rattle.mes_stream.specs.declared.fault.Fault.{Fault}
use Rattle.mes_stream.specs.declared.step.Decoded.{Decoded}
use Rattle.mes_stream.specs.declared.step.Decoded.TheVariants as out
use Rattle.mesosev_c.specs.Decoders.{Takes, DecoderStateRepresents, EndsBy, EndsInput, answer_of, end_by, outcome_of}
use Rattle.mesosev_c.specs.declared.event_decoder.EventDecoder.{EventDecoder}
use Rattle.mesosev_c.specs.declared.event_decoder.State.TheVariants as state
use Rattle.mesosev_c.specs.declared.event_decoder.StreamEnd.{StreamEnd}
use Rattle.mesosev_c.specs.declared.event_decoder.StreamEnd.TheVariants.{Closed, Failed}

never_more : (end : StreamEnd) → answer_of end ≡ out.More → ⊥
never_more Closed e = absurd (cc)
never_more (Failed fault) e = absurd (cc)

ends_by : (end : StreamEnd) → EndsBy (Some end) (answer_of end)
ends_by Closed = refl
ends_by (Failed fault) = refl

-- after the end or an error of the stream, `next` returns it again and uses no byte
ended : (used : ℕ) (end : StreamEnd) (piece : List ℕ) → let d : EventDecoder = record { state = state.Ended end; used = used } in Takes d d piece 0 (answer_of end)
ended used end piece = record {
  says = λ framing limit w events s. absurd s.0;
  before = λ framing limit w events s. absurd s.0;
  more = λ e. absurd (never_more end e);
  some = λ e. absurd (cc);
  within = omega arith;
  count = λ e. absurd (cc);
  ends = ends_by end;
  again = (refl, refl, refl);
}

pub takes_ended : (used : ℕ) (end : StreamEnd) (piece : List ℕ) (answer : Decoded Event Fault) → answer ≡ answer_of end → let d : EventDecoder = record { state = state.Ended end; used = used } in Takes d d piece 0 answer
takes_ended used end piece answer is = rw is (ended used end piece)

-- the meaning of a result, if the decoder also counts the bytes of the stream
says_counted : (framing : Framing) (S : List ℕ → List Event → Type 0) (limit : ℕ) (w piece : List ℕ) (events : List Event) (used total : ℕ) (answer : Decoded Event Fault) → total ≡ saturated (length (w ++ take used piece))
    → SaysIn framing S Spells IsEventRefusal 0 limit w events piece used answer → SaysIn framing (λ v vs. S v vs × (total ≡ saturated (length v))) Spells IsEventRefusal 0 limit w events piece used answer
says_counted framing S limit w piece events used total out.More count h = (h, count)
says_counted framing S limit w piece events used total (out.Event event) count h = ((h.0, count), h.1)
says_counted framing S limit w piece events used total out.End count h = h
says_counted framing S limit w piece events used total (out.Fault fault) count h = h

-- the meaning of a result that ends the stream, which does not depend on the state after it
says_last : (framing : Framing) (S T : List ℕ → List Event → Type 0) (limit : ℕ) (w piece : List ℕ) (events : List Event) (used : ℕ) (end : StreamEnd) (answer : Decoded Event Fault) → EndsBy (Some end) answer
    → SaysIn framing S Spells IsEventRefusal 0 limit w events piece used answer → SaysIn framing T Spells IsEventRefusal 0 limit w events piece used answer
says_last framing S T limit w piece events used end out.More by h = let clash : Some end ≡ None = by in absurd (cc)
says_last framing S T limit w piece events used end (out.Event event) by h = let clash : Some end ≡ None = by in absurd (cc)
says_last framing S T limit w piece events used end out.End by h = h
says_last framing S T limit w piece events used end (out.Fault fault) by h = h

module _ (was : ℕ) (stream after : StreamReader (MessageReader Event)) (piece : List ℕ) (used : ℕ) (answer : Decoded Event Fault) (total : ℕ)
    (says : (ahead : ℕ) (framing : Framing) (limit : ℕ) (w : List ℕ) (events : List Event) → StreamRepresents HoldsData Spells ahead stream framing limit w events
    → SaysIn framing (StreamRepresents HoldsData Spells ahead after framing limit) Spells IsEventRefusal ahead limit w events piece used answer)
    (before : (ahead : ℕ) (framing : Framing) (limit : ℕ) (w : List ℕ) (events : List Event) → StreamRepresents HoldsData Spells ahead stream framing limit w events → GoesBefore framing Spells limit w events piece used)
    (more : answer ≡ out.More → used ≡ length piece) (some : answer ≢ out.More → 0 < used) (within : used ≤ length piece) (count : total ≡ saturated (was + used)) where
  abbrev pub going : EventDecoder
  going = record { state = state.Going stream; used = was }

  counted : (w : List ℕ) → was ≡ saturated (length w) → total ≡ saturated (length (w ++ take used piece))
  counted w is = count ∙ omega (arith, is, length-append w (take used piece), length-take-le used piece within)

  pub takes_on : EndsBy None answer → Takes going (record { state = state.Going after; used = total }) piece used answer
  takes_on none = record {
    says = λ framing limit w events s. says_counted framing (StreamRepresents HoldsData Spells 0 after framing limit) limit w piece events used total answer (counted w s.1) (says 0 framing limit w events s.0);
    before = λ framing limit w events s. before 0 framing limit w events s.0;
    more = more;
    some = λ e. some;
    within = within;
    count = λ e. count;
    ends = none;
    again = tt;
  }

  pub takes_last : (end : StreamEnd) → EndsBy (Some end) answer → Takes going (record { state = state.Ended end; used = total }) piece used answer
  takes_last end by = record {
    says = λ framing limit w events s. says_last framing (StreamRepresents HoldsData Spells 0 after framing limit) (λ v vs. DecoderStateRepresents (state.Ended end) framing limit v vs × (total ≡ saturated (length v))) limit w piece events used end answer by
        (says 0 framing limit w events s.0);
    before = λ framing limit w events s. before 0 framing limit w events s.0;
    more = more;
    some = λ e. some;
    within = within;
    count = λ e. count;
    ends = by;
    again = tt;
  }

-- the outcome of the input's end is stored, and `finish` returns it again
outcome_again : (outcome : Result (Unit {0}) Fault) → outcome_of (end_by outcome) ≡ outcome
outcome_again (Ok done) = refl
outcome_again (Err fault) = refl

-- the end of the input, for a decoder whose stream has not ended
pub ends_input : (used : ℕ) (stream : StreamReader (MessageReader Event)) (outcome : Result (Unit {0}) Fault)
    → ((ahead : ℕ) (framing : Framing) (limit : ℕ) (w : List ℕ) (events : List Event) → StreamRepresents HoldsData Spells ahead stream framing limit w events → InputEnds framing Spells limit w events outcome)
    → EndsInput (record { state = state.Going stream; used = used }) (record { state = state.Ended (end_by outcome); used = used }) (outcome_of (end_by outcome))
ends_input used stream outcome ends = record {
  means = λ framing limit w events s. rw (outcome_again outcome) (ends 0 framing limit w events s.0);
  ends = rw (outcome_again outcome) refl;
  again = tt;
  count = refl;
}
