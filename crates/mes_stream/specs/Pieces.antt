-- The results of a decoder of events for a list of pieces.
use Rattle.std.specs.Prelude.{◌≡◌, ◌≢◌, ℕ, ◌+◌, ◌<◌, ◌≤◌, List, [], ◌∷◌, ◌++◌, length, drop, Option, None, Some}
use Rattle.mes_msg.specs.Events.{Spells}
use Rattle.mes_msg.specs.Event.{Event}
use Rattle.mes_stream.specs.Decoders.{DecoderRepresents}
use Rattle.mes_stream.specs.Decoding.{Says}
use Rattle.mes_stream.specs.MessageData.{HoldsData}
use Rattle.mes_stream.specs.Refusals.{IsEventRefusal}
use Rattle.mes_stream.specs.declared.decoder.RecordDecoder.{RecordDecoder}
use Rattle.mes_stream.specs.declared.decoder.StreamEnd.{StreamEnd}
use Rattle.mes_stream.specs.declared.decoder.StreamEnd.TheVariants.{Closed, Failed}
use Rattle.mes_stream.specs.declared.message_reader.MessageReader.{MessageReader}
use Rattle.mes_stream.specs.declared.fault.Fault.{Fault}
use Rattle.mes_stream.specs.declared.fault.Fault.TheVariants.{NoMemory}
use Rattle.mes_stream.specs.declared.step.Decoded.{Decoded}
use Rattle.mes_stream.specs.declared.step.Decoded.TheVariants as out

-- `next` was called with the piece, used `used` bytes and returned `answer`, as its contract states
pub record IsNext (old new : RecordDecoder (MessageReader Event)) (piece : List ℕ) (used : ℕ) (answer : Decoded Event Fault) : Type 0 where
  pub says : (limit : ℕ) (w : List ℕ) (events : List Event) → DecoderRepresents HoldsData Spells old limit w events
      → Says (DecoderRepresents HoldsData Spells new limit) Spells IsEventRefusal limit w events piece used answer
  pub more : answer ≡ out.More → used ≡ length piece
  pub some : (limit : ℕ) (w : List ℕ) (events : List Event) → DecoderRepresents HoldsData Spells old limit w events → answer ≢ out.More → 0 < used
  pub within : used ≤ length piece

-- the outcome of several calls: the events, the end or the error, if any, and the bytes used
pub record DecodeOutcome : Type 0 where
  pub events : List Event
  pub end : Option StreamEnd
  pub used : ℕ

abbrev pub decoded : List Event → Option StreamEnd → ℕ → DecodeOutcome
decoded events end used = record { events = events; end = end; used = used }

-- the outcome of one call and the calls after it, from the outcome of those after it
abbrev pub after_call : ℕ → List Event → DecodeOutcome → DecodeOutcome
after_call used events rest = decoded (events ++ rest.events) rest.end (used + rest.used)

-- The decoder received the pieces in order. Each call had a whole piece, or the bytes of a piece
-- that the previous call did not use. After the end or an error no more calls were made.
abbrev pub Decodes : RecordDecoder (MessageReader Event) → List (List ℕ) → List (ℕ × Decoded Event Fault) → DecodeOutcome → Type 0
Decodes d [] [] outcome = outcome ≡ decoded [] None 0
Decodes d [] (call ∷ calls) outcome = ⊥
Decodes d (piece ∷ pieces) [] outcome = ⊥
Decodes d (piece ∷ pieces) ((used, out.More) ∷ calls) outcome =
    (new : RecordDecoder (MessageReader Event)) × (rest : DecodeOutcome) × IsNext d new piece used out.More × Decodes new pieces calls rest × (outcome ≡ after_call used [] rest)
Decodes d (piece ∷ pieces) ((used, out.Event event) ∷ calls) outcome =
    (new : RecordDecoder (MessageReader Event)) × (rest : DecodeOutcome) × IsNext d new piece used (out.Event event) × Decodes new (drop used piece ∷ pieces) calls rest
    × (outcome ≡ after_call used (event ∷ []) rest)
Decodes d (piece ∷ pieces) ((used, out.End) ∷ calls) outcome =
    (new : RecordDecoder (MessageReader Event)) × IsNext d new piece used out.End × (outcome ≡ decoded [] (Some Closed) used)
Decodes d (piece ∷ pieces) ((used, out.Fault fault) ∷ calls) outcome =
    (new : RecordDecoder (MessageReader Event)) × IsNext d new piece used (out.Fault fault) × (outcome ≡ decoded [] (Some (Failed fault)) used)

-- the concatenated pieces
abbrev pub joined : List (List ℕ) → List ℕ
joined [] = []
joined (piece ∷ pieces) = piece ++ joined pieces

-- no allocation failed
abbrev pub HadMemory : DecodeOutcome → Type 0
HadMemory outcome = outcome.end ≢ Some (Failed NoMemory)
