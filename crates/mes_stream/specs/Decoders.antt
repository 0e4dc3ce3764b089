-- The state of a decoder of a chunked stream, and what it may buffer.
use Rattle.std.specs.Prelude.{◌≡◌, ℕ, ◌≤◌, ◌⊎◌, List, [], ◌∷◌, ◌++◌, Option, None, Some, Result, Ok, Err}
use Rattle.mes_frame.specs.ChunkFront.{IsOpen}
use Rattle.mes_frame.specs.Record.{Begun}
use Rattle.mes_stream.specs.JsonLines.{LinesThen}
use Rattle.mes_stream.specs.LineRecord.{LineBegun}
use Rattle.mes_stream.specs.Stream.{Following}
use Rattle.mes_stream.specs.StreamReaders.{StreamRepresents}
use Rattle.mes_stream.specs.declared.stream_reader.Framing.{Framing}
use Rattle.mes_stream.specs.declared.stream_reader.Framing.TheVariants.{Plain, Chunked, Lines}
use Rattle.mes_stream.specs.declared.fault.Fault.{Fault}
use Rattle.mes_stream.specs.declared.fault.Fault.TheVariants.{EndsInsideChunks}
use Rattle.mes_stream.specs.declared.decoder.RecordDecoder.{RecordDecoder}
use Rattle.mes_stream.specs.declared.decoder.State.{State}
use Rattle.mes_stream.specs.declared.decoder.State.TheVariants as state
use Rattle.mes_stream.specs.declared.decoder.StreamEnd.{StreamEnd}
use Rattle.mes_stream.specs.declared.decoder.StreamEnd.TheVariants.{Closed, Failed}
use Rattle.mes_stream.specs.declared.step.Decoded.{Decoded}
use Rattle.mes_stream.specs.declared.step.Decoded.TheVariants as out

abbrev pub end_at : {R : Type 0} → State R → Option StreamEnd
end_at (state.Going stream) = None
end_at (state.Ended end) = Some end

-- how the stream of the decoder ended, if it has ended
abbrev pub end_of : {R : Type 0} → RecordDecoder R → Option StreamEnd
end_of d = end_at d.state

abbrev pub DecoderStateRepresents : {R E : Type 0} → (R → List ℕ → Type 0) → (List ℕ → E → Type 0) → State R → ℕ → List ℕ → List E → Type 0
DecoderStateRepresents holds spells (state.Going stream) limit w values = StreamRepresents holds spells 0 stream Chunked limit w values
DecoderStateRepresents holds spells (state.Ended end) limit w values = ⊥

-- The decoder has consumed w, a prefix of a stream with the values. This is false after the end or
-- an error.
abbrev pub DecoderRepresents : {R E : Type 0} → (R → List ℕ → Type 0) → (List ℕ → E → Type 0) → RecordDecoder R → ℕ → List ℕ → List E → Type 0
DecoderRepresents holds spells d limit w values = DecoderStateRepresents holds spells d.state limit w values

-- the result of every call of `next` after the end or the error
abbrev pub answer_of : {E : Type 0} → StreamEnd → Decoded E Fault
answer_of Closed = out.End
answer_of (Failed fault) = out.Fault fault

-- the result of `finish`, from how the stream ended
abbrev pub finish_of : Option StreamEnd → Result (Unit {0}) Fault
finish_of None = Err EndsInsideChunks
finish_of (Some Closed) = Ok tt
finish_of (Some (Failed fault)) = Err fault

-- the decoder remembers `end` after it returned the result
abbrev pub EndsBy : {E : Type 0} → Option StreamEnd → Decoded E Fault → Type 0
EndsBy end out.More = end ≡ None
EndsBy end (out.Event value) = end ≡ None
EndsBy end out.End = end ≡ Some Closed
EndsBy end (out.Fault fault) = end ≡ Some (Failed fault)

-- n is at most the bound that `remaining` gives for the data of the incomplete record at the end of b
abbrev pub HoldsInBody : {E : Type 0} → (List ℕ → E → Type 0) → (List ℕ → ℕ) → ℕ → List ℕ → List E → ℕ → Type 0
HoldsInBody spells max_held limit b values n = Following spells limit (λ x. (r : List ℕ) × Begun x r limit × (n ≤ max_held r)) b values

abbrev pub HoldsOf : {E : Type 0} → (List ℕ → E → Type 0) → (List ℕ → ℕ) → ℕ → List ℕ → List E → ℕ → Type 0
HoldsOf spells max_held limit w values n = (body : List ℕ) × IsOpen w body × HoldsInBody spells max_held limit body values n

-- like `HoldsInBody`, for the incomplete line, perhaps without a CR at its end
abbrev pub HoldsInLine : {E : Type 0} → (List ℕ → E → Type 0) → (List ℕ → ℕ) → ℕ → List ℕ → List E → ℕ → Type 0
HoldsInLine spells max_held limit w values n =
    LinesThen spells limit (λ x. (r : List ℕ) × LineBegun x limit × ((x ≡ r ++ 13 ∷ []) ⊎ (x ≡ r)) × (n ≤ max_held r)) w values

-- like `HoldsInBody`, for a stream of any framing
abbrev pub HoldsIn : {E : Type 0} → Framing → (List ℕ → E → Type 0) → (List ℕ → ℕ) → ℕ → List ℕ → List E → ℕ → Type 0
HoldsIn Plain spells max_held limit w values n = HoldsInBody spells max_held limit w values n
HoldsIn Chunked spells max_held limit w values n = HoldsOf spells max_held limit w values n
HoldsIn Lines spells max_held limit w values n = HoldsInLine spells max_held limit w values n
