-- The state of a reader of a stream, and the meaning of a step.
use Rattle.std.specs.Prelude.{◌≡◌, ℕ, ◌+◌, ◌<◌, List, ◌++◌, length, take, Result, Ok, Err}
use Rattle.mes_frame.specs.RecordState.{limit_of}
use Rattle.mes_stream.specs.Taking.{BodyRepresents}
use Rattle.mes_stream.specs.Decoding.{ChunkedRepresents}
use Rattle.mes_stream.specs.LineBodies.{LineRepresents}
use Rattle.mes_stream.specs.Framings.{EndsIn, StopsWithin}
use Rattle.mes_stream.specs.declared.record_body.Body.{Body}
use Rattle.mes_stream.specs.declared.fault.Fault.{Fault}
use Rattle.mes_stream.specs.declared.record_error.RecordError.{RecordError}
use Rattle.mes_stream.specs.declared.stream_reader.Framing.{Framing}
use Rattle.mes_stream.specs.declared.stream_reader.Framing.TheVariants.{Plain, Chunked, Lines}
use Rattle.mes_stream.specs.declared.stream_reader.StreamReader.{StreamReader}
use Rattle.mes_stream.specs.declared.stream_reader.StreamReader.TheVariants as reader
use Rattle.mes_stream.specs.declared.step.Decoded.{Decoded}
use Rattle.mes_stream.specs.declared.step.Decoded.TheVariants as out

-- the body of a reader, and the same reader with another body
abbrev pub body_of : {R : Type 0} → StreamReader R → Body R
body_of (reader.Plain body) = body
body_of (reader.Chunked chunked) = chunked.body
body_of (reader.Lines lines) = lines.body

abbrev pub with_body : {R : Type 0} → StreamReader R → Body R → StreamReader R
with_body (reader.Plain body) after = reader.Plain after
with_body (reader.Chunked chunked) after = reader.Chunked (record { chunks = chunked.chunks; body = after })
with_body (reader.Lines lines) after = reader.Lines (record { limit = lines.limit; count = lines.count; cr = lines.cr; line_feeds = lines.line_feeds; body = after })

-- The reader decodes the given framing, and has consumed w, a prefix of a stream with the values.
-- This does not hold after the end or an error.
abbrev pub StreamRepresents : {R E : Type 0} → (R → List ℕ → Type 0) → (List ℕ → E → Type 0) → ℕ → StreamReader R → Framing → ℕ → List ℕ → List E → Type 0
StreamRepresents holds spells ahead (reader.Plain body) framing limit w values = (framing ≡ Plain) × BodyRepresents holds spells ahead body w values × (limit_of body.records ≡ limit)
StreamRepresents holds spells ahead (reader.Chunked chunked) framing limit w values =
    (framing ≡ Chunked) × ChunkedRepresents holds spells ahead chunked w values × (limit_of chunked.body.records ≡ limit)
StreamRepresents holds spells ahead (reader.Lines lines) framing limit w values = (framing ≡ Lines) × LineRepresents holds spells ahead lines w values × (lines.limit ≡ limit)

-- The result of `feed` for a piece after w. The values of the records that ended in the piece were
-- appended to the list `old`, so that no result is an event.
abbrev pub StreamFeeds : {R E V : Type 0} → (R → List ℕ → Type 0) → (List ℕ → E → Type 0) → (List ℕ → RecordError → Type 0) → ℕ → StreamReader R → Framing → ℕ → List ℕ → List E → List ℕ → List E → List E → ℕ → Decoded V Fault → Type 0
StreamFeeds {E = E} holds spells breaks ahead new framing limit w values piece old now used out.More =
    (more : List E) × (now ≡ old ++ more) × StreamRepresents holds spells ahead new framing limit (w ++ piece) (values ++ more)
StreamFeeds holds spells breaks ahead new framing limit w values piece old now used (out.Event value) = ⊥
StreamFeeds {E = E} holds spells breaks ahead new framing limit w values piece old now used out.End =
    (more : List E) × (now ≡ old ++ more) × (0 < used) × EndsIn framing spells limit (w ++ take used piece) (values ++ more)
StreamFeeds {E = E} holds spells breaks ahead new framing limit w values piece old now used (out.Fault fault) =
    (more : List E) × (now ≡ old ++ more) × (0 < used)
    × StopsWithin framing spells breaks ahead limit (w ++ piece) (values ++ more) fault (length w + used)

-- nothing is buffered if the result of a step is the end or an error, or if a reading has stopped
abbrev pub KeepsNoneAfterAnswer : {E : Type 0} → ℕ → Decoded E Fault → Type 0
KeepsNoneAfterAnswer kept out.More = Unit {0}
KeepsNoneAfterAnswer kept (out.Event value) = Unit {0}
KeepsNoneAfterAnswer kept out.End = kept ≡ 0
KeepsNoneAfterAnswer kept (out.Fault fault) = kept ≡ 0

abbrev pub KeepsNoneAfterStop : {A B : Type 0} → ℕ → Result A B → Type 0
KeepsNoneAfterStop kept (Ok more) = Unit {0}
KeepsNoneAfterStop kept (Err stop) = kept ≡ 0
