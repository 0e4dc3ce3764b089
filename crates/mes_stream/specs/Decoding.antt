-- The state of a reader of a chunked stream, and the meaning of a step.
use Rattle.std.specs.Prelude.{◌≡◌, ℕ, ◌<◌, ◌≤◌, List, [], ◌∷◌, ◌++◌, length, take, slice_index}
use Rattle.mes_frame.specs.ChunkFront.{IsOpen}
use Rattle.mes_frame.specs.ChunkState.{ChunkRepresents}
use Rattle.mes_frame.specs.declared.chunk.ChunkState.{ChunkState}
use Rattle.mes_stream.specs.Framings.{SaysIn, GoesBefore}
use Rattle.mes_frame.specs.RecordState.{limit_of}
use Rattle.mes_stream.specs.Taking.{BodyRepresents, Reports}
use Rattle.mes_stream.specs.declared.chunked_body.ChunkedBody.{ChunkedBody}
use Rattle.mes_stream.specs.declared.fault.Fault.{Fault}
use Rattle.mes_stream.specs.declared.record_error.RecordError.{RecordError}
use Rattle.mes_stream.specs.declared.stream_reader.Framing.TheVariants.{Chunked}
use Rattle.mes_stream.specs.declared.step.Decoded.{Decoded}

-- The reader has consumed w. The data of w are records of the values, and perhaps a part of one
-- more record.
pub record ChunkedRepresents {R E : Type 0} (holds : R → List ℕ → Type 0) (spells : List ℕ → E → Type 0) (ahead : ℕ) (d : ChunkedBody R) (w : List ℕ) (values : List E) : Type 0 where
  pub content : List ℕ
  pub chunks : ChunkRepresents d.chunks w content
  pub body : BodyRepresents holds spells ahead d.body content values

-- the byte at the index `at` of the piece is data; `run` is the data of the piece before that byte
pub record IsDataAt (w body piece run : List ℕ) (at : ℕ) : Type 0 where
  pub front : IsOpen (w ++ take at piece) (body ++ run)
  pub next : IsOpen ((w ++ take at piece) ++ slice_index piece at ∷ []) ((body ++ run) ++ slice_index piece at ∷ [])

-- `used` bytes of the piece were consumed after w; `run` is the data in these bytes, and `places`
-- has the index in the piece of each byte of `run`
pub record Gathers (new : ChunkState) (w body piece : List ℕ) (used : ℕ) (run places : List ℕ) : Type 0 where
  pub represents : ChunkRepresents new (w ++ take used piece) (body ++ run)
  pub fronts : (n : ℕ) → n ≤ used → (d : List ℕ) × (length d ≤ length run) × IsOpen (w ++ take n piece) (body ++ d)
  pub each : (k : ℕ) → k < length run → IsDataAt w body piece (take k run) (slice_index places k)
  pub same : (k : ℕ) → k < length run → slice_index piece (slice_index places k) ≡ slice_index run k

-- the meaning of a step in a chunked stream
abbrev pub Says : {E : Type 0} → (List ℕ → List E → Type 0) → (List ℕ → E → Type 0) → (List ℕ → RecordError → Type 0) → ℕ → List ℕ → List E → List ℕ → ℕ → Decoded E Fault → Type 0
Says Represents spells breaks limit w values piece used answer = SaysIn Chunked Represents spells breaks 0 limit w values piece used answer

-- before the last byte used no record ends, and there is no error
abbrev pub LiveBefore : {E : Type 0} → (List ℕ → E → Type 0) → ℕ → List ℕ → List E → List ℕ → ℕ → Type 0
LiveBefore spells limit w values piece used = GoesBefore Chunked spells limit w values piece used

-- a step in a chunked stream: `old` consumed the first `used` bytes of the piece and became `new`
abbrev pub ChunkedStep : {R E : Type 0} → (R → List ℕ → Type 0) → (List ℕ → E → Type 0) → (List ℕ → RecordError → Type 0) → ChunkedBody R → ChunkedBody R → List ℕ → ℕ → Decoded (Unit {0}) Fault → Type 0
ChunkedStep {E = E} holds spells breaks old new piece used out =
    (ahead : ℕ) (w : List ℕ) (values : List E) → ChunkedRepresents holds spells ahead old w values
    → Reports holds spells breaks ahead Chunked (λ body. ChunkedRepresents holds spells ahead (record { chunks = new.chunks; body = body })) new.body (limit_of new.body.records) w values piece used out

-- before the last byte that such a step used, no record ends, and there is no error
abbrev pub StaysLive : {R E : Type 0} → (R → List ℕ → Type 0) → (List ℕ → E → Type 0) → ChunkedBody R → ChunkedBody R → List ℕ → ℕ → Type 0
StaysLive {E = E} holds spells old new piece used =
    (ahead : ℕ) (w : List ℕ) (values : List E) → ChunkedRepresents holds spells ahead old w values → LiveBefore spells (limit_of new.body.records) w values piece used
