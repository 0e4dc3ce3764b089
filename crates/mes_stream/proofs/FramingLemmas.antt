-- The state of a reader of a chunked body after framing bytes.
use Rattle.std.proofs.Common.{◌≡◌, ℕ, List, ◌++◌, take, arith}
use Rattle.mes_frame.specs.ChunkState.{ChunkRepresents, PassesFraming}
use Rattle.mes_frame.specs.declared.chunk.ChunkState.{ChunkState}
use Rattle.mes_frame.specs.RecordState.{limit_of}
use Rattle.mes_stream.specs.Decoding.{ChunkedRepresents, LiveBefore}
use Rattle.mes_stream.specs.declared.chunked_body.ChunkedBody.{ChunkedBody}
use Rattle.mes_stream.proofs.BodyLemmas.{live_of}

module _ {R E : Type 0} (holds : R → List ℕ → Type 0) (spells : List ℕ → E → Type 0) (ahead : ℕ) where
  -- the state of the reader after framing bytes
  pub framed_stands : (d : ChunkedBody R) (chunks : ChunkState) (w rest : List ℕ) (values : List E) (count : ℕ)
      → ((w body : List ℕ) → ChunkRepresents d.chunks w body → PassesFraming chunks w body rest count)
      → ChunkedRepresents holds spells ahead d w values → ChunkedRepresents holds spells ahead (record { chunks = chunks; body = d.body }) (w ++ take count rest) values
  framed_stands d chunks w rest values count passes s = record { content = s.content; chunks = (passes w s.content s.chunks).0; body = s.body }

  pub framed_live : (d : ChunkedBody R) (chunks : ChunkState) (w rest : List ℕ) (values : List E) (count : ℕ)
      → ((w body : List ℕ) → ChunkRepresents d.chunks w body → PassesFraming chunks w body rest count)
      → ChunkedRepresents holds spells ahead d w values → LiveBefore spells (limit_of d.body.records) w values rest count
  framed_live d chunks w rest values count passes s n early =
      (s.content, (passes w s.content s.chunks).1 n (omega (arith, early)), live_of holds spells ahead d.body s.content values s.body)

  -- the state of the reader is unchanged if no framing byte was consumed
  pub none_framed : (d : ChunkedBody R) (chunks : ChunkState) (w : List ℕ) (values : List E) → chunks ≡ d.chunks
      → ChunkedRepresents holds spells ahead d w values → ChunkedRepresents holds spells ahead (record { chunks = chunks; body = d.body }) w values
  none_framed d chunks w values same s = record { content = s.content; chunks = rw same s.chunks; body = s.body }
