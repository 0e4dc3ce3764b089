-- The meaning of a step at which a record ended, if the value of the record is not decoded yet.
use Rattle.std.proofs.Common.{◌≡◌, ℕ, ◌<◌, ◌≤◌, List, ◌++◌, length, take, ap, refl, sym, subst}
use Rattle.mes_frame.specs.ChunkState.{ChunkRepresents, remaining_of}
use Rattle.mes_frame.specs.RecordState.{limit_of}
use Rattle.mes_frame.specs.declared.chunk.ChunkState.{ChunkState}
use Rattle.mes_frame.specs.declared.record.RecordState.{RecordState}
use Rattle.mes_stream.specs.Decoding.{ChunkedRepresents}
use Rattle.mes_stream.specs.Framings.{SaysIn}
use Rattle.mes_stream.specs.LineBodies.{LineRepresents}
use Rattle.mes_stream.specs.StreamReaders.{StreamRepresents}
use Rattle.mes_stream.specs.Taking.{BodyRepresents, Reports, record_answer}
use Rattle.mes_stream.specs.declared.record_body.Body.{Body}
use Rattle.mes_stream.specs.declared.chunked_body.ChunkedBody.{ChunkedBody}
use Rattle.mes_stream.specs.declared.line_body.LineBody.{LineBody}
use Rattle.mes_stream.specs.declared.record_error.RecordError.{RecordError}
use Rattle.mes_stream.specs.declared.stream_reader.Framing.{Framing}
use Rattle.mes_stream.specs.declared.stream_reader.Framing.TheVariants.{Plain, Chunked, Lines}
use Rattle.mes_stream.specs.declared.stream_reader.StreamReader.TheVariants as reader
use Rattle.mes_stream.specs.declared.fault.Fault.{Fault}
use Rattle.mes_stream.specs.declared.step.Decoded.{Decoded}
use Rattle.mes_stream.specs.declared.step.Decoded.TheVariants as out
use Rattle.mes_stream.proofs.ChunkLemmas.{run_says}
use Rattle.mes_stream.proofs.DecoderLemmas.{says_as_well}

module _ {R E : Type 0} (holds : R → List ℕ → Type 0) (spells : List ℕ → E → Type 0) (breaks : List ℕ → RecordError → Type 0) (ahead : ℕ) (framing : Framing) where
  -- the meaning of a result does not depend on where the same bytes are cut into w and a piece
  pub tells_as : (Represents : Body R → List ℕ → List E → Type 0) (body : Body R) (limit : ℕ) (w v run rest : List ℕ) (values : List E) (used most : ℕ) (s : Decoded (Unit {0}) Fault)
      → ((after : Body R) (answer : Decoded E Fault) → SaysIn framing (Represents after) spells breaks ahead limit w values run used answer → SaysIn framing (Represents after) spells breaks ahead limit v values rest most answer)
      → Reports holds spells breaks ahead framing Represents body limit w values run used s → Reports holds spells breaks ahead framing Represents body limit v values rest most s
  tells_as Represents body limit w v run rest values used most out.More each h = each body out.More h
  tells_as Represents body limit w v run rest values used most (out.Event done) each (r, kept, fits, so) = (r, kept, fits, λ after answer same ends. each after (record_answer after.done answer) (so after answer same ends))
  tells_as Represents body limit w v run rest values used most out.End each h = each body out.End h
  tells_as Represents body limit w v run rest values used most (out.Fault fault) each h = each body (out.Fault fault) h

  -- the meaning of a result is the same for another reader with the same body
  pub tells_of : (Represents Others : Body R → List ℕ → List E → Type 0) (body : Body R) (limit : ℕ) (w run : List ℕ) (values : List E) (used : ℕ) (s : Decoded (Unit {0}) Fault)
      → ((after : Body R) → after.records ≡ body.records → (v : List ℕ) (vs : List E) → Represents after v vs → Others after v vs)
      → Reports holds spells breaks ahead framing Represents body limit w values run used s → Reports holds spells breaks ahead framing Others body limit w values run used s
  tells_of Represents Others body limit w run values used out.More each h = each body refl _ _ h
  tells_of Represents Others body limit w run values used (out.Event done) each (r, kept, fits, so) =
      (r, kept, fits, λ after answer same ends. says_as_well framing (Represents after) (Others after) spells breaks ahead limit w run values used (record_answer after.done answer) (each after same) (so after answer same ends))
  tells_of Represents Others body limit w run values used out.End each h = h
  tells_of Represents Others body limit w run values used (out.Fault fault) each h = h

module _ {R E : Type 0} (holds : R → List ℕ → Type 0) (spells : List ℕ → E → Type 0) (breaks : List ℕ → RecordError → Type 0) (ahead : ℕ) where
  -- the result of a chunked body for a run of data in a chunk, from the result of its records
  pub run_tells : (d : ChunkedBody R) (chunks : ChunkState) (body : Body R) (w run : List ℕ) (values : List E) (used count : ℕ) (told : Decoded (Unit {0}) Fault) (s : ChunkedRepresents holds spells ahead d w values) → length run ≡ count → count ≤ remaining_of d.chunks
      → 0 < used → used ≤ count → ChunkRepresents chunks (w ++ take used run) (s.content ++ take used run)
      → Reports holds spells breaks ahead Plain (BodyRepresents holds spells ahead) body (limit_of body.records) s.content values run used told
      → Reports holds spells breaks ahead Chunked (λ after. ChunkedRepresents holds spells ahead (record { chunks = chunks; body = after })) body (limit_of body.records) w values run used told
  run_tells d chunks body w run values used count out.More s len remaining some within represents taken =
      run_says holds spells ahead breaks d (record { chunks = chunks; body = body }) w run values used count out.More s len remaining some within represents taken
  run_tells d chunks body w run values used count (out.Event done) s len remaining some within represents (r, kept, fits, so) = (
    r,
    kept,
    fits,
    λ after answer same ends.
        let limit = ap (λ (t : RecordState). limit_of t) same in
        subst (λ (n : ℕ). SaysIn Chunked (ChunkedRepresents holds spells ahead (record { chunks = chunks; body = after })) spells breaks ahead n w values run used (record_answer after.done answer)) limit
        (run_says holds spells ahead breaks d (record { chunks = chunks; body = after }) w run values used count (record_answer after.done answer) s len remaining some within represents
        (subst (λ (n : ℕ). SaysIn Plain (BodyRepresents holds spells ahead after) spells breaks ahead n s.content values run used (record_answer after.done answer)) (sym limit) (so after answer same ends))),
  )
  run_tells d chunks body w run values used count out.End s len remaining some within represents taken = absurd taken
  run_tells d chunks body w run values used count (out.Fault fault) s len remaining some within represents taken =
      run_says holds spells ahead breaks d (record { chunks = chunks; body = body }) w run values used count (out.Fault fault) s len remaining some within represents taken

  -- the result of a reader of plain RecordIO, from the result of its records
  pub plain_tells : (body : Body R) (framing : Framing) (limit : ℕ) (w run : List ℕ) (values : List E) (used : ℕ) (told : Decoded (Unit {0}) Fault) → framing ≡ Plain → limit_of body.records ≡ limit
      → Reports holds spells breaks ahead Plain (BodyRepresents holds spells ahead) body (limit_of body.records) w values run used told
      → Reports holds spells breaks ahead framing (λ after. StreamRepresents holds spells ahead (reader.Plain after) framing limit) body limit w values run used told
  plain_tells body framing limit w run values used told is same h =
      subst (λ (n : ℕ). Reports holds spells breaks ahead framing (λ after. StreamRepresents holds spells ahead (reader.Plain after) framing n) body n w values run used told) same
      (subst (λ (f : Framing). Reports holds spells breaks ahead f (λ after. StreamRepresents holds spells ahead (reader.Plain after) f (limit_of body.records)) body (limit_of body.records) w values run used told) (sym is)
      (tells_of holds spells breaks ahead Plain (BodyRepresents holds spells ahead) (λ after. StreamRepresents holds spells ahead (reader.Plain after) Plain (limit_of body.records)) body (limit_of body.records) w run values used told
      (λ after records v vs represents. (refl, represents, ap (λ (t : RecordState). limit_of t) records)) h))

  pub chunked_tells : (d : ChunkedBody R) (framing : Framing) (limit : ℕ) (w run : List ℕ) (values : List E) (used : ℕ) (told : Decoded (Unit {0}) Fault) → framing ≡ Chunked → limit_of d.body.records ≡ limit
      → Reports holds spells breaks ahead Chunked (λ after. ChunkedRepresents holds spells ahead (record { chunks = d.chunks; body = after })) d.body (limit_of d.body.records) w values run used told
      → Reports holds spells breaks ahead framing (λ after. StreamRepresents holds spells ahead (reader.Chunked (record { chunks = d.chunks; body = after })) framing limit) d.body limit w values run used told
  chunked_tells d framing limit w run values used told is same h =
      subst (λ (n : ℕ). Reports holds spells breaks ahead framing (λ after. StreamRepresents holds spells ahead (reader.Chunked (record { chunks = d.chunks; body = after })) framing n) d.body n w values run used told) same
      (subst (λ (f : Framing). Reports holds spells breaks ahead f (λ after. StreamRepresents holds spells ahead (reader.Chunked (record { chunks = d.chunks; body = after })) f (limit_of d.body.records)) d.body (limit_of d.body.records) w values run used told) (sym is)
      (tells_of holds spells breaks ahead Chunked (λ after. ChunkedRepresents holds spells ahead (record { chunks = d.chunks; body = after })) (λ after. StreamRepresents holds spells ahead (reader.Chunked (record { chunks = d.chunks; body = after })) Chunked (limit_of d.body.records)) d.body (limit_of d.body.records) w run values used told
      (λ after records v vs represents. (refl, represents, ap (λ (t : RecordState). limit_of t) records)) h))

  pub lines_tells : (d : LineBody R) (framing : Framing) (limit : ℕ) (w run : List ℕ) (values : List E) (used : ℕ) (told : Decoded (Unit {0}) Fault) → framing ≡ Lines → d.limit ≡ limit
      → Reports holds spells breaks ahead Lines (λ after. LineRepresents holds spells ahead (record { limit = d.limit; count = d.count; cr = d.cr; line_feeds = d.line_feeds; body = after })) d.body d.limit w values run used told
      → Reports holds spells breaks ahead framing (λ after. StreamRepresents holds spells ahead (reader.Lines (record { limit = d.limit; count = d.count; cr = d.cr; line_feeds = d.line_feeds; body = after })) framing limit) d.body limit w values run used told
  lines_tells d framing limit w run values used told is same h =
      subst (λ (n : ℕ). Reports holds spells breaks ahead framing (λ after. StreamRepresents holds spells ahead (reader.Lines (record { limit = d.limit; count = d.count; cr = d.cr; line_feeds = d.line_feeds; body = after })) framing n) d.body n w values run used told) same
      (subst (λ (f : Framing). Reports holds spells breaks ahead f (λ after. StreamRepresents holds spells ahead (reader.Lines (record { limit = d.limit; count = d.count; cr = d.cr; line_feeds = d.line_feeds; body = after })) f d.limit) d.body d.limit w values run used told) (sym is)
      (tells_of holds spells breaks ahead Lines (λ after. LineRepresents holds spells ahead (record { limit = d.limit; count = d.count; cr = d.cr; line_feeds = d.line_feeds; body = after }))
      (λ after. StreamRepresents holds spells ahead (reader.Lines (record { limit = d.limit; count = d.count; cr = d.cr; line_feeds = d.line_feeds; body = after })) Lines d.limit) d.body d.limit w run values used told (λ after records v vs represents. (refl, represents, refl)) h))
