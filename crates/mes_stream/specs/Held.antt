-- The number of bytes of records that a reader buffers: the sum over all its fields. Each
-- definition names every field, so a new field needs a term here.
use Rattle.std.specs.Prelude.{ℕ, ◌+◌}
use Rattle.mes_stream.specs.declared.record_body.Body.{Body}
use Rattle.mes_stream.specs.declared.chunked_body.ChunkedBody.{ChunkedBody}
use Rattle.mes_stream.specs.declared.line_body.LineBody.{LineBody}
use Rattle.mes_stream.specs.declared.decoder.RecordDecoder.{RecordDecoder}
use Rattle.mes_stream.specs.declared.decoder.State.{State}
use Rattle.mes_stream.specs.declared.decoder.State.TheVariants as state
use Rattle.mes_stream.specs.declared.counted_reader.Reading.{Reading}
use Rattle.mes_stream.specs.declared.stream_reader.StreamReader.{StreamReader}
use Rattle.mes_stream.specs.declared.stream_reader.StreamReader.TheVariants as reader

-- a field of fixed size, which buffers no byte of a record, such as a number or an allocator
abbrev pub fixed : {A : Type 0} → A → ℕ
fixed field = 0

-- the buffered bytes of a value of each type; `kept` gives those of the reader of records
abbrev pub held_by_body : {R : Type 0} → (R → ℕ) → Body R → ℕ
held_by_body kept d = let record { records = records; reader = inner; done = done } = d in fixed records + kept inner + fixed done

abbrev pub held_by_chunked : {R : Type 0} → (R → ℕ) → ChunkedBody R → ℕ
held_by_chunked kept d = let record { chunks = chunks; body = body } = d in fixed chunks + held_by_body kept body

abbrev pub held_by_lines : {R : Type 0} → (R → ℕ) → LineBody R → ℕ
held_by_lines kept d =
    let record { limit = limit; count = count; cr = cr; line_feeds = line_feeds; body = body } = d in
    fixed limit + fixed count + fixed cr + fixed line_feeds + held_by_body kept body

abbrev pub held_by_stream : {R : Type 0} → (R → ℕ) → StreamReader R → ℕ
held_by_stream kept (reader.Plain body) = held_by_body kept body
held_by_stream kept (reader.Chunked chunked) = held_by_chunked kept chunked
held_by_stream kept (reader.Lines lines) = held_by_lines kept lines

abbrev pub held_by_state : {R : Type 0} → (R → ℕ) → State R → ℕ
held_by_state kept (state.Going stream) = held_by_stream kept stream
held_by_state kept (state.Ended end) = fixed end

abbrev pub held_by_decoder : {R : Type 0} → (R → ℕ) → RecordDecoder R → ℕ
held_by_decoder kept d = let record { state = now } = d in held_by_state kept now

abbrev pub held_by_reading : {R : Type 0} → (R → ℕ) → Reading R → ℕ
held_by_reading kept d = let record { stream = stream; used = used; rest = rest } = d in held_by_stream kept stream + fixed used + fixed rest
