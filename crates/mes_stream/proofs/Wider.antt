-- An error permitted by one definition of `breaks` is permitted by any wider one.
use Rattle.std.proofs.Common.{◌≡◌, ℕ, ◌-◌, inl, inr, Option, List, [], ◌∷◌, ◌++◌, take, Result, Ok, Err, refl, sym, subst}
use Rattle.std.specs.Prelude.{slice_index}
use Rattle.mes_frame.specs.declared.counts.Counts.{Counts}
use Rattle.mes_frame.specs.declared.fault.FrameFault.TheVariants.{BadChunkLine, ChunkLineTooLong, ChunkTooLarge, BadChunkEnd, TrailersTooLong, BadSizeLine, SizeLineTooLong, RecordTooLarge}
use Rattle.mes_stream.specs.Stream.{EndsRecord, HasValue, BodyShows, RunsOut}
use Rattle.mes_stream.specs.Chunked.{ChunkedShows}
use Rattle.mes_stream.specs.JsonLines.{EndsLine, FailsInLine, LineRunsOut, LinesShow}
use Rattle.mes_stream.specs.Framings.{SaysIn, EndsRecordIn, ByteStopsIn, EndsInput, StopsWithin}
use Rattle.mes_stream.specs.Reading.{Ahead, nothing_ahead, ByteEndsAfter, EndsReading, InputMeans, ReadingTakesAfter, reported_as}
use Rattle.mes_stream.specs.RecordValues.{IsRefused}
use Rattle.mes_stream.specs.Refusals.{fault_at_record}
use Rattle.mes_stream.specs.Taking.{Ends, EndsInto, record_answer}
use Rattle.mes_stream.specs.declared.record_body.Body.{Body}
use Rattle.mes_stream.specs.declared.fault.Fault.{Fault}
use Rattle.mes_stream.specs.declared.fault.Fault.TheVariants.{Frame, EndsInsideChunks, EndsInsideRecord, Text, Field, NoMemory, Read, ReadsSpent, BadEntry}
use Rattle.mes_stream.specs.declared.fault.Report.{Report}
use Rattle.mes_stream.specs.declared.fault.Stop.{Stop}
use Rattle.mes_stream.specs.declared.counted_reader.Reading.{Reading}
use Rattle.mes_stream.specs.declared.counted_reader.ReadingStop.{ReadingStop}
use Rattle.mes_stream.specs.declared.record_error.RecordError.{RecordError}
use Rattle.mes_stream.specs.declared.record_error.RecordError.TheVariants as refusal
use Rattle.mes_stream.specs.declared.stream_reader.Framing.{Framing}
use Rattle.mes_stream.specs.declared.stream_reader.Framing.TheVariants.{Plain, Chunked, Lines}
use Rattle.mes_stream.proofs.BodyLemmas.{ends_runs_out}

module _ {E : Type 0} (spells : List ℕ → E → Type 0) (breaks wide : List ℕ → RecordError → Type 0) (wider : (r : List ℕ) (why : RecordError) → breaks r why → wide r why) where
  ends_wider : (limit : ℕ) (b : List ℕ) (values : List E) (c : ℕ) (why : RecordError) → EndsRecord spells limit b values c (λ r. breaks r why) → EndsRecord spells limit b values c (λ r. wide r why)
  ends_wider limit b values c why h =
      record { whole = h.whole; x = h.x; spelt = h.spelt; records = h.records; is = (h.is.0, h.is.1, wider h.is.0 why h.is.2) }

  body_shows : (ahead limit : ℕ) (b : List ℕ) (values : List E) (c : ℕ) (fault : Fault) → BodyShows spells breaks ahead limit b values c fault → BodyShows spells wide ahead limit b values c fault
  body_shows ahead limit b values c (Frame fault) h = h
  body_shows ahead limit b values c (Text at byte why) h = (ends_wider limit b values c (refusal.Text (record { byte = byte; why = why })) h.0, h.1)
  body_shows ahead limit b values c (Field at path why) h = (ends_wider limit b values c (refusal.Field (record { path = path; why = why })) h.0, h.1)
  body_shows ahead limit b values c EndsInsideChunks h = h
  body_shows ahead limit b values c EndsInsideRecord h = h
  body_shows ahead limit b values c NoMemory h = h
  body_shows ahead limit b values c Read h = h
  body_shows ahead limit b values c ReadsSpent h = h
  body_shows ahead limit b values c (BadEntry at) h = (ends_wider limit b values c refusal.BadEntry h.0, h.1)

  runs_out : (limit : ℕ) (b : List ℕ) (values : List E) (c : ℕ) → RunsOut spells breaks limit b values c → RunsOut spells wide limit b values c
  runs_out limit b values c h =
      record {
        whole = h.whole;
        x = h.x;
        spelt = h.spelt;
        records = h.records;
        is = (h.is.0, h.is.1, h.is.2, wider (h.is.0 ++ c ∷ []) refusal.NoMemory h.is.3);
      }

  chunked_shows : (ahead limit : ℕ) (w : List ℕ) (values : List E) (c : ℕ) (fault : Fault) → ChunkedShows spells breaks ahead limit w values c fault → ChunkedShows spells wide ahead limit w values c fault
  chunked_shows ahead limit w values c (Frame fault) (inl h) = inl h
  chunked_shows ahead limit w values c (Frame fault) (inr h) = inr h
  chunked_shows ahead limit w values c (Text at byte why) (body, before, following, h) = (body, before, following, body_shows ahead limit body values c (Text at byte why) h)
  chunked_shows ahead limit w values c (Field at path why) (body, before, following, h) = (body, before, following, body_shows ahead limit body values c (Field at path why) h)
  chunked_shows ahead limit w values c EndsInsideRecord h = h
  chunked_shows ahead limit w values c EndsInsideChunks h = h
  chunked_shows ahead limit w values c NoMemory h = h
  chunked_shows ahead limit w values c Read h = h
  chunked_shows ahead limit w values c ReadsSpent h = h
  chunked_shows ahead limit w values c (BadEntry at) (body, before, following, h) = (body, before, following, body_shows ahead limit body values c (BadEntry at) h)

  line_wider : (limit : ℕ) (b : List ℕ) (values : List E) (c : ℕ) (why : RecordError) → EndsLine spells limit b values c (λ r. breaks r why) → EndsLine spells limit b values c (λ r. wide r why)
  line_wider limit b values c why (last, h) = (last, record { whole = h.whole; x = h.x; spelt = h.spelt; lines = h.lines; is = (h.is.0, h.is.1, wider h.is.0 why h.is.2) })

  lines_show : (ahead limit : ℕ) (b : List ℕ) (values : List E) (c : ℕ) (fault : Fault) → LinesShow spells breaks ahead limit b values c fault → LinesShow spells wide ahead limit b values c fault
  lines_show ahead limit b values c (Frame RecordTooLarge) h = h
  lines_show ahead limit b values c (Frame BadChunkLine) h = h
  lines_show ahead limit b values c (Frame ChunkLineTooLong) h = h
  lines_show ahead limit b values c (Frame ChunkTooLarge) h = h
  lines_show ahead limit b values c (Frame BadChunkEnd) h = h
  lines_show ahead limit b values c (Frame TrailersTooLong) h = h
  lines_show ahead limit b values c (Frame BadSizeLine) h = h
  lines_show ahead limit b values c (Frame SizeLineTooLong) h = h
  lines_show ahead limit b values c (Text at byte why) h = (line_wider limit b values c (refusal.Text (record { byte = byte; why = why })) h.0, h.1)
  lines_show ahead limit b values c (Field at path why) h = (line_wider limit b values c (refusal.Field (record { path = path; why = why })) h.0, h.1)
  lines_show ahead limit b values c EndsInsideChunks h = h
  lines_show ahead limit b values c EndsInsideRecord h = h
  lines_show ahead limit b values c NoMemory h = h
  lines_show ahead limit b values c Read h = h
  lines_show ahead limit b values c ReadsSpent h = h
  lines_show ahead limit b values c (BadEntry at) h = (line_wider limit b values c refusal.BadEntry h.0, h.1)

  fails_wider : (limit : ℕ) (x : List ℕ) (c : ℕ) → FailsInLine breaks limit x c → FailsInLine wide limit x c
  fails_wider limit x c (inl (within, h)) = inl (within, wider (x ++ c ∷ []) refusal.NoMemory h)
  fails_wider limit x c (inr (r, is, within, h)) = inr (r, is, within, wider x refusal.NoMemory h)

  line_runs_out : (limit : ℕ) (b : List ℕ) (values : List E) (c : ℕ) → LineRunsOut spells breaks limit b values c → LineRunsOut spells wide limit b values c
  line_runs_out limit b values c (inl (next, h)) = inl (next, record { whole = h.whole; x = h.x; spelt = h.spelt; lines = h.lines; is = (h.is.0, fails_wider limit h.x c h.is.1) })
  line_runs_out limit b values c (inr h) = inr (line_wider limit b values c refusal.NoMemory h)

  -- an error detected at the byte c with `breaks` is one with `wide`
  pub stops_wider : (framing : Framing) (ahead limit : ℕ) (w : List ℕ) (values : List E) (c : ℕ) (fault : Fault) → ByteStopsIn framing spells breaks ahead limit w values c fault
      → ByteStopsIn framing spells wide ahead limit w values c fault
  stops_wider Plain ahead limit w values c fault (inl h) = inl (body_shows ahead limit w values c fault h)
  stops_wider Plain ahead limit w values c fault (inr (none, h)) = inr (none, runs_out limit w values c h)
  stops_wider Chunked ahead limit w values c fault (inl h) = inl (chunked_shows ahead limit w values c fault h)
  stops_wider Chunked ahead limit w values c fault (inr (none, (body, before, following, h))) = inr (none, (body, before, following, runs_out limit body values c h))
  stops_wider Lines ahead limit w values c fault (inl h) = inl (lines_show ahead limit w values c fault h)
  stops_wider Lines ahead limit w values c fault (inr (none, h)) = inr (none, line_runs_out limit w values c h)

  input_wider : {T : Type 0} (framing : Framing) (ahead limit : ℕ) (w : List ℕ) (values : List E) (result : Result T Fault) → EndsInput framing spells breaks ahead limit w values result → EndsInput framing spells wide ahead limit w values result
  input_wider Plain ahead limit w values result h = h
  input_wider Chunked ahead limit w values result h = h
  input_wider Lines ahead limit w values (Ok done) h = h
  input_wider Lines ahead limit w values (Err fault) h = stops_wider Lines ahead limit w values 10 fault h

  -- the end of the input with `breaks` is one with `wide`
  pub means_wider : (framing : Framing) (ahead : Ahead) (limit : ℕ) (w : List ℕ) (values : List E) (outcome : Result Report Stop) → InputMeans framing spells breaks ahead limit w values outcome
      → InputMeans framing spells wide ahead limit w values outcome
  means_wider framing ahead limit w values (Ok report) (h, used, rest) = (input_wider {T = Unit {0}} framing ahead.records limit w values (Ok tt) h, used, rest)
  means_wider framing ahead limit w values (Err stop) (h, used) = (input_wider {T = Unit {0}} framing ahead.records limit w values (Err stop.fault) h, used)

  within_wider : (framing : Framing) (ahead limit : ℕ) (w : List ℕ) (values : List E) (fault : Fault) (n : ℕ) → StopsWithin framing spells breaks ahead limit w values fault n
      → StopsWithin framing spells wide ahead limit w values fault n
  within_wider framing ahead limit w values fault n h =
      record { front = h.front; byte = h.byte; rest = h.rest; is = h.is; used = h.used; live = h.live; stops = stops_wider framing ahead limit h.front values h.byte fault h.stops }

  -- the end or error at a byte of the last piece with `breaks` is one with `wide`
  pub byte_ends_wider : (framing : Framing) (ahead : Ahead) (limit : ℕ) (w : List ℕ) (values : List E) (outcome : Result Report Stop) → ByteEndsAfter framing spells breaks ahead limit w values outcome
      → ByteEndsAfter framing spells wide ahead limit w values outcome
  byte_ends_wider framing ahead limit w values (Ok report) h = h
  byte_ends_wider framing ahead limit w values (Err stop) h = record { n = h.n; count = h.count; stops = within_wider framing ahead.records limit w values stop.fault h.n h.stops; last = h.last }

  -- the end of a reading with `breaks` is one with `wide`
  pub reading_wider : (framing : Framing) (limit reads : ℕ) (old new : Counts) (last : Option (List ℕ)) (w : List ℕ) (values : List E) (outcome : Result Report Stop)
      → EndsReading framing spells breaks limit reads old new last w values outcome → EndsReading framing spells wide limit reads old new last w values outcome
  reading_wider framing limit reads old new last w values outcome (inl (h, made)) = inl (byte_ends_wider framing nothing_ahead limit w values outcome h, made)
  reading_wider framing limit reads old new last w values outcome (inr (inl (h, end, asked))) = inr (inl (means_wider framing nothing_ahead limit w values outcome h, end, asked))
  reading_wider framing limit reads old new last w values outcome (inr (inr h)) = inr (inr h)

  -- the result for a piece with `breaks` is one with `wide`
  pub takes_wider : {R T : Type 0} (holds : R → List ℕ → Type 0) (ahead : Ahead) (new : Reading R) (framing : Framing) (limit : ℕ) (w : List ℕ) (values : List E) (piece : List ℕ) (old now : List E) (result : Result T ReadingStop)
      → ReadingTakesAfter holds spells breaks ahead new framing limit w values piece old now result → ReadingTakesAfter holds spells wide ahead new framing limit w values piece old now result
  takes_wider holds ahead new framing limit w values piece old now (Ok done) h = h
  takes_wider holds ahead new framing limit w values piece old now (Err stop) h = (h.0, h.1, byte_ends_wider framing ahead limit (w ++ piece) (values ++ h.0) (reported_as new stop) h.2)

-- a record ends with the byte c, its data have a value, and the list could not grow
lost_in : {E : Type 0} (spells : List ℕ → E → Type 0) (breaks : List ℕ → RecordError → Type 0) (limit : ℕ) (b : List ℕ) (values : List E) (c : ℕ) (value : E)
    → EndsRecord spells limit b values c (HasValue spells value) → RunsOut spells (IsRefused spells breaks) limit b values c
lost_in spells breaks limit b values c value h =
    ends_runs_out spells (IsRefused spells breaks) limit b values c
    (record { whole = h.whole; x = h.x; spelt = h.spelt; records = h.records; is = (h.is.0, h.is.1, (h.is.2.0, inr (refl, (value, h.is.2.1)))) })

lost_at : {E : Type 0} (framing : Framing) (spells : List ℕ → E → Type 0) (breaks : List ℕ → RecordError → Type 0) (ahead limit : ℕ) (w : List ℕ) (values : List E) (c : ℕ) (value : E)
    → EndsRecordIn framing spells limit w values c value → ByteStopsIn framing spells (IsRefused spells breaks) ahead limit w values c NoMemory
lost_at Plain spells breaks ahead limit w values c value h = inr (refl, lost_in spells breaks limit w values c value h)
lost_at Chunked spells breaks ahead limit w values c value (body, before, following, h) = inr (refl, (body, before, following, lost_in spells breaks limit body values c value h))
lost_at Lines spells breaks ahead limit w values c value (last, h) =
    inr (refl, inr (last, record { whole = h.whole; x = h.x; spelt = h.spelt; lines = h.lines; is = (h.is.0, h.is.1, inr (refl, (value, h.is.2.1))) }))

-- a record has ended whose value was not appended to a list
pub refused_into : {R E : Type 0} (holds : R → List ℕ → Type 0) (spells : List ℕ → E → Type 0) (breaks : List ℕ → RecordError → Type 0) (framing : Framing) (ahead limit : ℕ) (Represents : Body R → List ℕ → List E → Type 0)
    (w : List ℕ) (values : List E) (piece : List ℕ) (used : ℕ) (old new : Body R) (r : List ℕ) (before after : List E) (why : RecordError) → new.records ≡ old.records
    → ((now : Body R) (answer : Result E RecordError) → now.records ≡ old.records → Ends holds spells breaks old now r answer → SaysIn framing (Represents now) spells breaks ahead limit w values piece used (record_answer now.done answer))
    → EndsInto {T = Unit {0}} holds spells breaks old new r before after (Err why)
    → ByteStopsIn framing spells (IsRefused spells breaks) ahead limit (w ++ take (used - 1) piece) values (slice_index piece (used - 1)) (fault_at_record new.done why)
refused_into holds spells breaks framing ahead limit Represents w values piece used old new r before after why same so (inl ends, is) =
    stops_wider spells breaks (IsRefused spells breaks) (λ q f h. inl h) framing ahead limit (w ++ take (used - 1) piece) values (slice_index piece (used - 1)) (fault_at_record new.done why) (so new (Err why) same ends)
refused_into holds spells breaks framing ahead limit Represents w values piece used old new r before after why same so (inr (none, (value, ends)), is) =
    subst (λ (f : RecordError). ByteStopsIn framing spells (IsRefused spells breaks) ahead limit (w ++ take (used - 1) piece) values (slice_index piece (used - 1)) (fault_at_record new.done f)) (sym none)
    (lost_at framing spells breaks ahead limit (w ++ take (used - 1) piece) values (slice_index piece (used - 1)) value (so new (Ok value) same ends).1)
