-- The state of a reader of a chunked stream after each prefix of a piece.
use Rattle.std.proofs.Common.{◌≡◌, ℕ, ◌+◌, ◌-◌, ◌<◌, ◌≤◌, List, [], ◌∷◌, ◌++◌, length, take, drop, get_or, sym, ◌∙◌, ap, append_assoc, append-nil, arith, refl, subst, inl, inr}
use Rattle.std.specs.Prelude.{slice_index}
use Rattle.std.proofs.lemmas.List.{take_more}
use Rattle.std.proofs.lemmas.Grind.{common_steps}
use Rattle.std.proofs.lemmas.Bool.{cases_lt}
use Rattle.mes_frame.proofs.ChunkParts.{open_of, fronts_of}
use Rattle.mes_frame.specs.ChunkFront.{IsOpen}
use Rattle.mes_frame.specs.ChunkState.{ChunkRepresents, remaining_of}
use Rattle.mes_stream.specs.declared.record_error.RecordError.{RecordError}
use Rattle.mes_stream.specs.Stream.{BodyLive, EndsRecord, HasValue, BodyShows, BodyStops}
use Rattle.mes_stream.specs.Chunked.{Live, AtData, ChunkedShows, ChunkedStops}
use Rattle.mes_frame.specs.RecordState.{limit_of}
use Rattle.mes_stream.specs.Framings.{GoesIn, EndsIn, EndsRecordIn, ByteStopsIn, SaysIn, GoesBefore}
use Rattle.mes_stream.specs.Taking.{BodyRepresents}
use Rattle.mes_stream.specs.Decoding.{ChunkedRepresents}
use Rattle.mes_stream.specs.declared.fault.Fault.{Fault}
use Rattle.mes_stream.specs.declared.fault.Fault.TheVariants.{Frame, EndsInsideChunks, EndsInsideRecord, Text, Field, NoMemory, Read, ReadsSpent, BadEntry}
use Rattle.mes_stream.specs.declared.chunked_body.ChunkedBody.{ChunkedBody}
use Rattle.mes_stream.specs.declared.stream_reader.Framing.{Framing}
use Rattle.mes_stream.specs.declared.stream_reader.Framing.TheVariants.{Plain, Chunked}
use Rattle.mes_stream.specs.declared.step.Decoded.{Decoded}
use Rattle.mes_stream.specs.declared.step.Decoded.TheVariants as out
use Rattle.mes_stream.proofs.BodyLemmas.{live_of, piece_on}

pub take_whole : (piece : List ℕ) (used : ℕ) → used ≡ length piece → take used piece ≡ piece
take_whole piece used all = grind (arith, common_steps)

-- an error detected at a byte of the body's data is an error of the stream
pub shows_data : {E : Type 0} (spells : List ℕ → E → Type 0) (breaks : List ℕ → RecordError → Type 0) (ahead limit : ℕ) (w body : List ℕ) (values : List E) (c : ℕ) (fault : Fault)
    → IsOpen w body → IsOpen (w ++ c ∷ []) (body ++ c ∷ []) → BodyShows spells breaks ahead limit body values c fault → ChunkedShows spells breaks ahead limit w values c fault
shows_data spells breaks ahead limit w body values c (Frame f) before following h = inr (body, before, following, h)
shows_data spells breaks ahead limit w body values c (Text at byte why) before following h = (body, before, following, h)
shows_data spells breaks ahead limit w body values c (Field at path why) before following h = (body, before, following, h)
shows_data spells breaks ahead limit w body values c EndsInsideChunks before following h = absurd h
shows_data spells breaks ahead limit w body values c EndsInsideRecord before following h = absurd h
shows_data spells breaks ahead limit w body values c NoMemory before following h = absurd h
shows_data spells breaks ahead limit w body values c Read before following h = absurd h
shows_data spells breaks ahead limit w body values c ReadsSpent before following h = absurd h
shows_data spells breaks ahead limit w body values c (BadEntry at_record) before following h = (body, before, following, h)

pub stops_data : {E : Type 0} (spells : List ℕ → E → Type 0) (breaks : List ℕ → RecordError → Type 0) (ahead limit : ℕ) (w body : List ℕ) (values : List E) (c : ℕ) (fault : Fault)
    → IsOpen w body → IsOpen (w ++ c ∷ []) (body ++ c ∷ []) → BodyStops spells breaks ahead limit body values c fault → ChunkedStops spells breaks ahead limit w values c fault
stops_data spells breaks ahead limit w body values c fault before following stops = elim stops [
  | inl h ↦ inl (shows_data spells breaks ahead limit w body values c fault before following h)
  | inr h ↦ inr (h.0, (body, before, following, h.1))
]

module _ {R E : Type 0} (holds : R → List ℕ → Type 0) (spells : List ℕ → E → Type 0) (ahead : ℕ) where
  -- the bytes w that a reader has consumed are a prefix of a stream
  pub chunked_live : (d : ChunkedBody R) (w : List ℕ) (values : List E) → ChunkedRepresents holds spells ahead d w values → Live spells (limit_of d.body.records) w values
  chunked_live d w values s = (s.content, open_of d.chunks w s.content s.chunks, live_of holds spells ahead d.body s.content values s.body)

  -- the consumed bytes before a piece are a prefix of a stream
  pub first_before : (d : ChunkedBody R) (w rest : List ℕ) (values : List E) (n : ℕ) → ChunkedRepresents holds spells ahead d w values → n < 1
      → Live spells (limit_of d.body.records) (w ++ take n rest) values
  first_before d w rest values n s first =
      let none : 0 ≡ n = omega arith in
      subst (λ (m : ℕ). Live spells (limit_of d.body.records) (w ++ take m rest) values) none (rw (append-nil w) (chunked_live d w values s))

  -- the bytes up to a byte of data in a chunk are a prefix of a stream
  pub run_before : (d : ChunkedBody R) (limit : ℕ) (w run : List ℕ) (values : List E) (n count : ℕ) (s : ChunkedRepresents holds spells ahead d w values) → length run ≡ count → count ≤ remaining_of d.chunks → n ≤ count
      → BodyLive spells limit (s.content ++ take n run) values → Live spells limit (w ++ take n run) values
  run_before d limit w run values n count s len remaining within live =
      (s.content ++ take n run, fronts_of d.chunks w s.content run n count remaining len within s.chunks, live)

  -- a byte of data in a chunk is a byte of the body: `AtData` holds for it
  pub run_at : (d : ChunkedBody R) (w run : List ℕ) (values : List E) (used count : ℕ) (Is : List ℕ → List E → Type 0) (s : ChunkedRepresents holds spells ahead d w values) → length run ≡ count → count ≤ remaining_of d.chunks
      → 0 < used → used ≤ count → Is (s.content ++ take (used - 1) run) values → AtData Is (w ++ take (used - 1) run) values (slice_index run (used - 1))
  run_at d w run values used count Is s len remaining some within is =
      let fronts : (n : ℕ) → n ≤ count → IsOpen (w ++ take n run) (s.content ++ take n run) = λ n inside. fronts_of d.chunks w s.content run n count remaining len inside s.chunks in
      let sum : used ≡ (used - 1) + 1 = omega (arith, some) in
      let more : take used run ≡ take (used - 1) run ++ slice_index run (used - 1) ∷ [] =
      ap (λ (n : ℕ). take n run) sum ∙ take_more run (used - 1) 0 (omega (arith, some, within, len)) in
      let join : (u : List ℕ) → u ++ take used run ≡ (u ++ take (used - 1) run) ++ slice_index run (used - 1) ∷ [] =
      λ u. ap (λ (y : List ℕ). u ++ y) more ∙ sym (append_assoc u (take (used - 1) run) (slice_index run (used - 1) ∷ [])) in (
        s.content ++ take (used - 1) run,
        fronts (used - 1) (omega (arith, within)),
        subst (λ (y : List ℕ). IsOpen y ((s.content ++ take (used - 1) run) ++ slice_index run (used - 1) ∷ [])) (join w)
            (subst (λ (y : List ℕ). IsOpen (w ++ take used run) y) (join s.content) (fronts used within)),
        is,
      )

  module _ (breaks : List ℕ → RecordError → Type 0) where
    -- an error is detected in a run of data
    run_stops : (d : ChunkedBody R) (limit : ℕ) (w run : List ℕ) (values : List E) (used count : ℕ) (fault : Fault) (s : ChunkedRepresents holds spells ahead d w values) → length run ≡ count → count ≤ remaining_of d.chunks
        → 0 < used → used ≤ count → BodyStops spells breaks ahead limit (s.content ++ take (used - 1) run) values (slice_index run (used - 1)) fault
        → ChunkedStops spells breaks ahead limit (w ++ take (used - 1) run) values (slice_index run (used - 1)) fault
    run_stops d limit w run values used count fault s len remaining some within stops =
        let at = run_at d w run values used count (λ body vs. BodyStops spells breaks ahead limit body vs (slice_index run (used - 1)) fault) s len remaining some within stops in
        stops_data spells breaks ahead limit (w ++ take (used - 1) run) at.0 values (slice_index run (used - 1)) fault at.1 at.2 at.3

    -- the result of the stream for data in a chunk, from the result of the body
    pub run_says : (d new : ChunkedBody R) (w run : List ℕ) (values : List E) (used count : ℕ) (answer : Decoded E Fault) (s : ChunkedRepresents holds spells ahead d w values) → length run ≡ count → count ≤ remaining_of d.chunks
        → 0 < used → used ≤ count → ChunkRepresents new.chunks (w ++ take used run) (s.content ++ take used run)
        → SaysIn Plain (BodyRepresents holds spells ahead new.body) spells breaks ahead (limit_of new.body.records) s.content values run used answer → SaysIn Chunked (ChunkedRepresents holds spells ahead new) spells breaks ahead (limit_of new.body.records) w values run used answer
    run_says d new w run values used count out.More s len remaining some within chunks taken =
        record { content = s.content ++ take used run; chunks = chunks; body = taken }
    run_says d new w run values used count (out.Event value) s len remaining some within chunks taken = (
      record { content = s.content ++ take used run; chunks = chunks; body = taken.0 },
      run_at d w run values used count (λ body vs. EndsRecord spells (limit_of new.body.records) body vs (slice_index run (used - 1)) (HasValue spells value)) s len remaining some within taken.1,
    )
    run_says d new w run values used count out.End s len remaining some within chunks taken = absurd taken
    run_says d new w run values used count (out.Fault fault) s len remaining some within chunks taken =
        run_stops d (limit_of new.body.records) w run values used count fault s len remaining some within taken

module _ {E : Type 0} (framing : Framing) (Represents : List ℕ → List E → Type 0) (spells : List ℕ → E → Type 0) (breaks : List ℕ → RecordError → Type 0) (ahead limit : ℕ) where
  -- the meaning of a result does not depend on where the same bytes are cut into w and a piece
  pub says_as : (w v run rest : List ℕ) (values : List E) (used most : ℕ) (answer : Decoded E Fault) → w ++ take used run ≡ v ++ take most rest → w ++ take (used - 1) run ≡ v ++ take (most - 1) rest
      → slice_index run (used - 1) ≡ slice_index rest (most - 1) → SaysIn framing Represents spells breaks ahead limit w values run used answer → SaysIn framing Represents spells breaks ahead limit v values rest most answer
  says_as w v run rest values used most out.More same front last h = subst (λ (y : List ℕ). Represents y values) same h
  says_as w v run rest values used most (out.Event value) same front last h = (
    subst (λ (y : List ℕ). Represents y (values ++ value ∷ [])) same h.0,
    subst (λ (y : List ℕ). EndsRecordIn framing spells limit y values (slice_index rest (most - 1)) value) front
        (subst (λ (c : ℕ). EndsRecordIn framing spells limit (w ++ take (used - 1) run) values c value) last h.1),
  )
  says_as w v run rest values used most out.End same front last h = subst (λ (y : List ℕ). EndsIn framing spells limit y values) same h
  says_as w v run rest values used most (out.Fault fault) same front last h =
      subst (λ (y : List ℕ). ByteStopsIn framing spells breaks ahead limit y values (slice_index rest (most - 1)) fault) front
      (subst (λ (c : ℕ). ByteStopsIn framing spells breaks ahead limit (w ++ take (used - 1) run) values c fault) last h)

  -- a result for the first byte of a piece is a result for the piece
  pub says_first : (w rest : List ℕ) (values : List E) (answer : Decoded E Fault) → 0 < length rest → SaysIn framing Represents spells breaks ahead limit w values (slice_index rest 0 ∷ []) 1 answer
      → SaysIn framing Represents spells breaks ahead limit w values rest 1 answer
  says_first w [] values answer some h = absurd (omega (arith, some))
  says_first w (c ∷ rest) values answer some h = says_as w w (c ∷ []) (c ∷ rest) values 1 1 answer refl refl refl h

  take_take : (m n : ℕ) (xs : List ℕ) → m ≤ n → take m (take n xs) ≡ take m xs
  take_take m n xs le = grind (arith, common_steps)

  index_take : (m n : ℕ) (xs : List ℕ) → m < n → get_or (take n xs) m 0 ≡ get_or xs m 0
  index_take m n xs lt = grind (arith, common_steps)

  index_drop : (m n : ℕ) (xs : List ℕ) → get_or (drop n xs) m 0 ≡ get_or xs (n + m) 0
  index_drop m n xs = grind (arith, common_steps)

  -- a result for a prefix of a piece is a result for the piece
  pub says_more : (w rest : List ℕ) (values : List E) (used count : ℕ) (answer : Decoded E Fault) → 0 < used → used ≤ count → SaysIn framing Represents spells breaks ahead limit w values (take count rest) used answer
      → SaysIn framing Represents spells breaks ahead limit w values rest used answer
  says_more w rest values used count answer some within h =
      says_as w w (take count rest) rest values used used answer (ap (λ (y : List ℕ). w ++ y) (take_take used count rest within)) (ap (λ (y : List ℕ). w ++ y) (take_take (used - 1) count rest (omega (arith, within))))
      (index_take (used - 1) count rest (omega (arith, some, within))) h

  -- a result for the rest of a piece is a result for the piece
  pub says_on : (w piece : List ℕ) (values : List E) (at used : ℕ) (answer : Decoded E Fault) → 0 < used → SaysIn framing Represents spells breaks ahead limit (w ++ take at piece) values (drop at piece) used answer
      → SaysIn framing Represents spells breaks ahead limit w values piece (at + used) answer
  says_on w piece values at used answer some h =
      let less : at + (used - 1) ≡ at + used - 1 = omega (arith, some) in
      says_as (w ++ take at piece) w (drop at piece) piece values used (at + used) answer (piece_on w piece at used)
      (piece_on w piece at (used - 1) ∙ ap (λ (n : ℕ). w ++ take n piece) less) (index_drop (used - 1) at piece ∙ ap (λ (n : ℕ). get_or piece n 0) less) h

  pub before_on : (w piece : List ℕ) (values : List E) (at used : ℕ) → GoesBefore framing spells limit w values piece at → GoesBefore framing spells limit (w ++ take at piece) values (drop at piece) used
      → GoesBefore framing spells limit w values piece (at + used)
  before_on w piece values at used first second n inside = elim (cases_lt n at) [
    | inl early ↦ first n early
    | inr late ↦
        let sum : at + (n - at) ≡ n = omega (arith, late) in
        subst (λ (y : List ℕ). GoesIn framing spells limit y values) (piece_on w piece at (n - at) ∙ ap (λ (m : ℕ). w ++ take m piece) sum) (second (n - at) (omega (arith, late, inside)))
  ]

  pub before_more : (w rest : List ℕ) (values : List E) (used count : ℕ) → used ≤ count → GoesBefore framing spells limit w values (take count rest) used → GoesBefore framing spells limit w values rest used
  before_more w rest values used count within h n inside =
      subst (λ (y : List ℕ). GoesIn framing spells limit (w ++ y) values) (take_take n count rest (omega (arith, within, inside))) (h n inside)
