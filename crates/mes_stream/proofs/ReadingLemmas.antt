-- The reading of a stream, piece by piece and at the end of the input.
use Rattle.std.proofs.Common.{◌≡◌, ℕ, ◌+◌, ◌-◌, ◌<◌, ◌≤◌, Option, List, [], ◌∷◌, ◌++◌, length, take, drop, refl, sym, ◌∙◌, ap, append_assoc, append-nil, arith, length-append, length-take-le, take-append-drop, Result, Ok, Err, inl, inr, subst}
use Rattle.std.proofs.lemmas.List.{take_more}
use Rattle.std.specs.Prelude.{OnOk, IfErr, slice_index}
use Rattle.mes_frame.specs.declared.counts.Counts.{Counts}
use Rattle.mes_stream.specs.Framings.{GoesIn, EndsIn, WholeIn, EndsRecordIn, ByteStopsIn, StopsWithin}
use Rattle.mes_stream.specs.Reads.{EndsReads}
use Rattle.mes_stream.specs.Reading.{Ahead, nothing_ahead, EndsAt, ByteEndsAfter, EndsReading, ReadingRepresents, ReadingRepresentsAfter, ReadingTakesAfter, FinishMeans, MeansAfter, Collects, GathersLast, reported_as}
use Rattle.mes_stream.specs.Stream.{saturated, Records, EndsRecord, HasValue}
use Rattle.mes_stream.specs.Held.{held_by_reading}
use Rattle.mes_stream.specs.StreamReaders.{KeepsNoneAfterStop}
use Rattle.mes_stream.specs.declared.fault.Fault.{Fault}
use Rattle.mes_stream.specs.declared.fault.Report.{Report}
use Rattle.mes_stream.specs.declared.fault.Stop.{Stop}
use Rattle.mes_stream.specs.declared.limits.TheConstants.{MAX_READ}
use Rattle.mes_stream.specs.declared.counted_reader.Reading.{Reading}
use Rattle.mes_stream.specs.declared.counted_reader.ReadingStop.{ReadingStop}
use Rattle.mes_stream.specs.declared.read_loop.ReadsEnd.{ReadsEnd}
use Rattle.mes_stream.specs.declared.read_loop.ReadsEnd.TheVariants.{Stopped, AtEnd, Failed, Spent}
use Rattle.mes_stream.specs.declared.record_error.RecordError.{RecordError}
use Rattle.mes_stream.specs.declared.stream_reader.Framing.{Framing}
use Rattle.mes_stream.specs.declared.stream_reader.Framing.TheVariants.{Plain, Chunked, Lines}
use Rattle.mes_stream.specs.JsonLines.{AreLines, EndsLine}
use Rattle.mes_stream.proofs.BodyLemmas.{records_more, stops_in}
use Rattle.mes_stream.proofs.LinesMore.{lines_more}

-- a byte of the piece ended the stream
pub ends_at : {E : Type 0} (framing : Framing) (spells : List ℕ → E → Type 0) (ahead : Ahead) (limit : ℕ) (w piece : List ℕ) (values : List E) (used end after : ℕ) (rest : List ℕ) → 0 < end → end ≤ length piece → length piece ≤ MAX_READ
    → used ≡ saturated (ahead.bytes + length w) → after ≡ saturated (used + end) → rest ≡ drop end piece → EndsIn framing spells limit (w ++ take end piece) values
    → EndsAt framing spells ahead limit (w ++ piece) values after rest
ends_at framing spells ahead limit w piece values used end after rest some within small counted is left ends =
    let size = length-append (take end piece) (drop end piece) in
    let whole = ap length (take-append-drop end piece) in
    record {
      stream = w ++ take end piece;
      is = rw left (ap (λ (y : List ℕ). w ++ y) (sym (take-append-drop end piece)) ∙ sym (append_assoc w (take end piece) (drop end piece)));
      count = is ∙ omega (arith, counted, length-append w (take end piece), length-take-le end piece within);
      ends = ends;
      last = rw left (omega (arith, some, within, small, size, whole, length-take-le end piece within));
    }

-- an error is detected at a byte of the piece
pub stops_at : {E : Type 0} (framing : Framing) (spells : List ℕ → E → Type 0) (breaks : List ℕ → RecordError → Type 0) (ahead : Ahead) (limit : ℕ) (w piece : List ℕ) (values : List E) (fault : Fault) (used : ℕ)
    → 0 < used → used ≤ length piece → GoesIn framing spells limit (w ++ take (used - 1) piece) values
    → ByteStopsIn framing spells breaks ahead.records limit (w ++ take (used - 1) piece) values (slice_index piece (used - 1)) fault
    → StopsWithin framing spells breaks ahead.records limit (w ++ piece) values fault (length w + used)
stops_at framing spells breaks ahead limit w piece values fault used some within live stops =
    let count : length w + (0 + used) ≡ length w + used = omega arith in
    subst (λ (n : ℕ). StopsWithin framing spells breaks ahead.records limit (w ++ piece) values fault n) count (stops_in framing spells breaks ahead.records limit w piece values fault 0 used (omega arith) some within (rw append-nil live) (rw append-nil stops))

-- after the last byte of a record no record is incomplete
record_whole : {E : Type 0} (spells : List ℕ → E → Type 0) (limit : ℕ) (b : List ℕ) (values : List E) (c : ℕ) (value : E) → EndsRecord spells limit b values c (HasValue spells value)
    → Records spells limit (b ++ c ∷ []) (values ++ value ∷ [])
record_whole spells limit b values c value ends =
    rw (ends.spelt, append_assoc) (records_more {R = Unit {0}} (λ d r. Unit {0}) spells 0 limit ends.whole (ends.x ++ c ∷ []) ends.is.0 values value ends.records ends.is.1 ends.is.2.1)

line_whole : {E : Type 0} (spells : List ℕ → E → Type 0) (limit : ℕ) (b : List ℕ) (values : List E) (c : ℕ) (value : E) → EndsLine spells limit b values c (HasValue spells value)
    → AreLines spells limit (b ++ c ∷ []) (values ++ value ∷ [])
line_whole spells limit b values c value (last, ends) =
    rw (last, ends.spelt, append_assoc) (lines_more spells limit ends.whole ends.x ends.is.0 values value ends.lines ends.is.1 ends.is.2.1)

whole_more : {E : Type 0} (framing : Framing) (spells : List ℕ → E → Type 0) (limit : ℕ) (u : List ℕ) (values : List E) (c : ℕ) (value : E) → EndsRecordIn framing spells limit u values c value
    → WholeIn framing spells limit (u ++ c ∷ []) (values ++ value ∷ [])
whole_more Plain spells limit u values c value ends = record_whole spells limit u values c value ends
whole_more Chunked spells limit u values c value (body, before, following, ends) = (body ++ c ∷ [], following, record_whole spells limit body values c value ends)
whole_more Lines spells limit u values c value ends = line_whole spells limit u values c value ends

pub whole_at : {E : Type 0} (framing : Framing) (spells : List ℕ → E → Type 0) (limit : ℕ) (w piece : List ℕ) (values : List E) (value : E) (used : ℕ) → 0 < used → used ≤ length piece
    → EndsRecordIn framing spells limit (w ++ take (used - 1) piece) values (slice_index piece (used - 1)) value → WholeIn framing spells limit (w ++ take used piece) (values ++ value ∷ [])
whole_at framing spells limit w piece values value used some within ends =
    let sum : used ≡ (used - 1) + 1 = omega (arith, some) in
    let more : take used piece ≡ take (used - 1) piece ++ slice_index piece (used - 1) ∷ [] = ap (λ (n : ℕ). take n piece) sum ∙ take_more piece (used - 1) 0 (omega (arith, some, within)) in
    let join : (w ++ take (used - 1) piece) ++ slice_index piece (used - 1) ∷ [] ≡ w ++ take used piece =
    append_assoc w (take (used - 1) piece) (slice_index piece (used - 1) ∷ []) ∙ sym (ap (λ (y : List ℕ). w ++ y) more) in
    subst (λ (y : List ℕ). WholeIn framing spells limit y (values ++ value ∷ [])) join (whole_more framing spells limit (w ++ take (used - 1) piece) values (slice_index piece (used - 1)) value ends)

module _ {R E : Type 0} (holds : R → List ℕ → Type 0) (spells : List ℕ → E → Type 0) (breaks : List ℕ → RecordError → Type 0) where
  -- the contract of a call that consumes a piece
  abbrev pub TakesAll : {T : Type 0} → Reading R → Reading R → List ℕ → List E → List E → Result T ReadingStop → Type 0
  TakesAll d new piece old now result =
      (ahead : Ahead) (framing : Framing) (limit : ℕ) (v : List ℕ) (before : List E) → ReadingRepresentsAfter holds spells ahead d framing limit v before
      → ReadingTakesAfter holds spells breaks ahead new framing limit v before piece old now result

  -- before the first piece nothing is appended
  pub gathers_none : (d : Reading R) (start : List E) → Collects holds spells d start d start []
  gathers_none d start = λ ahead framing limit v before represents. ([], sym (append-nil start), rw (append-nil, append-nil) represents)

  -- one more piece appends the values of the records that end in it
  pub gathers_more : {T : Type 0} (first d new : Reading R) (start old now : List E) (w piece : List ℕ) (result : Result T ReadingStop) → Collects holds spells first start d old w → TakesAll d new piece old now result
      → OnOk result (Collects holds spells first start new now (w ++ piece))
  gathers_more first d new start old now w piece (Ok done) h fed = λ ahead framing limit v before represents.
      let so_far = h ahead framing limit v before represents in
      let more = fed ahead framing limit (v ++ w) (before ++ so_far.0) so_far.2 in (
        so_far.0 ++ more.0,
        more.1 ∙ ap (λ (x : List E). x ++ more.0) so_far.1 ∙ append_assoc start so_far.0 more.0,
        subst (λ (y : List ℕ). ReadingRepresentsAfter holds spells ahead new framing limit y (before ++ (so_far.0 ++ more.0))) (append_assoc v w piece)
            (subst (λ (vs : List E). ReadingRepresentsAfter holds spells ahead new framing limit ((v ++ w) ++ piece) vs) (append_assoc before so_far.0 more.0) more.2),
      )
  gathers_more first d new start old now w piece (Err stop) h fed = tt

  pub gathers_last : {T : Type 0} (kept : R → ℕ) (first d new : Reading R) (start old now : List E) (w piece : List ℕ) (result : Result T ReadingStop) → Collects holds spells first start d old w → TakesAll d new piece old now result
      → KeepsNoneAfterStop (held_by_reading kept new) result → IfErr result (λ stop. GathersLast holds spells breaks kept first start new now w piece stop)
  gathers_last kept first d new start old now w piece (Ok done) h fed none = tt
  gathers_last kept first d new start old now w piece (Err stop) h fed none = (
    λ ahead framing limit v before represents.
        let so_far = h ahead framing limit v before represents in
        let more = fed ahead framing limit (v ++ w) (before ++ so_far.0) so_far.2 in (
          so_far.0 ++ more.0,
          more.1 ∙ ap (λ (x : List E). x ++ more.0) so_far.1 ∙ append_assoc start so_far.0 more.0,
          subst (λ (y : List ℕ). ByteEndsAfter framing spells breaks ahead limit y (before ++ (so_far.0 ++ more.0)) (reported_as new stop)) (append_assoc v w piece)
              (subst (λ (vs : List E). ByteEndsAfter framing spells breaks ahead limit ((v ++ w) ++ piece) vs (reported_as new stop)) (append_assoc before so_far.0 more.0) more.2),
        ),
    none,
  )

  -- the report, if the input did not end
  pub finish_other : (d : Reading R) (end : ReadsEnd ReadingStop) (values : List E) (answer : Result Report Stop) → (end ≡ AtEnd → ⊥) → ((ahead : Ahead) → MeansAfter holds spells ahead d end answer)
      → FinishMeans holds spells breaks d end values values answer
  finish_other d (Stopped stop) values answer not means = (refl, means nothing_ahead)
  finish_other d AtEnd values answer not means = absurd (not refl)
  finish_other d Failed values answer not means = (refl, means)
  finish_other d Spent values answer not means = (refl, means)

  -- how the reading of the stream ended, from how the reads of the device ended
  pub read_through : (kept : R → ℕ) (first now : Reading R) (start to all : List E) (framing : Framing) (limit reads : ℕ) (old new : Counts) (last : Option (List ℕ)) (w : List ℕ) (end : ReadsEnd ReadingStop) (answer : Result Report Stop)
      → ReadingRepresents holds spells first framing limit [] [] → EndsReads (Collects holds spells first start now to) (GathersLast holds spells breaks kept first start now to) reads old new last w end
      → FinishMeans holds spells breaks now end to all answer → (more : List E) × (all ≡ start ++ more) × EndsReading framing spells breaks limit reads old new last w more answer
  read_through kept first now start to all framing limit reads old new last w (Stopped stop) answer represents (front, piece, at, stops, asked) (same, is) =
      let h = stops.0 nothing_ahead framing limit [] [] represents in
      (h.0, same ∙ h.1, inl (rw (is, at.is) h.2, asked))
  read_through kept first now start to all framing limit reads old new last w AtEnd answer represents (goes, end, asked) means =
      let h = goes nothing_ahead framing limit [] [] represents in
      let m = means nothing_ahead framing limit w h.0 h.2 in
      (h.0 ++ m.0, m.1 ∙ ap (λ (x : List E). x ++ m.0) h.1 ∙ append_assoc start h.0 m.0, inr (inl (m.2, end, asked)))
  read_through kept first now start to all framing limit reads old new last w Failed answer represents (goes, asked) (same, means) =
      let h = goes nothing_ahead framing limit [] [] represents in (h.0, same ∙ h.1, inr (inr (inl (means nothing_ahead framing limit w h.0 h.2, asked))))
  read_through kept first now start to all framing limit reads old new last w Spent answer represents (goes, asked) (same, means) =
      let h = goes nothing_ahead framing limit [] [] represents in (h.0, same ∙ h.1, inr (inr (inr (means nothing_ahead framing limit w h.0 h.2, asked))))
