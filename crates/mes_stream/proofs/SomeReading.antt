-- Bytes have at least one reading, plain or chunked, if the data of each record have a value or an
-- error.
use Rattle.std.proofs.Common.{◌≡◌, ◌≢◌, ℕ, ◌⊎◌, inl, inr, List, [], ◌∷◌, ◌++◌, length, refl, ap, sym, ◌∙◌, subst, append_assoc, append-nil, arith, length-append}
use Rattle.mes_frame.specs.Record.{IsRecord, Begun, SizeShows}
use Rattle.mes_frame.specs.RecordReading as record_reading
use Rattle.mes_frame.specs.RecordReading.{RecordReading, ReadsRecord}
use Rattle.mes_frame.specs.ChunkFront.{IsOpen}
use Rattle.mes_frame.specs.ChunkState.{ChunkRepresents, ChunkSteps}
use Rattle.mes_frame.specs.declared.chunk.Phase.TheVariants.{Size}
use Rattle.mes_frame.specs.declared.chunk.ChunkState.{ChunkState}
use Rattle.mes_frame.specs.declared.chunk.ChunkOut.{ChunkOut}
use Rattle.mes_frame.specs.declared.chunk.ChunkOut.TheVariants as out
use Rattle.mes_frame.proofs.OneReading.{one_reading, some_reading}
use Rattle.mes_frame.proofs.ChunkParts.{lift, open_of}
use Rattle.mes_frame.proofs.ChunkAnswers.{answer_at}
use Rattle.mes_stream.specs.declared.record_error.RecordError.{RecordError}
use Rattle.mes_stream.specs.declared.record_error.RecordError.TheVariants as refusal
use Rattle.mes_stream.specs.Stream.{Records, BodyLive, EndsInside, BodyShows, number_after}
use Rattle.mes_stream.specs.PlainReading.{IsDecided, PlainReading, ReadsPlain}
use Rattle.mes_stream.specs.PlainReading as plain
use Rattle.mes_stream.specs.StreamReading.{StreamReading, Goes, Ends, Stops, ReadsStream}
use Rattle.mes_stream.specs.declared.fault.Fault.{Fault}
use Rattle.mes_stream.specs.declared.fault.Fault.TheVariants.{Frame, EndsInsideRecord, Text, Field, BadEntry}
use Rattle.mes_stream.proofs.BodyLemmas.{records_more}
use Rattle.mes_stream.proofs.ChunkLemmas.{shows_data}
use Rattle.mes_stream.proofs.PlainLaw.{same_last}

before_last : (x front rest : List ℕ) (c d : ℕ) → x ++ c ∷ [] ≡ front ++ d ∷ rest → (k : List ℕ) × (x ≡ front ++ k)
before_last x [] rest c d same = (x, refl)
before_last [] (a ∷ front) rest c d same =
    let len = ap length same in
    let sum = length-append front (d ∷ rest) in
    absurd (omega (arith, len, sum))
before_last (b ∷ x) (a ∷ front) rest c d same =
    let head : b ≡ a = cc in
    let tail : x ++ c ∷ [] ≡ front ++ d ∷ rest = cc in
    let found = before_last x front rest c d tail in
    let on : x ≡ front ++ found.0 = found.1 in
    (found.0, cc)

seam : (P : List ℕ → Type 0) (w rest : List ℕ) (b : ℕ) → P ((w ++ b ∷ []) ++ rest) → P (w ++ b ∷ rest)
seam P w rest b h = subst P (append_assoc w (b ∷ []) rest) h

start_stands : ChunkRepresents (record { phase = Size 0 0 }) [] []
unfolding ChunkRepresents
start_stands = record {
  chunks = [];
  each = tt;
  part = [];
  represents = [];
  is = (record { hex = tt; fits = omega arith; short = omega arith; empty = refl }, refl, refl);
  spelt = refl;
  content = refl;
}

module _ {E : Type 0} (spells : List ℕ → E → Type 0) (breaks : List ℕ → RecordError → Type 0) (decided : IsDecided spells breaks) (ahead limit : ℕ) where
  -- the byte c after b makes a longer prefix of a stream, or an error is detected at c
  Next : List ℕ → List E → ℕ → Type 0
  Next b values c = ((more : List E) × BodyLive spells limit (b ++ c ∷ []) more) ⊎ ((fault : Fault) × BodyShows spells breaks ahead limit b values c fault)

  none_begun : Begun [] [] limit
  none_begun = inl (record { digits = tt; few = omega arith }, refl)

  -- `Next` for a byte c that ends a record
  ends : (b : List ℕ) (values : List E) (c : ℕ) (r : List ℕ) (live : BodyLive spells limit b values) → IsRecord (live.x ++ c ∷ []) r limit → Next b values c
  unfolding Next
  ends b values c r live is = elim (decided r) [
    | inl h ↦ inl (
      values ++ h.0 ∷ [],
      record {
        whole = live.whole ++ (live.x ++ c ∷ []);
        x = [];
        spelt = ap (λ (y : List ℕ). y ++ c ∷ []) live.spelt ∙ append_assoc live.whole live.x (c ∷ []) ∙ sym (append-nil (live.whole ++ (live.x ++ c ∷ [])));
        records = records_more {R = Unit {0}} (λ u y. Unit {0}) spells 0 limit live.whole (live.x ++ c ∷ []) r values h.0 live.records is h.1;
        is = ([], none_begun);
      },
    )
    | inr h ↦ inr (refused h.0 h.1 h.2)
  ] where
    refused : (f : RecordError) → f ≢ refusal.NoMemory → breaks r f → (fault : Fault) × BodyShows spells breaks ahead limit b values c fault
    refused (refusal.Text f) known h = (Text (number_after ahead values) f.byte f.why, (record { whole = live.whole; x = live.x; spelt = live.spelt; records = live.records; is = (r, is, h) }, refl))
    refused (refusal.Field f) known h = (Field (number_after ahead values) f.path f.why, (record { whole = live.whole; x = live.x; spelt = live.spelt; records = live.records; is = (r, is, h) }, refl))
    refused refusal.BadEntry known h = (BadEntry (number_after ahead values), (record { whole = live.whole; x = live.x; spelt = live.spelt; records = live.records; is = (r, is, h) }, refl))
    refused refusal.NoMemory known h = absurd (known refl)

  -- `Next` from the reading of the unfinished record with the byte c
  reported : (b : List ℕ) (values : List E) (c : ℕ) (live : BodyLive spells limit b values) (reading : RecordReading) → ReadsRecord limit (live.x ++ c ∷ []) reading → Next b values c
  unfolding Next
  reported b values c live (record_reading.Begins r) begun = inl (
    values,
    record {
      whole = live.whole;
      x = live.x ++ c ∷ [];
      spelt = ap (λ (y : List ℕ). y ++ c ∷ []) live.spelt ∙ append_assoc live.whole live.x (c ∷ []);
      records = live.records;
      is = (r, begun);
    },
  )
  reported b values c live (record_reading.Whole front r) ([], is, whole) =
      ends b values c r live (subst (λ (y : List ℕ). IsRecord y r limit) (sym (is ∙ append-nil front)) whole)
  reported b values c live (record_reading.Whole front r) (d ∷ rest, is, whole) =
      let k = before_last live.x front rest c d is in
      let clash : record_reading.Begins live.is.0 ≡ record_reading.Whole front r =
      one_reading limit live.x (record_reading.Begins live.is.0) (record_reading.Whole front r) live.is.1 (k.0, k.1, whole) in
      absurd (cc)
  reported b values c live (record_reading.Broken front e fault) ([], is, shows) =
      let same = same_last live.x front c e is in
      inr (
        Frame fault,
        record {
          whole = live.whole;
          x = live.x;
          spelt = live.spelt;
          records = live.records;
          is = subst (λ (y : List ℕ). SizeShows y c limit fault) (sym same.0) (subst (λ (y : ℕ). SizeShows front y limit fault) (sym same.1) shows);
        },
      )
  reported b values c live (record_reading.Broken front e fault) (d ∷ rest, is, shows) =
      let k = before_last live.x (front ++ e ∷ []) rest c d (is ∙ sym (append_assoc front (e ∷ []) (d ∷ rest))) in
      let clash : record_reading.Begins live.is.0 ≡ record_reading.Broken front e fault =
      one_reading limit live.x (record_reading.Begins live.is.0) (record_reading.Broken front e fault) live.is.1 (k.0, k.1 ∙ append_assoc front (e ∷ []) k.0, shows) in
      absurd (cc)

  next : (b : List ℕ) (values : List E) (c : ℕ) → BodyLive spells limit b values → Next b values c
  next b values c live = let read = some_reading limit (live.x ++ c ∷ []) in reported b values c live read.0 read.1

  start_live : BodyLive spells limit [] []
  start_live = record { whole = []; x = []; spelt = refl; records = refl; is = ([], none_begun) }

  -- ---- any bytes have a reading as plain RecordIO

  ReadPlain : List ℕ → Type 0
  ReadPlain w = (reading : PlainReading E) × ReadsPlain spells breaks ahead limit w reading

  plain_on : (rest b : List ℕ) (values : List E) → BodyLive spells limit b values → ReadPlain (b ++ rest)
  unfolding ReadPlain Next
  plain_on [] b values live = rw append-nil (plain.Goes values, live)
  plain_on (c ∷ rest) b values live = elim (next b values c live) [
    | inl h ↦ seam ReadPlain b rest c (plain_on rest (b ++ c ∷ []) h.0 h.1)
    | inr h ↦ (plain.Stops b c values h.0, (rest, refl, h.1))
  ]

  pub some_plain : (w : List ℕ) → (reading : PlainReading E) × ReadsPlain spells breaks ahead limit w reading
  unfolding ReadPlain
  some_plain w = plain_on w [] [] start_live

  -- ---- any bytes have a reading as a chunked stream

  ReadStream : List ℕ → Type 0
  ReadStream w = (reading : StreamReading E) × ReadsStream spells breaks ahead limit w reading

  -- a prefix of a stream ends after complete records or inside a record
  ended : (b : List ℕ) (values : List E) → BodyLive spells limit b values → Records spells limit b values ⊎ EndsInside spells limit b values
  ended b values live = by live.x live.spelt live.is where
    by : (x : List ℕ) → b ≡ live.whole ++ x → (r : List ℕ) × Begun x r limit → Records spells limit b values ⊎ EndsInside spells limit b values
    by [] spelt begun = inl (subst (λ (y : List ℕ). Records spells limit y values) (sym (spelt ∙ append-nil live.whole)) live.records)
    by (c ∷ x) spelt begun = inr (record { whole = live.whole; x = c ∷ x; spelt = spelt; records = live.records; is = (λ none. absurd (cc), begun) })

  -- the reading of all bytes, from the step for the byte b and the reading of the bytes after it
  stream_next : (w body rest : List ℕ) (values : List E) (b : ℕ) (s : ChunkState) (answer : ChunkOut) → ChunkSteps s w body b answer → IsOpen w body → BodyLive spells limit body values
      → ((more : List ℕ) (vs : List E) → ChunkRepresents s (w ++ b ∷ []) more → BodyLive spells limit more vs → ReadStream ((w ++ b ∷ []) ++ rest)) → ReadStream (w ++ b ∷ rest)
  unfolding ReadStream Next
  stream_next w body rest values b s out.Quiet steps begun live read = seam ReadStream w rest b (read body values steps live)
  stream_next w body rest values b s out.Byte steps begun live read = elim (next body values b live) [
    | inl h ↦ seam ReadStream w rest b (read (body ++ b ∷ []) h.0 steps h.1)
    | inr h ↦ (Stops w b values h.0, (rest, refl, shows_data spells breaks ahead limit w body values b h.0 begun (open_of s (w ++ b ∷ []) (body ++ b ∷ []) steps) h.1))
  ]
  stream_next w body rest values b s out.Closed steps begun live read = elim (ended body values live) [
    | inl records ↦ (Ends (w ++ b ∷ []) values, (rest, sym (append_assoc w (b ∷ []) rest), (body, steps.0, records)))
    | inr inside ↦ (Stops w b values EndsInsideRecord, (rest, refl, (body, steps.0, inside)))
  ]
  stream_next w body rest values b s (out.Fault fault) steps begun live read = (Stops w b values (Frame fault), (rest, refl, inl (body, steps.0, live)))

  stream_on : (rest w body : List ℕ) (values : List E) (s : ChunkState) → ChunkRepresents s w body → BodyLive spells limit body values → ReadStream (w ++ rest)
  unfolding ReadStream ChunkRepresents
  stream_on [] w body values s at live = rw append-nil (Goes values, (body, open_of s w body at, live))
  stream_on (b ∷ rest) w body values s at live =
      let found = answer_at s.phase b at.part at.represents at.is in
      stream_next w body rest values b (record { phase = found.phase }) found.answer (lift s.phase found.phase w body b found.answer at found.steps) (open_of s w body at) live
      (λ more vs represents on. stream_on rest (w ++ b ∷ []) more vs (record { phase = found.phase }) represents on)

  pub some_stream : (w : List ℕ) → (reading : StreamReading E) × ReadsStream spells breaks ahead limit w reading
  unfolding ReadStream
  some_stream w = stream_on w [] [] [] (record { phase = Size 0 0 }) start_stands start_live
