-- The bytes of a device decide the result of reading a stream of events from it.
use Rattle.std.proofs.Common.{◌≡◌, ℕ, ◌+◌, List, [], ◌∷◌, ◌++◌, length, Option, None, Some, Result, Ok, Err, refl, ap, ap₂, sym, ◌∙◌, subst, append_assoc, append-nil, inl, inr, arith}
use Rattle.std.proofs.lemmas.List.{append_cancel_left}
use Rattle.std.specs.Io.KnownBytes.{Consumes}
use Rattle.mes_frame.specs.declared.counts.Counts.{Counts}
use Rattle.mes_msg.specs.Events.{Spells}
use Rattle.mes_msg.specs.Event.{Event}
use Rattle.mes_stream.specs.Answers.{AnswersStream, AnswersPlain, IsDecidedByBytes, IsSameOutcome}
use Rattle.mes_stream.specs.Chunked.{Live}
use Rattle.mes_stream.specs.PlainReading.{IsExact, PlainReading, ReadsPlain}
use Rattle.mes_stream.specs.PlainReading as plain
use Rattle.mes_stream.specs.Reading.{EndsReading}
use Rattle.mes_stream.specs.Refusals.{IsEventRefusal}
use Rattle.mes_stream.specs.Stream.{saturated, Records, EndsInside, BodyLive}
use Rattle.mes_stream.specs.StreamReading.{StreamReading, Goes, Ends, Stops, ReadsStream}
use Rattle.mes_stream.specs.declared.fault.Fault.{Fault}
use Rattle.mes_stream.specs.declared.fault.Fault.TheVariants.{EndsInsideChunks, EndsInsideRecord}
use Rattle.mes_stream.specs.declared.fault.Report.{Report}
use Rattle.mes_stream.specs.declared.fault.Stop.{Stop}
use Rattle.mes_stream.specs.declared.stream_reader.Framing.TheVariants.{Plain, Chunked}
use Rattle.mes_stream.proofs.PlainLaw.{no_rest}

-- decoding stopped with this error after `used` bytes
pub record StopsBy (stop : Stop) (fault : Fault) (used : ℕ) : Type 0 where
  pub fault_is : stop.fault ≡ fault
  pub count : stop.used ≡ saturated (0 + used)

pub same_stop : (s t : Stop) (fault : Fault) (used : ℕ) → StopsBy s fault used → StopsBy t fault used → s ≡ t
same_stop s t fault used h k = ap₂ (λ (f : Fault) (n : ℕ). let stop : Stop = record { fault = f; used = n } in stop) (h.fault_is ∙ sym k.fault_is) (h.count ∙ sym k.count)

-- all bytes w of a device: `front` and `rest`, which were consumed, and `left`
pub whole_of : (w taken left front rest : List ℕ) → w ≡ taken ++ left → taken ≡ front ++ rest → w ≡ front ++ (rest ++ left)
whole_of w taken left front rest all is = all ∙ ap (λ (y : List ℕ). y ++ left) is ∙ append_assoc front rest left

pub all_taken : (w taken left : List ℕ) → w ≡ taken ++ left → left ≡ [] → taken ≡ w
all_taken w taken left all none = sym (append-nil taken) ∙ ap (λ (y : List ℕ). taken ++ y) (sym none) ∙ sym all

-- ---- the outcome for the bytes of a chunked stream

-- Reading a device with the bytes w returns the events and the result, if w has the given reading;
-- the bytes `left` remain in the device.
abbrev IsOutcome : StreamReading Event → List ℕ → List ℕ → List Event → Result Report Stop → Type 0
IsOutcome (Goes values) w left events (Ok report) = ⊥
IsOutcome (Goes values) w left events (Err stop) = (events ≡ values) × StopsBy stop EndsInsideChunks (length w)
IsOutcome (Ends front values) w left events (Ok report) = (events ≡ values) × (report.used ≡ saturated (0 + length front)) × (w ≡ front ++ (report.rest.items ++ left))
IsOutcome (Ends front values) w left events (Err stop) = ⊥
IsOutcome (Stops front byte values fault) w left events (Ok report) = ⊥
IsOutcome (Stops front byte values fault) w left events (Err stop) = (events ≡ values) × StopsBy stop fault (length front + 1)

abbrev HasOutcome : ℕ → List ℕ → List ℕ → List Event → Result Report Stop → Type 0
HasOutcome limit w left events outcome = (reading : StreamReading Event) × ReadsStream Spells IsEventRefusal 0 limit w reading × IsOutcome reading w left events outcome

stream_by : (limit reads : ℕ) (old new : Counts) (left w taken : List ℕ) (events : List Event) (outcome : Result Report Stop) → w ≡ taken ++ left → EndsReading Chunked Spells IsEventRefusal limit reads old new (Some left) taken events outcome
    → IsDecidedByBytes outcome → HasOutcome limit w left events outcome
stream_by limit reads old new left w taken events (Ok report) all (inl (at, made)) decided =
    let whole = whole_of w taken left at.stream report.rest.items all at.is in
    (Ends at.stream events, (report.rest.items ++ left, whole, at.ends), (refl, at.count, whole))
stream_by limit reads old new left w taken events (Err stop) all (inl (at, made)) decided =
    let s = at.stops in
    elim s.stops [
      | inl h ↦ (
        Stops s.front s.byte events stop.fault,
        (s.rest ++ left, whole_of w taken left s.front (s.byte ∷ s.rest) all s.is, h),
        (refl, record { fault_is = refl; count = at.count ∙ ap (λ (n : ℕ). saturated (0 + n)) s.used }),
      )
      | inr h ↦ absurd (decided.0 h.0)
    ]
stream_by limit reads old new left w taken events (Ok report) all (inr (inl (means, end, made))) decided = absurd means.0
stream_by limit reads old new left w taken events (Err stop) all (inr (inl (means, end, made))) decided =
    let one = all_taken w taken left all end in (
      Goes events,
      subst (λ (y : List ℕ). Live Spells limit y events) one means.0.0,
      (refl, record { fault_is = means.0.1; count = means.1 ∙ ap (λ (y : List ℕ). saturated (0 + length y)) one }),
    )
stream_by limit reads old new left w taken events (Ok report) all (inr (inr (inl (off, made)))) decided = absurd off
stream_by limit reads old new left w taken events (Err stop) all (inr (inr (inl (off, made)))) decided = absurd (decided.1 off.0)
stream_by limit reads old new left w taken events (Ok report) all (inr (inr (inr (off, made)))) decided = absurd off
stream_by limit reads old new left w taken events (Err stop) all (inr (inr (inr (off, made)))) decided = absurd (decided.2 off.0)

same_outcome : (reading : StreamReading Event) (w left more : List ℕ) (events others : List Event) (outcome other : Result Report Stop) → IsOutcome reading w left events outcome → IsOutcome reading w more others other
    → (events ≡ others) × IsSameOutcome (Some left) (Some more) outcome other
same_outcome (Goes values) w left more events others (Ok report) other h k = absurd h
same_outcome (Goes values) w left more events others (Err stop) (Ok report) h k = absurd k
same_outcome (Goes values) w left more events others (Err stop) (Err too) h k = (h.0 ∙ sym k.0, same_stop stop too EndsInsideChunks (length w) h.1 k.1)
same_outcome (Ends front values) w left more events others (Err stop) other h k = absurd h
same_outcome (Ends front values) w left more events others (Ok report) (Err stop) h k = absurd k
same_outcome (Ends front values) w left more events others (Ok report) (Ok too) h k =
    (h.0 ∙ sym k.0, (h.1 ∙ sym k.1, append_cancel_left front (report.rest.items ++ left) (too.rest.items ++ more) (sym h.2 ∙ k.2)))
same_outcome (Stops front byte values fault) w left more events others (Ok report) other h k = absurd h
same_outcome (Stops front byte values fault) w left more events others (Err stop) (Ok report) h k = absurd k
same_outcome (Stops front byte values fault) w left more events others (Err stop) (Err too) h k = (h.0 ∙ sym k.0, same_stop stop too fault (length front + 1) h.1 k.1)

abbrev pub OneStream : Type 0
OneStream = (limit : ℕ) (w : List ℕ) (reading other : StreamReading Event) → ReadsStream Spells IsEventRefusal 0 limit w reading → ReadsStream Spells IsEventRefusal 0 limit w other → reading ≡ other

stream_from : OneStream → (limit reads more : ℕ) (old new first last : Counts) (left right : Option (List ℕ)) (w taken given : List ℕ) (events others : List Event) (outcome other : Result Report Stop)
    → Consumes (Some w) left taken → Consumes (Some w) right given → EndsReading Chunked Spells IsEventRefusal limit reads old new left taken events outcome
    → EndsReading Chunked Spells IsEventRefusal limit more first last right given others other → IsDecidedByBytes outcome → IsDecidedByBytes other → (events ≡ others) × IsSameOutcome left right outcome other
stream_from one limit reads more old new first last None right w taken given events others outcome other consumes too h k known sure = absurd consumes
stream_from one limit reads more old new first last (Some left) None w taken given events others outcome other consumes too h k known sure = absurd too
stream_from one limit reads more old new first last (Some left) (Some right) w taken given events others outcome other consumes too h k known sure =
    let a = stream_by limit reads old new left w taken events outcome consumes h known in
    let b = stream_by limit more first last right w given others other too k sure in
    let same : b.0 ≡ a.0 = one limit w b.0 a.0 b.1 a.1 in
    same_outcome a.0 w left right events others outcome other a.2 (subst (λ (r : StreamReading Event). IsOutcome r w right others other) same b.2)

pub one_stream_answer : OneStream → (limit : ℕ) (w : List ℕ) (events others : List Event) (outcome other : Result Report Stop) (a : AnswersStream limit w events outcome) (b : AnswersStream limit w others other)
    → IsDecidedByBytes outcome → IsDecidedByBytes other → (events ≡ others) × IsSameOutcome a.left b.left outcome other
one_stream_answer one limit w events others outcome other a b known sure =
    stream_from one limit a.reads b.reads a.old a.new b.old b.new a.left b.left w a.taken b.taken events others outcome other a.consumes b.consumes a.ends b.ends known sure

-- ---- the outcome for the bytes of plain RecordIO

abbrev IsPlainOutcome : ℕ → PlainReading Event → List ℕ → List ℕ → List Event → Result Report Stop → Type 0
IsPlainOutcome limit (plain.Goes values) w left events (Ok report) =
    (events ≡ values) × Records Spells limit w events × (report.used ≡ saturated (0 + length w)) × (report.rest.items ++ left ≡ [])
IsPlainOutcome limit (plain.Goes values) w left events (Err stop) = (events ≡ values) × EndsInside Spells limit w events × StopsBy stop EndsInsideRecord (length w)
IsPlainOutcome limit (plain.Stops front byte values fault) w left events (Ok report) = ⊥
IsPlainOutcome limit (plain.Stops front byte values fault) w left events (Err stop) = (events ≡ values) × StopsBy stop fault (length front + 1)

abbrev HasPlainOutcome : ℕ → List ℕ → List ℕ → List Event → Result Report Stop → Type 0
HasPlainOutcome limit w left events outcome = (reading : PlainReading Event) × ReadsPlain Spells IsEventRefusal 0 limit w reading × IsPlainOutcome limit reading w left events outcome

whole_live : (limit : ℕ) (w : List ℕ) (events : List Event) → Records Spells limit w events → BodyLive Spells limit w events
whole_live limit w events records = record { whole = w; x = []; spelt = sym (append-nil w); records = records; is = ([], inl (record { digits = tt; few = omega arith }, refl)) }

inside_live : (limit : ℕ) (w : List ℕ) (events : List Event) → EndsInside Spells limit w events → BodyLive Spells limit w events
inside_live limit w events h = record { whole = h.whole; x = h.x; spelt = h.spelt; records = h.records; is = h.is.1 }

plain_by : (limit reads : ℕ) (old new : Counts) (left w taken : List ℕ) (events : List Event) (outcome : Result Report Stop) → w ≡ taken ++ left → EndsReading Plain Spells IsEventRefusal limit reads old new (Some left) taken events outcome
    → IsDecidedByBytes outcome → HasPlainOutcome limit w left events outcome
plain_by limit reads old new left w taken events (Ok report) all (inl (at, made)) decided = absurd at.ends
plain_by limit reads old new left w taken events (Err stop) all (inl (at, made)) decided =
    let s = at.stops in
    elim s.stops [
      | inl h ↦ (
        plain.Stops s.front s.byte events stop.fault,
        (s.rest ++ left, whole_of w taken left s.front (s.byte ∷ s.rest) all s.is, h),
        (refl, record { fault_is = refl; count = at.count ∙ ap (λ (n : ℕ). saturated (0 + n)) s.used }),
      )
      | inr h ↦ absurd (decided.0 h.0)
    ]
plain_by limit reads old new left w taken events (Ok report) all (inr (inl (means, end, made))) decided =
    let one = all_taken w taken left all end in
    let records = subst (λ (y : List ℕ). Records Spells limit y events) one means.0 in (
      plain.Goes events,
      whole_live limit w events records,
      (refl, records, means.1 ∙ ap (λ (y : List ℕ). saturated (0 + length y)) one, ap₂ (λ (y z : List ℕ). y ++ z) means.2 end),
    )
plain_by limit reads old new left w taken events (Err stop) all (inr (inl (means, end, made))) decided =
    let one = all_taken w taken left all end in
    let inside = subst (λ (y : List ℕ). EndsInside Spells limit y events) one means.0.0 in (
      plain.Goes events,
      inside_live limit w events inside,
      (refl, inside, record { fault_is = means.0.1; count = means.1 ∙ ap (λ (y : List ℕ). saturated (0 + length y)) one }),
    )
plain_by limit reads old new left w taken events (Ok report) all (inr (inr (inl (off, made)))) decided = absurd off
plain_by limit reads old new left w taken events (Err stop) all (inr (inr (inl (off, made)))) decided = absurd (decided.1 off.0)
plain_by limit reads old new left w taken events (Ok report) all (inr (inr (inr (off, made)))) decided = absurd off
plain_by limit reads old new left w taken events (Err stop) all (inr (inr (inr (off, made)))) decided = absurd (decided.2 off.0)

same_plain : (exact : IsExact Spells IsEventRefusal) (limit : ℕ) (reading : PlainReading Event) (w left more : List ℕ) (events others : List Event) (outcome other : Result Report Stop)
    → IsPlainOutcome limit reading w left events outcome → IsPlainOutcome limit reading w more others other → (events ≡ others) × IsSameOutcome (Some left) (Some more) outcome other
same_plain exact limit (plain.Goes values) w left more events others (Ok report) (Ok too) h k = (h.0 ∙ sym k.0, (h.2 ∙ sym k.2, h.3 ∙ sym k.3))
same_plain exact limit (plain.Goes values) w left more events others (Ok report) (Err stop) h k = absurd (no_rest Spells IsEventRefusal exact 0 limit w events others h.1 k.1)
same_plain exact limit (plain.Goes values) w left more events others (Err stop) (Ok report) h k = absurd (no_rest Spells IsEventRefusal exact 0 limit w others events k.1 h.1)
same_plain exact limit (plain.Goes values) w left more events others (Err stop) (Err too) h k = (h.0 ∙ sym k.0, same_stop stop too EndsInsideRecord (length w) h.2 k.2)
same_plain exact limit (plain.Stops front byte values fault) w left more events others (Ok report) other h k = absurd h
same_plain exact limit (plain.Stops front byte values fault) w left more events others (Err stop) (Ok report) h k = absurd k
same_plain exact limit (plain.Stops front byte values fault) w left more events others (Err stop) (Err too) h k = (h.0 ∙ sym k.0, same_stop stop too fault (length front + 1) h.1 k.1)

abbrev pub OnePlain : Type 0
OnePlain = (limit : ℕ) (w : List ℕ) (reading other : PlainReading Event) → ReadsPlain Spells IsEventRefusal 0 limit w reading → ReadsPlain Spells IsEventRefusal 0 limit w other → reading ≡ other

plain_from : IsExact Spells IsEventRefusal → OnePlain → (limit reads more : ℕ) (old new first last : Counts) (left right : Option (List ℕ)) (w taken given : List ℕ) (events others : List Event) (outcome other : Result Report Stop)
    → Consumes (Some w) left taken → Consumes (Some w) right given → EndsReading Plain Spells IsEventRefusal limit reads old new left taken events outcome
    → EndsReading Plain Spells IsEventRefusal limit more first last right given others other → IsDecidedByBytes outcome → IsDecidedByBytes other → (events ≡ others) × IsSameOutcome left right outcome other
plain_from exact one limit reads more old new first last None right w taken given events others outcome other consumes too h k known sure = absurd consumes
plain_from exact one limit reads more old new first last (Some left) None w taken given events others outcome other consumes too h k known sure = absurd too
plain_from exact one limit reads more old new first last (Some left) (Some right) w taken given events others outcome other consumes too h k known sure =
    let a = plain_by limit reads old new left w taken events outcome consumes h known in
    let b = plain_by limit more first last right w given others other too k sure in
    let same : b.0 ≡ a.0 = one limit w b.0 a.0 b.1 a.1 in
    same_plain exact limit a.0 w left right events others outcome other a.2 (subst (λ (r : PlainReading Event). IsPlainOutcome limit r w right others other) same b.2)

pub one_plain_answer : IsExact Spells IsEventRefusal → OnePlain → (limit : ℕ) (w : List ℕ) (events others : List Event) (outcome other : Result Report Stop) (a : AnswersPlain limit w events outcome) (b : AnswersPlain limit w others other)
    → IsDecidedByBytes outcome → IsDecidedByBytes other → (events ≡ others) × IsSameOutcome a.left b.left outcome other
one_plain_answer exact one limit w events others outcome other a b known sure =
    plain_from exact one limit a.reads b.reads a.old a.new b.old b.new a.left b.left w a.taken b.taken events others outcome other a.consumes b.consumes a.ends b.ends known sure
