-- The state of a reader of records after each prefix of a run of bytes.
use Rattle.std.proofs.Common.{◌≡◌, ◌≢◌, ℕ, ◌+◌, ◌-◌, ◌^◌, ◌<◌, ◌≤◌, List, [], ◌∷◌, ◌++◌, length, take, drop, get_or, sym, ◌∙◌, ap, append_assoc, append-nil, arith, refl, subst, inl, inr, length-append, length-take-le, take-append-drop, take-add}
use Rattle.std.specs.Prelude.{slice_index, Result, Ok, Err, OnOk}
use Rattle.std.proofs.lemmas.List.{take_more}
use Rattle.std.proofs.lemmas.Grind.{common_steps}
use Rattle.mes_frame.proofs.Records.{begun_of, data_goes_on}
use Rattle.mes_frame.specs.Record.{IsRecord, Begun, DataBegun}
use Rattle.mes_frame.specs.RecordState.{RecordStands, limit_of}
use Rattle.mes_stream.specs.Stream.{saturated, Records, Following, BodyLive, number_after, EndsRecord, HasValue, InRecordData, RunsOut, BodyStops}
use Rattle.mes_stream.specs.Framings.{GoesIn, ByteStopsIn, SaysIn, StopsWithin}
use Rattle.mes_stream.specs.declared.stream_reader.Framing.{Framing}
use Rattle.mes_stream.specs.declared.stream_reader.Framing.TheVariants.{Plain}
use Rattle.mes_stream.specs.RecordValues.{AddsValue}
use Rattle.mes_stream.specs.Taking.{BodyRepresents, Ends, EndsInto, record_answer, fault_of_record}
use Rattle.mes_stream.specs.declared.record_error.RecordError.{RecordError}
use Rattle.mes_stream.specs.declared.record_error.RecordError.TheVariants as refusal
use Rattle.mes_stream.specs.declared.fault.Fault.{Fault}
use Rattle.mes_stream.specs.declared.record_body.Body.{Body}
use Rattle.mes_stream.proofs.PlainLaw.{same_last}

pub take_take : (m n : ℕ) (xs : List ℕ) → m ≤ n → take m (take n xs) ≡ take m xs
take_take m n xs le = grind (arith, common_steps)

-- ---- the last byte of a record's data

last_of : (a : ℕ) (r : List ℕ) → (front : List ℕ) × (last : ℕ) × (a ∷ r ≡ front ++ last ∷ [])
last_of a [] = ([], a, refl)
last_of a (b ∷ r) = let h = last_of b r in (a ∷ h.0, h.1, ap (λ (x : List ℕ). a ∷ x) h.2)

pub last_split : (r : List ℕ) → r ≢ [] → (front : List ℕ) × (last : ℕ) × (r ≡ front ++ last ∷ [])
last_split [] some = absurd (some refl)
last_split (a ∷ r) some = last_of a r

-- before the last byte of a record that has data, exactly one byte of data is missing
last_begun : (limit : ℕ) (x r : List ℕ) (c : ℕ) → IsRecord (x ++ c ∷ []) r limit → r ≢ [] → (front : List ℕ) × DataBegun x front 1 limit × (r ≡ front ++ c ∷ [])
last_begun limit x r c is some =
    let d = last_split r some in
    let spelt : x ++ c ∷ [] ≡ (is.size ++ 10 ∷ d.0) ++ d.1 ∷ [] = is.spelt ∙ ap (λ (y : List ℕ). is.size ++ 10 ∷ y) d.2 ∙ sym (append_assoc is.size (10 ∷ d.0) (d.1 ∷ [])) in
    let ends = same_last x (is.size ++ 10 ∷ d.0) c d.1 spelt in
    let count = ap length d.2 ∙ length-append d.0 (d.1 ∷ []) in
    let value = is.value in
    let within = is.within in (
      d.0,
      record { size = is.size; is_size = is.is_size; spelt = ends.0; value = value ∙ count; within = omega (arith, value, within); some = omega arith },
      d.2 ∙ ap (λ (y : ℕ). d.0 ++ y ∷ []) (sym ends.1),
    )

-- the data r, n bytes of a run, and the next byte of the run
pub one_more : (r run : List ℕ) (n : ℕ) → n < length run → r ++ take (n + 1) run ≡ (r ++ take n run) ++ slice_index run n ∷ []
one_more r run n inside = ap (λ (y : List ℕ). r ++ y) (take_more run n 0 inside) ∙ sym (append_assoc r (take n run) (slice_index run n ∷ []))

-- an allocation failed for the data of a record that ends with the byte c
pub ends_runs_out : {E : Type 0} (spells : List ℕ → E → Type 0) (breaks : List ℕ → RecordError → Type 0) (limit : ℕ) (b : List ℕ) (values : List E) (c : ℕ)
    → EndsRecord spells limit b values c (λ r. (r ≢ []) × breaks r refusal.NoMemory) → RunsOut spells breaks limit b values c
ends_runs_out spells breaks limit b values c h =
    let last = last_begun limit h.x h.is.0 c h.is.1 h.is.2.0 in
    record {
      whole = h.whole;
      x = h.x;
      spelt = h.spelt;
      records = h.records;
      is = (last.0, 1, last.1, subst (λ (y : List ℕ). breaks y refusal.NoMemory) last.2 h.is.2.1);
    }

some_run : (r run : List ℕ) (count : ℕ) → 0 < count → count ≤ length run → r ++ take count run ≢ []
some_run r run count some within none =
    let len = ap length none in
    let sum = length-append r (take count run) in
    let size = length-take-le count run within in
    absurd (omega (arith, some, len, sum, size))

pub saturated_more : (n : ℕ) → saturated (saturated n + 1) ≡ saturated (n + 1)
saturated_more n = omega arith

module _ {R E : Type 0} (holds : R → List ℕ → Type 0) (spells : List ℕ → E → Type 0) (ahead : ℕ) where
  pub records_more : (limit : ℕ) (b f r : List ℕ) (values : List E) (value : E) → Records spells limit b values → IsRecord f r limit → spells r value
      → Records spells limit (b ++ f) (values ++ value ∷ [])
  records_more limit b f r [] value none is says = (f, [], r, is, says, (rw none (sym (append-nil f))), refl)
  records_more limit b f r (e ∷ values) value (front, rest, r0, is_front, before, spelt, following) is says =
      (front, rest ++ f, r0, is_front, before, (ap (λ (x : List ℕ). x ++ f) spelt ∙ append_assoc front rest f), records_more limit rest f r values value following is says)

  -- the bytes b that a reader has consumed are a prefix of a stream
  pub live_of : (d : Body R) (b : List ℕ) (values : List E) → BodyRepresents holds spells ahead d b values → BodyLive spells (limit_of d.records) b values
  live_of d b values s = record { whole = s.whole; x = s.x; spelt = s.spelt; records = s.records; is = (s.r, begun_of d.records s.x s.r s.state) }

  -- the number of the next record is `done` + 1
  pub number_of : (d : Body R) (b : List ℕ) (values : List E) → BodyRepresents holds spells ahead d b values → saturated (d.done + 1) ≡ number_after ahead values
  number_of d b values s = ap (λ (n : ℕ). saturated (n + 1)) s.count ∙ saturated_more (ahead + length values)

  -- `Is` holds for the bytes after the complete records, followed by p
  pub behind_on : (d : Body R) (b p : List ℕ) (values : List E) (s : BodyRepresents holds spells ahead d b values) (Is : List ℕ → Type 0) → Is (s.x ++ p)
      → Following spells (limit_of d.records) Is (b ++ p) values
  behind_on d b p values s Is h = record {
    whole = s.whole;
    x = s.x ++ p;
    spelt = ap (λ (y : List ℕ). y ++ p) s.spelt ∙ append_assoc s.whole s.x p;
    records = s.records;
    is = h;
  }

  -- the state after bytes p that end no record
  pub stands_on : (d new : Body R) (b p r : List ℕ) (values : List E) (s : BodyRepresents holds spells ahead d b values) → new.done ≡ d.done
      → limit_of new.records ≡ limit_of d.records → holds new.reader r → RecordStands new.records (s.x ++ p) r → BodyRepresents holds spells ahead new (b ++ p) values
  stands_on d new b p r values s done limit kept state = record {
    whole = s.whole;
    x = s.x ++ p;
    r = r;
    spelt = ap (λ (y : List ℕ). y ++ p) s.spelt ∙ append_assoc s.whole s.x p;
    records = rw limit s.records;
    state = state;
    kept = kept;
    count = done ∙ s.count;
    limit = rw limit s.limit;
  }

  -- the state after a run of data that ends a record with a value
  pub stands_value : (d new : Body R) (b p r : List ℕ) (values : List E) (value : E) (s : BodyRepresents holds spells ahead d b values) → new.done ≡ saturated (d.done + 1)
      → limit_of new.records ≡ limit_of d.records → holds new.reader [] → IsRecord (s.x ++ p) r (limit_of d.records)
      → RecordStands new.records [] [] → spells r value → BodyRepresents holds spells ahead new (b ++ p) (values ++ value ∷ [])
  stands_value d new b p r values value s done limit kept is state says = record {
    whole = s.whole ++ (s.x ++ p);
    x = [];
    r = [];
    spelt = (ap (λ (y : List ℕ). y ++ p) s.spelt ∙ append_assoc s.whole s.x p) ∙ sym (append-nil (s.whole ++ (s.x ++ p)));
    records = rw limit (records_more (limit_of d.records) s.whole (s.x ++ p) r values value s.records is says);
    state = state;
    kept = kept;
    count = done ∙ (let count = s.count in let len = length-append values (value ∷ []) in omega arith);
    limit = rw limit s.limit;
  }

  -- the consumed bytes before a run are a prefix of a stream
  pub first_live : (d : Body R) (b run : List ℕ) (values : List E) (n : ℕ) → BodyRepresents holds spells ahead d b values → n < 1
      → BodyLive spells (limit_of d.records) (b ++ take n run) values
  first_live d b run values n s first =
      let none : 0 ≡ n = omega arith in
      subst (λ (m : ℕ). BodyLive spells (limit_of d.records) (b ++ take m run) values) none (rw (append-nil b) (live_of d b values s))

  -- the bytes up to a byte in a size line are a prefix of a stream
  pub size_live : (d : Body R) (b run r : List ℕ) (values : List E) (n limit : ℕ) (s : BodyRepresents holds spells ahead d b values) → limit ≡ limit_of d.records
      → Begun (s.x ++ take n run) r limit → BodyLive spells limit (b ++ take n run) values
  size_live d b run r values n limit s same begun =
      rw same (behind_on d b (take n run) values s (λ x. (r : List ℕ) × Begun x r (limit_of d.records)) (r, rw same at begun))

  -- the bytes up to a byte of a record's data are a prefix of a stream
  pub data_on : (d : Body R) (b run : List ℕ) (values : List E) (n left : ℕ) (s : BodyRepresents holds spells ahead d b values) → n < left → n ≤ length run
      → DataBegun s.x s.r left (limit_of d.records) → DataBegun (s.x ++ take n run) (s.r ++ take n run) (left - n) (limit_of d.records)
  data_on d b run values n left s inside within begun =
      let len : length (take n run) ≡ n = length-take-le n run within in
      subst (λ (m : ℕ). DataBegun (s.x ++ take n run) (s.r ++ take n run) (left - m) (limit_of d.records)) len
      (data_goes_on s.x s.r (take n run) left (limit_of d.records) begun (omega arith))

  pub data_live : (d : Body R) (b run : List ℕ) (values : List E) (n left : ℕ) (s : BodyRepresents holds spells ahead d b values) → n < left → n ≤ length run
      → DataBegun s.x s.r left (limit_of d.records) → BodyLive spells (limit_of d.records) (b ++ take n run) values
  data_live d b run values n left s inside within begun =
      behind_on d b (take n run) values s (λ x. (r : List ℕ) × Begun x r (limit_of d.records)) (s.r ++ take n run, inr (left - n, data_on d b run values n left s inside within begun))

  pub data_next : (d : Body R) (b run : List ℕ) (values : List E) (n left : ℕ) (s : BodyRepresents holds spells ahead d b values) (Is : List ℕ → Type 0) → n < left → n ≤ length run
      → DataBegun s.x s.r left (limit_of d.records) → Is (s.r ++ take n run) → InRecordData spells (limit_of d.records) (b ++ take n run) values Is
  data_next d b run values n left s Is inside within begun is =
      behind_on d b (take n run) values s (λ x. (r : List ℕ) × (left : ℕ) × DataBegun x r left (limit_of d.records) × Is r)
      (s.r ++ take n run, left - n, data_on d b run values n left s inside within begun, is)

  -- the record ends with the last of the first `count` bytes of a run
  pub ends_with : (d : Body R) (b run r : List ℕ) (values : List E) (count : ℕ) (s : BodyRepresents holds spells ahead d b values) (Is : List ℕ → Type 0) → 0 < count → count ≤ length run
      → IsRecord (s.x ++ take count run) r (limit_of d.records) → Is r
      → EndsRecord spells (limit_of d.records) (b ++ take (count - 1) run) values (slice_index run (count - 1)) Is
  ends_with d b run r values count s Is some within is h =
      let whole : take count run ≡ take (count - 1) run ++ get_or run (count - 1) 0 ∷ [] =
      ap (λ (n : ℕ). take n run) (let e : count ≡ (count - 1) + 1 = omega (arith, some) in e) ∙ take_more run (count - 1) 0 (omega (arith, some, within)) in
      behind_on d b (take (count - 1) run) values s (λ x. (r : List ℕ) × IsRecord (x ++ slice_index run (count - 1) ∷ []) r (limit_of d.records) × Is r)
      (r, subst (λ (y : List ℕ). IsRecord y r (limit_of d.records)) (ap (λ (y : List ℕ). s.x ++ y) whole ∙ sym (append_assoc s.x (take (count - 1) run) (get_or run (count - 1) 0 ∷ []))) is, h)

  module _ (breaks : List ℕ → RecordError → Type 0) where
    -- the record that ends after `count` bytes has no value, or an allocation for it failed
    pub refused_with : (d : Body R) (b run r : List ℕ) (values : List E) (count : ℕ) (why : RecordError) (s : BodyRepresents holds spells ahead d b values) → 0 < count → count ≤ length run
        → r ≢ [] → IsRecord (s.x ++ take count run) r (limit_of d.records) → breaks r why
        → BodyStops spells breaks ahead (limit_of d.records) (b ++ take (count - 1) run) values (slice_index run (count - 1)) (fault_of_record d.done why)
    refused_with d b run r values count (refusal.Text f) s some within filled is h =
        inl (ends_with d b run r values count s (λ r. breaks r (refusal.Text (record { byte = f.byte; why = f.why }))) some within is h, number_of d b values s)
    refused_with d b run r values count (refusal.Field f) s some within filled is h =
        inl (ends_with d b run r values count s (λ r. breaks r (refusal.Field (record { path = f.path; why = f.why }))) some within is h, number_of d b values s)
    refused_with d b run r values count refusal.BadEntry s some within filled is h =
        inl (ends_with d b run r values count s (λ r. breaks r refusal.BadEntry) some within is h, number_of d b values s)
    refused_with d b run r values count refusal.NoMemory s some within filled is h =
        inr (
          refl,
          ends_runs_out spells breaks (limit_of d.records) (b ++ take (count - 1) run) values (slice_index run (count - 1))
              (ends_with d b run r values count s (λ r. (r ≢ []) × breaks r refusal.NoMemory) some within is (filled, h)),
        )

    -- the meaning of a step whose data ended the record, from the result `answer` for the record
    pub ends_as : (d mid new : Body R) (b run : List ℕ) (values : List E) (count left : ℕ) (answer : Result E RecordError) (s : BodyRepresents holds spells ahead d b values) → 0 < count → count ≤ length run → count ≤ left
        → DataBegun s.x s.r left (limit_of d.records) → mid.done ≡ d.done → limit_of new.records ≡ limit_of d.records
        → IsRecord (s.x ++ take count run) (s.r ++ take count run) (limit_of d.records) → RecordStands new.records [] []
        → Ends holds spells breaks mid new (s.r ++ take count run) answer → SaysIn Plain (BodyRepresents holds spells ahead new) spells breaks ahead (limit_of new.records) b values run count (record_answer new.done answer)
    ends_as d mid new b run values count left (Ok value) s some within inside begun done limit is state (says, ready, more) = (
      stands_value d new b (take count run) (s.r ++ take count run) values value s (more ∙ ap (λ (n : ℕ). saturated (n + 1)) done) limit ready is state says,
      rw limit (ends_with d b run (s.r ++ take count run) values count s (HasValue spells value) some within is (some_run s.r run count some within, says)),
    )
    ends_as d mid new b run values count left (Err why) s some within inside begun done limit is state (h, more) =
        rw (more, done, limit) (refused_with d b run (s.r ++ take count run) values count why s some within (some_run s.r run count some within) is h)

  -- the data of a complete record have fewer than 2^64 bytes
  pub whole_fits : (d : Body R) (b x r : List ℕ) (values : List E) → BodyRepresents holds spells ahead d b values → IsRecord x r (limit_of d.records) → length r < 2 ^ 64
  whole_fits d b x r values s is = let within = is.within in let small = s.limit in omega arith

pub run_split : (rest : List ℕ) (m : ℕ) → m < length rest → rest ≡ take m rest ++ get_or rest m 0 ∷ drop (m + 1) rest
run_split rest m lt =
    sym (take-append-drop (m + 1) rest) ∙ rw (take_more rest m 0 lt) (append_assoc (take m rest) (get_or rest m 0 ∷ []) (drop (m + 1) rest))

module _ {E : Type 0} (framing : Framing) (spells : List ℕ → E → Type 0) (breaks : List ℕ → RecordError → Type 0) (ahead : ℕ) where
  -- an error after `used` bytes of the rest of a piece is an error of the piece
  pub stops_in : (limit : ℕ) (b piece : List ℕ) (values : List E) (fault : Fault) (at used : ℕ) → at ≤ length piece → 0 < used → used ≤ length (drop at piece)
      → GoesIn framing spells limit ((b ++ take at piece) ++ take (used - 1) (drop at piece)) values
      → ByteStopsIn framing spells breaks ahead limit ((b ++ take at piece) ++ take (used - 1) (drop at piece)) values (slice_index (drop at piece) (used - 1)) fault
      → StopsWithin framing spells breaks ahead limit (b ++ piece) values fault (length b + (at + used))
  stops_in limit b piece values fault at used inside some within live stops = record {
    front = (b ++ take at piece) ++ take (used - 1) (drop at piece);
    byte = slice_index (drop at piece) (used - 1);
    rest = drop (used - 1 + 1) (drop at piece);
    is = ap (λ (y : List ℕ). b ++ y) (sym (take-append-drop at piece)) ∙ sym (append_assoc b (take at piece) (drop at piece))
        ∙ ap (λ (y : List ℕ). (b ++ take at piece) ++ y) (run_split (drop at piece) (used - 1) (omega (arith, some, within)))
        ∙ sym (append_assoc (b ++ take at piece) (take (used - 1) (drop at piece)) (slice_index (drop at piece) (used - 1) ∷ drop (used - 1 + 1) (drop at piece)));
    used = omega (
      arith,
      some,
      length-append (b ++ take at piece) (take (used - 1) (drop at piece)),
      length-append b (take at piece),
      length-take-le at piece inside,
      length-take-le (used - 1) (drop at piece) (omega (arith, within)),
    );
    live = live;
    stops = stops;
  }

-- `EndsInto` holds for a complete record whose value was appended to a list, or was not
pub ends_into : {R E T : Type 0} (holds : R → List ℕ → Type 0) (spells : List ℕ → E → Type 0) (breaks : List ℕ → RecordError → Type 0) (old new : Body R) (r : List ℕ) (before after : List E) (result : Result T RecordError)
    → AddsValue spells breaks (holds new.reader []) r before after result → OnOk result (holds new.reader []) → new.done ≡ saturated (old.done + 1) → EndsInto holds spells breaks old new r before after result
ends_into holds spells breaks old new r before after (Ok done) (value, says, is) ready more = (value, (says, ready, more), is)
ends_into holds spells breaks old new r before after (Err why) (inl h, same) ready more = (inl (h, more), same)
ends_into holds spells breaks old new r before after (Err why) (inr (none, has, next), same) ready more = (inr (none, (has.0, (has.1, next, more))), same)

-- the first `at` bytes of a piece and the next `used` bytes are the first `at + used` bytes
pub piece_on : (b piece : List ℕ) (at used : ℕ) → (b ++ take at piece) ++ take used (drop at piece) ≡ b ++ take (at + used) piece
piece_on b piece at used = append_assoc b (take at piece) (take used (drop at piece)) ∙ ap (λ (p : List ℕ). b ++ p) (sym (take-add at used piece))

-- the state after `used` bytes of the rest of a piece is that after `at + used` bytes of the piece
pub value_on : {E : Type 0} (Represents : List ℕ → List E → Type 0) (b piece : List ℕ) (values more : List E) (value : E) (at used : ℕ)
    → Represents ((b ++ take at piece) ++ take used (drop at piece)) ((values ++ more) ++ value ∷ []) → Represents (b ++ take (at + used) piece) (values ++ (more ++ value ∷ []))
value_on {E = E} Represents b piece values more value at used s =
    subst (λ (w : List ℕ). Represents w (values ++ (more ++ value ∷ []))) (piece_on b piece at used)
    (subst (λ (vs : List E). Represents ((b ++ take at piece) ++ take used (drop at piece)) vs) (append_assoc values more (value ∷ [])) s)
