-- The state of a reader of JSON Lines after each prefix of a run of bytes.
use Rattle.std.proofs.Common.{◌≡◌, ◌≢◌, ℕ, ◌+◌, ◌-◌, ◌^◌, ◌<◌, ◌≤◌, ◌⊎◌, Bool, true, false, zero, suc, List, [], ◌∷◌, ◌++◌, length, take, drop, nat_lt, min, sym, ◌∙◌, ap, append_assoc, append-nil, arith, refl, subst, inl, inr, length-append, length-take-le, take-append-drop}
use Rattle.std.specs.Prelude.{slice_index, Result, Ok, Err}
use Rattle.std.proofs.lemmas.Bool.{ltb-true, ltb-false}
use Rattle.std.proofs.lemmas.List.{nil_from_length, get_or-take}
use Rattle.mes_frame.specs.RecordState.{limit_of}
use Rattle.mes_frame.specs.declared.fault.FrameFault.TheVariants.{RecordTooLarge}
use Rattle.mes_frame.specs.declared.record.RecordState.{RecordState}
use Rattle.mes_frame.proofs.Records.{begun_of}
use Rattle.mes_frame.specs.Record.{Begun}
use Rattle.mes_stream.specs.Decoders.{HoldsInLine}
use Rattle.mes_stream.specs.Framings.{SaysIn}
use Rattle.mes_stream.specs.JsonLines.{AreLines, EndsInsideLine, LinesThen, LinesLive, LinesStop, FailsInLine}
use Rattle.mes_stream.specs.LineBodies.{HasTaken, LineStands, LineRepresents, LineHolds}
use Rattle.mes_stream.specs.LineRecord.{IsLine, HasNoCr, IsRecordOf, IsFilled, LineBegun, LineTooLong, line_feeds_in}
use Rattle.mes_stream.specs.Stream.{saturated, number_after, HasValue}
use Rattle.mes_stream.specs.Refusals.{fault_at_record}
use Rattle.mes_stream.specs.Taking.{BodyRepresents, Ends, record_answer}
use Rattle.mes_stream.specs.declared.fault.Fault.TheVariants.{Frame, NoMemory}
use Rattle.mes_stream.specs.declared.line_body.LineBody.{LineBody}
use Rattle.mes_stream.specs.declared.record_body.Body.{Body}
use Rattle.mes_stream.specs.declared.record_error.RecordError.{RecordError}
use Rattle.mes_stream.specs.declared.record_error.RecordError.TheVariants as refusal
use Rattle.mes_stream.specs.declared.stream_reader.Framing.TheVariants.{Lines}
use Rattle.mes_stream.proofs.BodyLemmas.{one_more, take_take, saturated_more, last_split}
use Rattle.mes_stream.proofs.LineFeeds.{line_feeds_ended, line_feeds_on}
use Rattle.mes_stream.proofs.LineRecords.{none_last, front_line, line_more, no_lf}
use Rattle.mes_stream.proofs.LinesMore.{lines_more, lines_blank, no_lines}
use Rattle.mes_stream.proofs.PlainLaw.{same_last}

-- the part x of a line is within the limit, if the reader of records has consumed r
pub begun_taken : (cr : Bool) (x r : List ℕ) (limit : ℕ) → HasTaken cr x r → IsLine x → length r ≤ limit → LineBegun x limit
begun_taken true x r limit has is within = record { is = is; within = inr (r, has, within) }
begun_taken false x r limit has is within = let len = ap length has.0 in record { is = is; within = inl (omega (arith, len, within)) }

pub record_taken : (cr : Bool) (x r : List ℕ) → HasTaken cr x r → IsRecordOf x r
record_taken true x r has = inl has
record_taken false x r has = inr has

-- a line that goes on with bytes that do not end with CR
pub no_cr_on : (x line : List ℕ) → line ≢ [] → HasNoCr line → HasNoCr (x ++ line)
no_cr_on x line some none front same =
    let d = last_split line some in
    let ends = same_last (x ++ d.0) front d.1 13 (append_assoc x d.0 (d.1 ∷ []) ∙ ap (λ (y : List ℕ). x ++ y) (sym d.2) ∙ same) in
    none d.0 (d.2 ∙ ap (λ (n : ℕ). d.0 ++ n ∷ []) ends.1)

-- the reader of records has consumed m of the n bytes `line` after x, where m is less than n if and
-- only if `cr` is true
pub taken_on : (cr : Bool) (x line : List ℕ) (m : ℕ) → line ≢ [] → m ≤ length line → (cr ≡ true → m < length line) → (cr ≡ false → length line ≤ m) → IsRecordOf line (take m line) → HasTaken cr (x ++ line) (x ++ take m line)
taken_on true x line m some within less more (inl is) = ap (λ (y : List ℕ). x ++ y) is ∙ sym (append_assoc x (take m line) (13 ∷ []))
taken_on true x line m some within less more (inr (is, none)) =
    let short = less refl in let len = ap length is in let size = length-take-le m line within in absurd (omega (arith, short, len, size))
taken_on false x line m some within less more (inl is) =
    let long = more refl in let len = ap length is in let size = length-take-le m line within in let sum = length-append (take m line) (13 ∷ []) in absurd (omega (arith, long, len, size, sum))
taken_on false x line m some within less more (inr (is, none)) = (ap (λ (y : List ℕ). x ++ y) is, no_cr_on x line some none)

-- the front of a line
pub take_line : (k n : ℕ) (run : List ℕ) → k ≤ n → IsLine (take n run) → IsLine (take k run)
take_line k n run le is =
    subst (λ (y : List ℕ). IsLine y) (take_take k n run le) (front_line (take k (take n run)) (drop k (take n run)) (subst (λ (y : List ℕ). IsLine y) (sym (take-append-drop k (take n run))) is))

-- a byte of a line is not LF
not_lf : (line : List ℕ) (k : ℕ) → IsLine line → k < length line → slice_index line k ≢ 10
not_lf [] k is inside = absurd (omega arith)
not_lf (c ∷ line) zero is inside = is.0
not_lf (c ∷ line) (suc k) is inside = not_lf line k is.1 (omega arith)

pub byte_of_line : (run : List ℕ) (k n : ℕ) → IsLine (take n run) → k < n → n ≤ length run → slice_index run k ≢ 10
byte_of_line run k n is inside within =
    let size = length-take-le n run within in
    subst (λ (c : ℕ). c ≢ 10) (get_or-take n run k 0 inside) (not_lf (take n run) k is (omega (arith, inside, size)))

-- x and k bytes of a run are a part of a line
pub part_begun : (x run : List ℕ) (k n limit : ℕ) → IsLine x → IsLine (take n run) → k ≤ n → k ≤ length run → length x + k ≤ limit → LineBegun (x ++ take k run) limit
part_begun x run k n limit is line le inside within =
    let sum = length-append x (take k run) in let size = length-take-le k run inside in
    record { is = line_more x (take k run) is (take_line k n run le line); within = inl (omega (arith, within, sum, size)) }

-- a record that has no byte yet has no data
no_data : (x r : List ℕ) (limit : ℕ) → x ≡ [] → Begun x r limit → r ≡ []
no_data x r limit none (inl (begun, empty)) = empty
no_data x r limit none (inr (left, begun)) =
    let len = ap length (sym none ∙ begun.spelt) in let sum = length-append begun.size (10 ∷ r) in absurd (omega (arith, len, sum))

-- a part of a line without bytes
pub taken_none : (cr : Bool) (x r : List ℕ) → HasTaken cr x r → x ≡ [] → (cr ≡ false) × (length r ≡ 0)
taken_none true x r has none = let len = ap length (sym none ∙ has) in let sum = length-append r (13 ∷ []) in absurd (omega (arith, len, sum))
taken_none false x r has none = (refl, ap length (sym has.0 ∙ none))

-- the bytes after a LF are whole lines
pub lf_last : (w whole x : List ℕ) → IsLine x → w ++ 10 ∷ [] ≡ whole ++ x → x ≡ []
lf_last w whole [] is same = refl
lf_last w whole (a ∷ x) is same =
    let d = last_split (a ∷ x) (λ none. absurd (cc)) in
    let ends = same_last w (whole ++ d.0) 10 d.1 (same ∙ ap (λ (y : List ℕ). whole ++ y) d.2 ∙ sym (append_assoc whole d.0 (d.1 ∷ []))) in
    absurd (no_lf d.0 [] (subst (λ (n : ℕ). IsLine (d.0 ++ n ∷ [])) (sym ends.1) (subst (λ (y : List ℕ). IsLine y) d.2 is)))

module _ {R E : Type 0} (holds : R → List ℕ → Type 0) (spells : List ℕ → E → Type 0) (ahead : ℕ) where
  module _ (Has : List ℕ → List ℕ → Type 0) (d : LineBody R) (b : List ℕ) (values : List E) (s : LineStands holds spells ahead Has d b values) where
    -- `Is` holds for the bytes after the whole lines, followed by p
    pub line_on : (p : List ℕ) (Is : List ℕ → Type 0) → Is (s.x ++ p) → LinesThen spells d.limit Is (b ++ p) values
    line_on p Is h = record { whole = s.whole; x = s.x ++ p; spelt = ap (λ (y : List ℕ). y ++ p) s.spelt ∙ append_assoc s.whole s.x p; lines = s.lines; is = h }

    pub line_at : (Is : List ℕ → Type 0) → Is s.x → LinesThen spells d.limit Is b values
    line_at Is h = record { whole = s.whole; x = s.x; spelt = s.spelt; lines = s.lines; is = h }

    -- the number of the next record is `done` + 1
    pub line_number : saturated (d.body.done + 1) ≡ number_after ahead values
    line_number = ap (λ (n : ℕ). saturated (n + 1)) s.count ∙ saturated_more (ahead + length values)

    -- the state after the bytes p, which are not LF
    pub line_stands : (After : List ℕ → List ℕ → Type 0) (new : LineBody R) (p r : List ℕ) → IsLine (s.x ++ p) → After (s.x ++ p) r → holds new.body.reader r → new.count ≡ length r → length r ≤ new.limit → new.limit ≡ d.limit
        → new.body.done ≡ d.body.done → new.body.records ≡ d.body.records → new.line_feeds ≡ d.line_feeds → LineStands holds spells ahead After new (b ++ p) values
    line_stands After new p r is has kept bytes within limit done records line_feeds = record {
      whole = s.whole;
      x = s.x ++ p;
      r = r;
      spelt = ap (λ (y : List ℕ). y ++ p) s.spelt ∙ append_assoc s.whole s.x p;
      lines = subst (λ (n : ℕ). AreLines spells n s.whole values) (sym limit) s.lines;
      is = is;
      has = has;
      kept = kept;
      bytes = bytes;
      within = within;
      count = done ∙ s.count;
      same = ap (λ (t : RecordState). limit_of t) records ∙ s.same ∙ sym limit;
      small = let small = s.small in omega (arith, small, limit);
      line_feeds = line_feeds ∙ s.line_feeds ∙ ap (λ (n : ℕ). saturated n) (sym (line_feeds_on b s.x p is));
    }

  -- the bytes that a reader has consumed are a prefix of a stream
  pub line_live : (d : LineBody R) (b : List ℕ) (values : List E) → LineRepresents holds spells ahead d b values → LinesLive spells d.limit b values
  line_live d b values s = line_at (HasTaken d.cr) d b values s (λ x. LineBegun x d.limit) (begun_taken d.cr s.x s.r d.limit s.has s.is s.within)

  -- the state before the first byte of a line
  line_start : (limit line_feeds : ℕ) (body : Body R) (whole : List ℕ) (values : List E) → AreLines spells limit whole values → holds body.reader [] → body.done ≡ saturated (ahead + length values) → limit_of body.records ≡ limit → limit < 2 ^ 64
      → line_feeds ≡ saturated (line_feeds_in whole) → LineRepresents holds spells ahead (record { limit = limit; count = 0; cr = false; line_feeds = line_feeds; body = body }) whole values
  line_start limit line_feeds body whole values lines kept count same small feeds = record {
    whole = whole;
    x = [];
    r = [];
    spelt = sym (append-nil whole);
    lines = lines;
    is = tt;
    has = (refl, none_last);
    kept = kept;
    bytes = refl;
    within = omega arith;
    count = count;
    same = same;
    small = small;
    line_feeds = feeds;
  }

  -- the state before the first byte
  pub line_new : (limit : ℕ) (body : Body R) → limit_of body.records ≡ limit → BodyRepresents holds spells ahead body [] [] → LineRepresents holds spells ahead (record { limit = limit; count = 0; cr = false; line_feeds = 0; body = body }) [] []
  line_new limit body same s =
      let size = ap length s.spelt in
      let sum = length-append s.whole s.x in
      let none : s.x ≡ [] = nil_from_length s.x (omega (arith, size, sum)) in
      let empty : s.r ≡ [] = no_data s.x s.r (limit_of body.records) none (begun_of body.records s.x s.r s.state) in
      line_start limit 0 body [] [] (no_lines spells limit) (subst (λ (y : List ℕ). holds body.reader y) empty s.kept) s.count same (let small = s.limit in omega (arith, small, same)) (omega arith)

  -- after whole lines
  pub line_whole : (d : LineBody R) (b : List ℕ) (values : List E) (s : LineRepresents holds spells ahead d b values) → s.x ≡ [] → AreLines spells d.limit b values
  line_whole d b values s none = subst (λ (y : List ℕ). AreLines spells d.limit y values) (sym (s.spelt ∙ ap (λ (y : List ℕ). s.whole ++ y) none ∙ append-nil s.whole)) s.lines

  pub line_none : (d : LineBody R) (b : List ℕ) (values : List E) (s : LineRepresents holds spells ahead d b values) → d.count ≡ 0 → d.cr ≡ false → s.x ≡ []
  line_none d b values s none_yet not =
      let has : HasTaken false s.x s.r = subst (λ (t : Bool). HasTaken t s.x s.r) not s.has in
      has.0 ∙ nil_from_length s.r (sym s.bytes ∙ none_yet)

  -- inside a line
  pub line_inside : (d : LineBody R) (b : List ℕ) (values : List E) (s : LineRepresents holds spells ahead d b values) → (s.x ≡ [] → ⊥) → EndsInsideLine spells d.limit b values
  line_inside d b values s some =
      line_at (HasTaken d.cr) d b values s (λ x. (x ≢ []) × LineBegun x d.limit) (some, begun_taken d.cr s.x s.r d.limit s.has s.is s.within)

  module _ (d : LineBody R) (b : List ℕ) (values : List E) (s : LineRepresents holds spells ahead d b values) where
    -- the bytes and a LF
    with_lf : b ++ 10 ∷ [] ≡ s.whole ++ (s.x ++ 10 ∷ [])
    with_lf = ap (λ (y : List ℕ). y ++ 10 ∷ []) s.spelt ∙ append_assoc s.whole s.x (10 ∷ [])

    -- the number of line feeds after a LF
    one_more_feed : saturated (d.line_feeds + 1) ≡ saturated (line_feeds_in (s.whole ++ (s.x ++ 10 ∷ [])))
    one_more_feed = let feeds = s.line_feeds in let all = ap line_feeds_in with_lf in let more = line_feeds_ended b in omega (arith, feeds, all, more)

    -- the state after the LF of a line that is passed over
    pub line_passed : d.count ≡ 0 → LineRepresents holds spells ahead (record { limit = d.limit; count = 0; cr = false; line_feeds = saturated (d.line_feeds + 1); body = d.body }) (b ++ 10 ∷ []) values
    line_passed none_yet =
        let none : s.r ≡ [] = nil_from_length s.r (sym s.bytes ∙ none_yet) in
        rw with_lf (line_start d.limit (saturated (d.line_feeds + 1)) d.body (s.whole ++ (s.x ++ 10 ∷ [])) values
        (lines_blank spells d.limit s.whole s.x values s.lines (record { is = s.is; content = subst (λ (y : List ℕ). IsRecordOf s.x y) none (record_taken d.cr s.x s.r s.has) }))
        (subst (λ (y : List ℕ). holds d.body.reader y) none s.kept) s.count s.same s.small one_more_feed)

    -- the record of a line that is not passed over
    pub line_filled : d.count ≢ 0 → IsFilled s.x s.r d.limit
    line_filled some = record { is = s.is; content = record_taken d.cr s.x s.r s.has; some = λ none. some (s.bytes ∙ ap length none); within = s.within }

    module _ (breaks : List ℕ → RecordError → Type 0) where
      -- a line without a value, or an allocation for its record failed
      line_refused : (number : ℕ) (why : RecordError) → number ≡ saturated (d.body.done + 1) → d.count ≢ 0 → breaks s.r why → LinesStop spells breaks ahead d.limit b values 10 (fault_at_record number why)
      line_refused number (refusal.Text f) is some h =
          inl ((refl, line_at (HasTaken d.cr) d b values s (λ x. (r : List ℕ) × IsFilled x r d.limit × breaks r (refusal.Text (record { byte = f.byte; why = f.why }))) (s.r, line_filled some, h)), is ∙ line_number (HasTaken d.cr) d b values s)
      line_refused number (refusal.Field f) is some h =
          inl ((refl, line_at (HasTaken d.cr) d b values s (λ x. (r : List ℕ) × IsFilled x r d.limit × breaks r (refusal.Field (record { path = f.path; why = f.why }))) (s.r, line_filled some, h)), is ∙ line_number (HasTaken d.cr) d b values s)
      line_refused number refusal.BadEntry is some h =
          inl ((refl, line_at (HasTaken d.cr) d b values s (λ x. (r : List ℕ) × IsFilled x r d.limit × breaks r refusal.BadEntry) (s.r, line_filled some, h)), is ∙ line_number (HasTaken d.cr) d b values s)
      line_refused number refusal.NoMemory is some h =
          inr (refl, inr (refl, line_at (HasTaken d.cr) d b values s (λ x. (r : List ℕ) × IsFilled x r d.limit × breaks r refusal.NoMemory) (s.r, line_filled some, h)))

      -- the meaning of the LF of a line, from the result `answer` for its record
      pub line_ended : (rest : List ℕ) (after : Body R) (answer : Result E RecordError) → d.count ≢ 0 → after.records ≡ d.body.records → Ends holds spells breaks d.body after s.r answer
          → SaysIn Lines (LineRepresents holds spells ahead (record { limit = d.limit; count = 0; cr = false; line_feeds = saturated (d.line_feeds + 1); body = after })) spells breaks ahead d.limit b values (10 ∷ rest) 1 (record_answer after.done answer)
      line_ended rest after (Ok value) some records (says, ready, more) = (
        rw with_lf (line_start d.limit (saturated (d.line_feeds + 1)) after (s.whole ++ (s.x ++ 10 ∷ [])) (values ++ value ∷ []) (lines_more spells d.limit s.whole s.x s.r values value s.lines (line_filled some) says) ready
            (more ∙ (let count = s.count in let len = length-append values (value ∷ []) in omega arith)) (ap (λ (t : RecordState). limit_of t) records ∙ s.same) s.small one_more_feed),
        rw append-nil (refl, line_at (HasTaken d.cr) d b values s (λ x. (r : List ℕ) × IsFilled x r d.limit × HasValue spells value r) (s.r, line_filled some, ((line_filled some).some, says))),
      )
      line_ended rest after (Err why) some records (h, more) = rw append-nil (line_refused after.done why more some h)

  -- the record of a part of a line has fewer than 2^64 bytes
  pub line_fits : (d : LineBody R) (b : List ℕ) (values : List E) (s : LineRepresents holds spells ahead d b values) → length s.r < 2 ^ 64
  line_fits d b values s = let within = s.within in let small = s.small in omega (arith, within, small)

  -- what the reader of records may buffer of the part of a line
  pub line_holds : (max_held : List ℕ → ℕ) (d : LineBody R) (b : List ℕ) (values : List E) (n : ℕ) (s : LineRepresents holds spells ahead d b values) → n ≤ max_held s.r → HoldsInLine spells max_held d.limit b values n
  line_holds max_held d b values n s most =
      line_at (HasTaken d.cr) d b values s (λ x. (r : List ℕ) × LineBegun x d.limit × ((x ≡ r ++ 13 ∷ []) ⊎ (x ≡ r)) × (n ≤ max_held r)) (s.r, begun_taken d.cr s.x s.r d.limit s.has s.is s.within, part_of d.cr s.has, most) where
        part_of : (cr : Bool) → HasTaken cr s.x s.r → (s.x ≡ s.r ++ 13 ∷ []) ⊎ (s.x ≡ s.r)
        part_of true has = inl has
        part_of false has = inr has.0

  module _ (breaks : List ℕ → RecordError → Type 0) (d : LineBody R) (b run : List ℕ) (values : List E) (s : LineHolds holds spells ahead d b values) (n : ℕ) (within : n ≤ length run) (line : IsLine (take n run)) where
    -- the byte of a run at the index `at` passes the limit
    pub part_long : (at : ℕ) → at < n → LineTooLong (s.x ++ take at (take n run)) (slice_index (take n run) at) d.limit → LinesStop spells breaks ahead d.limit (b ++ take at run) values (slice_index run at) (Frame RecordTooLarge)
    part_long at inside long =
        let front = take_take at n run (omega (arith, inside)) in
        let byte = get_or-take n run at 0 inside in
        inl (line_on (λ x r. x ≡ r) d b values s (take at run) (λ x. LineTooLong x (slice_index run at) d.limit)
        (subst (λ (c : ℕ). LineTooLong (s.x ++ take at run) c d.limit) byte (subst (λ (y : List ℕ). LineTooLong (s.x ++ y) (slice_index (take n run) at) d.limit) front long)))

    -- an allocation failed at the byte of a run at the index `at`
    pub part_starved : (m at : ℕ) → m ≤ n → at < m → length s.x + m ≤ d.limit → breaks (s.r ++ take (at + 1) (take m (take n run))) refusal.NoMemory → LinesStop spells breaks ahead d.limit (b ++ take at run) values (slice_index run at) NoMemory
    part_starved m at le inside room h =
        let front : take (at + 1) (take m (take n run)) ≡ take (at + 1) run = take_take (at + 1) m (take n run) (omega (arith, inside)) ∙ take_take (at + 1) n run (omega (arith, inside, le)) in
        let starved : breaks (s.x ++ take (at + 1) run) refusal.NoMemory =
        subst (λ (y : List ℕ). breaks (y ++ take (at + 1) run) refusal.NoMemory) (sym s.has) (subst (λ (y : List ℕ). breaks (s.r ++ y) refusal.NoMemory) front h) in
        let begun = part_begun s.x run at n d.limit s.is line (omega (arith, inside, le)) (omega (arith, inside, le, within)) (omega (arith, inside, room)) in
        let sum = length-append s.x (take at run) in
        let size = length-take-le at run (omega (arith, inside, le, within)) in
        let short : length (s.x ++ take at run) < d.limit = omega (arith, inside, room, sum, size) in
        inr (
          refl,
          inl (
            byte_of_line run at n line (omega (arith, inside, le)) within,
            line_on (λ x r. x ≡ r) d b values s (take at run) (λ x. LineBegun x d.limit × FailsInLine breaks d.limit x (slice_index run at))
                (begun, inl (short, subst (λ (y : List ℕ). breaks y refusal.NoMemory) (one_more s.x run at (omega (arith, inside, le, within))) starved)),
          ),
        )

    -- before the byte at the index k: the bytes are a prefix of a stream
    pub part_live : (k : ℕ) → k ≤ n → length s.x + k ≤ d.limit → LinesLive spells d.limit (b ++ take k run) values
    part_live k le room = line_on (λ x r. x ≡ r) d b values s (take k run) (λ x. LineBegun x d.limit) (part_begun s.x run k n d.limit s.is line le (omega (arith, le, within)) room)

    -- the state after n bytes; the reader of records has consumed m of them
    pub part_stands : (new : LineBody R) (m : ℕ) → 0 < n → m ≤ n → new.cr ≡ nat_lt (length (take m (take n run))) (length (take n run)) → IsRecordOf (take n run) (take m (take n run)) → length s.x + m ≤ d.limit → holds new.body.reader (s.r ++ take m (take n run))
        → new.count ≡ min (d.count + length (take m (take n run))) (2 ^ 64 - 1) → new.limit ≡ d.limit → new.body.done ≡ d.body.done → new.body.records ≡ d.body.records → new.line_feeds ≡ d.line_feeds → (used : ℕ) → n ≡ used → LineRepresents holds spells ahead new (b ++ take used run) values
    part_stands new m some le flag of room kept count limit done records line_feeds used same =
        let size = length-take-le n run within in
        let short = length-take-le m (take n run) (omega (arith, le, size)) in
        let sum = length-append s.x (take m (take n run)) in
        let all = ap length s.has in
        let bytes = s.bytes in
        subst (λ (k : ℕ). LineRepresents holds spells ahead new (b ++ take k run) values) same
        (line_stands (λ x r. x ≡ r) d b values s (HasTaken new.cr) new (take n run) (s.x ++ take m (take n run)) (line_more s.x (take n run) s.is line)
        (taken_on new.cr s.x (take n run) m (λ none. let zero_len = ap length none in absurd (omega (arith, some, size, zero_len))) (omega (arith, le, size)) (λ is. let h = ltb-true (length (take m (take n run))) (length (take n run)) (sym flag ∙ is) in omega (arith, h, short)) (λ is. let h = ltb-false (length (take m (take n run))) (length (take n run)) (sym flag ∙ is) in omega (arith, h, short)) of)
        (subst (λ (y : List ℕ). holds new.body.reader (y ++ take m (take n run))) (sym s.has) kept) (let small = s.small in omega (arith, count, bytes, sum, short, all, room, small)) (omega (arith, room, sum, short, limit)) limit done records line_feeds)
