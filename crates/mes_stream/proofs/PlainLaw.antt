-- Bytes have at most one reading as plain RecordIO: the bytes determine the records one by one, and
-- then the tail after them.
use Rattle.std.proofs.Common.{◌≡◌, ◌≢◌, ℕ, ◌+◌, List, [], ◌∷◌, ◌++◌, length, refl, ap, ap₂, sym, ◌∙◌, subst, append_assoc, append-nil, arith, inl}
use Rattle.mes_frame.proofs.OneReading.{one_reading, record_is_unique}
use Rattle.mes_frame.specs.Record.{IsRecord, Begun, SizeShows}
use Rattle.mes_frame.specs.RecordReading.{RecordReading, ReadsRecord, Begins, Whole, Broken}
use Rattle.mes_frame.specs.declared.fault.FrameFault.{FrameFault}
use Rattle.mes_stream.specs.declared.record_error.RecordError.{RecordError}
use Rattle.mes_stream.specs.declared.record_error.RecordError.TheVariants as refusal
use Rattle.mes_stream.specs.Stream.{Records, BodyShows, EndsInside}
use Rattle.mes_stream.specs.Taking.{fault_of_record}
use Rattle.mes_stream.specs.PlainReading.{IsExact, PlainReading, Goes, Stops, ReadsPlain}
use Rattle.mes_stream.specs.declared.fault.Fault.{Fault}
use Rattle.mes_stream.specs.declared.fault.Fault.TheVariants.{Frame, EndsInsideChunks, EndsInsideRecord, Text, Field, NoMemory, Read, ReadsSpent, BadEntry}

-- the bytes after the records of the values: a part of a record, an invalid size line, or a record
-- without a value
data Tail : Type 0 where
  Front : Tail
  Bad : (x : List ℕ) (c : ℕ) (fault : FrameFault) → Tail
  Refused : (x : List ℕ) (c : ℕ) (why : RecordError) → Tail

pub same_last : (x y : List ℕ) (c d : ℕ) → x ++ c ∷ [] ≡ y ++ d ∷ [] → (x ≡ y) × (c ≡ d)
same_last [] [] c d same = (refl, cc)
same_last [] (b ∷ []) c d same = let tail : [] ≡ d ∷ [] = cc in let len = ap length tail in absurd (omega arith)
same_last [] (b ∷ e ∷ y) c d same = let tail : [] ≡ e ∷ (y ++ d ∷ []) = cc in let len = ap length tail in absurd (omega arith)
same_last (a ∷ []) [] c d same = let tail : c ∷ [] ≡ [] = cc in let len = ap length tail in absurd (omega arith)
same_last (a ∷ e ∷ x) [] c d same = let tail : e ∷ (x ++ c ∷ []) ≡ [] = cc in let len = ap length tail in absurd (omega arith)
same_last (a ∷ x) (b ∷ y) c d same =
    let head : a ≡ b = cc in
    let tail : x ++ c ∷ [] ≡ y ++ d ∷ [] = cc in
    let one = same_last x y c d tail in
    let front : x ≡ y = one.0 in
    (cc, one.1)

module _ {E : Type 0} (spells : List ℕ → E → Type 0) (breaks : List ℕ → RecordError → Type 0) (exact : IsExact spells breaks) (ahead limit : ℕ) where
  IsTail : List ℕ → Tail → Type 0
  IsTail t Front = (r : List ℕ) × Begun t r limit
  IsTail t (Bad x c fault) = (rest : List ℕ) × (t ≡ x ++ c ∷ rest) × SizeShows x c limit fault
  IsTail t (Refused x c why) = (rest : List ℕ) × (r : List ℕ) × (t ≡ x ++ c ∷ rest) × IsRecord (x ++ c ∷ []) r limit × breaks r why × (why ≢ refusal.NoMemory)

  -- the reading of the tail t as one record
  tail_reading : (t : List ℕ) (k : Tail) → IsTail t k → (reading : RecordReading) × ReadsRecord limit t reading
  unfolding IsTail
  tail_reading t Front (r, begun) = (Begins r, begun)
  tail_reading t (Bad x c fault) (rest, is, shows) = (Broken x c fault, (rest, is, shows))
  tail_reading t (Refused x c why) (rest, r, is, whole, h, not) = (Whole (x ++ c ∷ []) r, (rest, is ∙ sym (append_assoc x (c ∷ []) rest), whole))

  -- the tail t does not begin with a record that has a value
  stuck : (t f r s : List ℕ) (k : Tail) (value : E) → IsTail t k → IsRecord f r limit → t ≡ f ++ s → spells r value → ⊥
  unfolding IsTail
  stuck t f r s Front value (q, begun) is same says =
      let clash : Begins q ≡ Whole f r = one_reading limit t (Begins q) (Whole f r) begun (s, same, is) in absurd (cc)
  stuck t f r s (Bad x c fault) value (rest, at, shows) is same says =
      let clash : Broken x c fault ≡ Whole f r = one_reading limit t (Broken x c fault) (Whole f r) (rest, at, shows) (s, same, is) in absurd (cc)
  stuck t f r s (Refused x c why) value (rest, q, at, whole, h, not) is same says =
      let both : Whole (x ++ c ∷ []) q ≡ Whole f r = one_reading limit t (Whole (x ++ c ∷ []) q) (Whole f r) (rest, at ∙ sym (append_assoc x (c ∷ []) rest), whole) (s, same, is) in
      let one : q ≡ r = cc in
      exact.apart r value why not says (subst (λ (y : List ℕ). breaks y why) one h)

  -- bytes t are a tail in at most one way
  one_tail : (t : List ℕ) (k l : Tail) → IsTail t k → IsTail t l → k ≡ l
  unfolding IsTail
  one_tail t Front Front h g = refl
  one_tail t Front (Bad x c fault) (r, begun) (rest, is, shows) =
      let clash : Begins r ≡ Broken x c fault = one_reading limit t (Begins r) (Broken x c fault) begun (rest, is, shows) in absurd (cc)
  one_tail t Front (Refused x c why) (r, begun) (rest, q, is, whole, h, not) =
      let clash : Begins r ≡ Whole (x ++ c ∷ []) q = one_reading limit t (Begins r) (Whole (x ++ c ∷ []) q) begun (rest, is ∙ sym (append_assoc x (c ∷ []) rest), whole) in absurd (cc)
  one_tail t (Bad x c fault) Front (rest, is, shows) (r, begun) =
      let clash : Begins r ≡ Broken x c fault = one_reading limit t (Begins r) (Broken x c fault) begun (rest, is, shows) in absurd (cc)
  one_tail t (Bad x c fault) (Bad y d other) (rest, is, shows) (more, at, reports) =
      let both : Broken x c fault ≡ Broken y d other = one_reading limit t (Broken x c fault) (Broken y d other) (rest, is, shows) (more, at, reports) in
      let fronts : x ≡ y = cc in
      let bytes : c ≡ d = cc in
      let faults : fault ≡ other = cc in
      cc
  one_tail t (Bad x c fault) (Refused y d why) (rest, is, shows) (more, q, at, whole, h, not) =
      let clash : Broken x c fault ≡ Whole (y ++ d ∷ []) q = one_reading limit t (Broken x c fault) (Whole (y ++ d ∷ []) q) (rest, is, shows) (more, at ∙ sym (append_assoc y (d ∷ []) more), whole) in absurd (cc)
  one_tail t (Refused x c why) Front (rest, q, is, whole, h, not) (r, begun) =
      let clash : Begins r ≡ Whole (x ++ c ∷ []) q = one_reading limit t (Begins r) (Whole (x ++ c ∷ []) q) begun (rest, is ∙ sym (append_assoc x (c ∷ []) rest), whole) in absurd (cc)
  one_tail t (Refused y d why) (Bad x c fault) (more, q, at, whole, h, not) (rest, is, shows) =
      let clash : Broken x c fault ≡ Whole (y ++ d ∷ []) q = one_reading limit t (Broken x c fault) (Whole (y ++ d ∷ []) q) (rest, is, shows) (more, at ∙ sym (append_assoc y (d ∷ []) more), whole) in absurd (cc)
  one_tail t (Refused x c why) (Refused y d other) (rest, q, is, whole, h, not) (more, r, at, complete, g, nor) =
      let both : Whole (x ++ c ∷ []) q ≡ Whole (y ++ d ∷ []) r = one_reading limit t (Whole (x ++ c ∷ []) q) (Whole (y ++ d ∷ []) r) (rest, is ∙ sym (append_assoc x (c ∷ []) rest), whole)
      (more, at ∙ sym (append_assoc y (d ∷ []) more), complete) in
      let fronts : x ++ c ∷ [] ≡ y ++ d ∷ [] = cc in
      let contents : q ≡ r = cc in
      let ends = same_last x y c d fronts in
      let front : x ≡ y = ends.0 in
      let byte : c ≡ d = ends.1 in
      let reason : why ≡ other = exact.why r why other not nor (subst (λ (z : List ℕ). breaks z why) contents h) g in
      cc

  -- the bytes of a stream determine the records before the tail, and the tail
  peel : (values others : List E) (whole other t u : List ℕ) (k l : Tail) → Records spells limit whole values → Records spells limit other others → IsTail t k → IsTail u l → whole ++ t ≡ other ++ u
      → (values ≡ others) × (whole ≡ other) × (t ≡ u)
  peel [] [] whole other t u k l none nor tail end same = (refl, none ∙ sym nor, rw (none, nor) at same)
  peel [] (v ∷ others) whole other t u k l none (front, rest, r, is, says, spelt, more) tail end same =
      absurd (stuck t front r (rest ++ u) k v tail is (rw (none, spelt) at same ∙ append_assoc front rest u) says)
  peel (v ∷ values) [] whole other t u k l (front, rest, r, is, says, spelt, more) nor tail end same =
      absurd (stuck u front r (rest ++ t) l v end is (sym (rw (nor, spelt) at same) ∙ append_assoc front rest t) says)
  peel (v ∷ values) (e ∷ others) whole other t u k l (front, rest, r, is, says, spelt, more) (before, left, q, at, reports, given, less) tail end same =
      let seam : front ++ (rest ++ t) ≡ before ++ (left ++ u) =
      sym (append_assoc front rest t) ∙ sym (ap (λ (y : List ℕ). y ++ t) spelt) ∙ same ∙ ap (λ (y : List ℕ). y ++ u) given ∙ append_assoc before left u in
      let one = record_is_unique front r (rest ++ t) before q (left ++ u) limit limit is at seam in
      let on = peel values others rest left t u k l more less tail end one.2 in
      let head : v ≡ e = exact.value r v e says (subst (λ (y : List ℕ). spells y e) (sym one.1) reports) in
      (ap₂ (λ (y : E) (ys : List E). y ∷ ys) head on.0, spelt ∙ ap₂ (λ (y z : List ℕ). y ++ z) one.0 on.1 ∙ sym given, on.2)

  -- the reading of bytes that are the records `whole` and the tail
  reading_of : List ℕ → List E → Tail → PlainReading E
  reading_of whole values Front = Goes values
  reading_of whole values (Bad x c fault) = Stops (whole ++ x) c values (Frame fault)
  reading_of whole values (Refused x c why) = Stops (whole ++ x) c values (fault_of_record (ahead + length values) why)

  record Found (w : List ℕ) (reading : PlainReading E) : Type 0 where
    whole : List ℕ
    t : List ℕ
    values : List E
    tail : Tail
    records : Records spells limit whole values
    is_tail : IsTail t tail
    spelt : w ≡ whole ++ t
    is : reading ≡ reading_of whole values tail

  found_stop : (w front : List ℕ) (byte : ℕ) (values : List E) (fault : Fault) (rest : List ℕ) → w ≡ front ++ byte ∷ rest → BodyShows spells breaks ahead limit front values byte fault → Found w (Stops front byte values fault)
  unfolding IsTail reading_of
  found_stop w front byte values (Frame fault) rest is shows = record {
    whole = shows.whole;
    t = shows.x ++ byte ∷ rest;
    values = values;
    tail = Bad shows.x byte fault;
    records = shows.records;
    is_tail = (rest, refl, shows.is);
    spelt = is ∙ ap (λ (y : List ℕ). y ++ byte ∷ rest) shows.spelt ∙ append_assoc shows.whole shows.x (byte ∷ rest);
    is = ap (λ (y : List ℕ). Stops y byte values (Frame fault)) shows.spelt;
  }
  found_stop w front byte values (Text at phase why) rest is (shows, number) = record {
    whole = shows.whole;
    t = shows.x ++ byte ∷ rest;
    values = values;
    tail = Refused shows.x byte (refusal.Text (record { byte = phase; why = why }));
    records = shows.records;
    is_tail = (rest, shows.is.0, refl, shows.is.1, shows.is.2, λ none. absurd (cc));
    spelt = is ∙ ap (λ (y : List ℕ). y ++ byte ∷ rest) shows.spelt ∙ append_assoc shows.whole shows.x (byte ∷ rest);
    is = ap₂ (λ (y : List ℕ) (n : ℕ). Stops y byte values (Text n phase why)) shows.spelt number;
  }
  found_stop w front byte values (Field at path why) rest is (shows, number) = record {
    whole = shows.whole;
    t = shows.x ++ byte ∷ rest;
    values = values;
    tail = Refused shows.x byte (refusal.Field (record { path = path; why = why }));
    records = shows.records;
    is_tail = (rest, shows.is.0, refl, shows.is.1, shows.is.2, λ none. absurd (cc));
    spelt = is ∙ ap (λ (y : List ℕ). y ++ byte ∷ rest) shows.spelt ∙ append_assoc shows.whole shows.x (byte ∷ rest);
    is = ap₂ (λ (y : List ℕ) (n : ℕ). Stops y byte values (Field n path why)) shows.spelt number;
  }
  found_stop w front byte values EndsInsideChunks rest is shows = absurd shows
  found_stop w front byte values EndsInsideRecord rest is shows = absurd shows
  found_stop w front byte values NoMemory rest is shows = absurd shows
  found_stop w front byte values Read rest is shows = absurd shows
  found_stop w front byte values ReadsSpent rest is shows = absurd shows
  found_stop w front byte values (BadEntry at) rest is (shows, number) = record {
    whole = shows.whole;
    t = shows.x ++ byte ∷ rest;
    values = values;
    tail = Refused shows.x byte refusal.BadEntry;
    records = shows.records;
    is_tail = (rest, shows.is.0, refl, shows.is.1, shows.is.2, λ none. absurd (cc));
    spelt = is ∙ ap (λ (y : List ℕ). y ++ byte ∷ rest) shows.spelt ∙ append_assoc shows.whole shows.x (byte ∷ rest);
    is = ap₂ (λ (y : List ℕ) (n : ℕ). Stops y byte values (BadEntry n)) shows.spelt number;
  }

  found : (w : List ℕ) (reading : PlainReading E) → ReadsPlain spells breaks ahead limit w reading → Found w reading
  unfolding IsTail reading_of
  found w (Goes values) live = record { whole = live.whole; t = live.x; values = values; tail = Front; records = live.records; is_tail = live.is; spelt = live.spelt; is = refl }
  found w (Stops front byte values fault) (rest, is, shows) = found_stop w front byte values fault rest is shows

  pub one_plain : (w : List ℕ) (reading other : PlainReading E) → ReadsPlain spells breaks ahead limit w reading → ReadsPlain spells breaks ahead limit w other → reading ≡ other
  one_plain w reading other reads too =
      let f = found w reading reads in
      let g = found w other too in
      let one = peel f.values g.values f.whole g.whole f.t g.t f.tail g.tail f.records g.records f.is_tail g.is_tail (sym f.spelt ∙ g.spelt) in
      let tails = one_tail g.t f.tail g.tail (subst (λ (y : List ℕ). IsTail y f.tail) one.2 f.is_tail) g.is_tail in
      f.is ∙ ap (λ (vs : List E). reading_of f.whole vs f.tail) one.0 ∙ ap₂ (λ (y : List ℕ) (k : Tail). reading_of y g.values k) one.1 tails ∙ sym g.is

  -- bytes that are complete records do not end inside a record
  pub no_rest : (b : List ℕ) (values others : List E) → Records spells limit b values → EndsInside spells limit b others → ⊥
  unfolding IsTail
  no_rest b values others records s =
      let none : IsTail [] Front = ([], inl (record { digits = tt; few = omega arith }, refl)) in
      let one = peel values others b s.whole [] s.x Front Front records s.records none s.is.1 (append-nil b ∙ s.spelt) in
      s.is.0 (sym one.2)
