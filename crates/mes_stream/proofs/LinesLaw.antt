-- Bytes have at most one reading as JSON Lines: the bytes determine the lines one by one, and then
-- the tail after them.
use Rattle.std.proofs.Common.{◌≡◌, ◌≢◌, ℕ, ◌+◌, ◌≤◌, ◌⊎◌, inl, inr, List, [], ◌∷◌, ◌++◌, length, refl, ap, ap₂, sym, ◌∙◌, subst, append_assoc, arith}
use Rattle.std.specs.List.{flat_map}
use Rattle.mes_frame.specs.declared.fault.FrameFault.TheVariants.{BadChunkLine, ChunkLineTooLong, ChunkTooLarge, BadChunkEnd, TrailersTooLong, BadSizeLine, SizeLineTooLong, RecordTooLarge}
use Rattle.mes_stream.specs.LineRecord.{IsLine, IsRecordOf, IsFilled, IsBlank, LineBegun, LineTooLong}
use Rattle.mes_stream.specs.JsonLines.{ended, HaveValues, LinesThen, EndsLine, LinesShow}
use Rattle.mes_stream.specs.LineReading.{ReadsLines}
use Rattle.mes_stream.specs.PlainReading.{IsExact, PlainReading, Goes, Stops}
use Rattle.mes_stream.specs.Taking.{fault_of_record}
use Rattle.mes_stream.specs.declared.record_error.RecordError.{RecordError}
use Rattle.mes_stream.specs.declared.record_error.RecordError.TheVariants as refusal
use Rattle.mes_stream.specs.declared.fault.Fault.{Fault}
use Rattle.mes_stream.specs.declared.fault.Fault.TheVariants.{Frame, EndsInsideChunks, EndsInsideRecord, Text, Field, NoMemory, Read, ReadsSpent, BadEntry}
use Rattle.mes_stream.proofs.LineRecords.{one_line, no_lf, line_on, one_record, too_long, begun_long, one_long}

-- the bytes after the lines of the values: a part of a line, a line that is too long, or a line
-- without a value
data Tail : Type 0 where
  Part : Tail
  Long : (x : List ℕ) (c : ℕ) → Tail
  Refused : (line : List ℕ) (why : RecordError) → Tail

module _ {E : Type 0} (spells : List ℕ → E → Type 0) (breaks : List ℕ → RecordError → Type 0) (exact : IsExact spells breaks) (ahead limit : ℕ) where
  IsTail : List ℕ → Tail → Type 0
  IsTail t Part = LineBegun t limit
  IsTail t (Long x c) = (rest : List ℕ) × (t ≡ x ++ c ∷ rest) × LineTooLong x c limit
  IsTail t (Refused line why) = (rest : List ℕ) × (r : List ℕ) × (t ≡ line ++ 10 ∷ rest) × IsFilled line r limit × breaks r why × (why ≢ refusal.NoMemory)

  -- the line is passed over, or it has a value
  IsRead : List ℕ → Type 0
  IsRead line = IsBlank line ⊎ ((r : List ℕ) × (value : E) × IsFilled line r limit × spells r value)

  is_line : (line : List ℕ) → IsRead line → IsLine line
  unfolding IsRead
  is_line line (inl blank) = blank.is
  is_line line (inr (r, value, filled, says)) = filled.is

  within : (line : List ℕ) → IsRead line → (r : List ℕ) × IsRecordOf line r × (length r ≤ limit)
  unfolding IsRead
  within line (inl blank) = ([], blank.content, omega arith)
  within line (inr (r, value, filled, says)) = (r, filled.content, filled.within)

  -- a tail does not begin with a line that is passed over or has a value
  stuck : (t line s : List ℕ) (k : Tail) → IsTail t k → IsRead line → t ≡ line ++ 10 ∷ s → ⊥
  unfolding IsTail IsRead
  stuck t line s Part begun read same = no_lf line s (subst (λ (y : List ℕ). IsLine y) same begun.is)
  stuck t line s (Long x c) (rest, is, long) read same =
      let on = line_on x line rest s c long.is long.next (is_line line read) (sym is ∙ same) in
      let has = within line read in
      too_long x on.0 has.0 c limit long.passes (subst (λ (y : List ℕ). IsRecordOf y has.0) on.1 has.1) has.2
  stuck t line s (Refused other why) (rest, r, is, filled, h, not) (inl blank) same =
      let one = one_line other line rest s filled.is blank.is (sym is ∙ same) in
      filled.some (one_record line r [] (subst (λ (y : List ℕ). IsRecordOf y r) one.0 filled.content) blank.content)
  stuck t line s (Refused other why) (rest, r, is, filled, h, not) (inr (q, value, full, says)) same =
      let one = one_line other line rest s filled.is full.is (sym is ∙ same) in
      let records : r ≡ q = one_record line r q (subst (λ (y : List ℕ). IsRecordOf y r) one.0 filled.content) full.content in
      exact.apart q value why not says (subst (λ (y : List ℕ). breaks y why) records h)

  -- bytes are a tail in at most one way
  one_tail : (t : List ℕ) (k l : Tail) → IsTail t k → IsTail t l → k ≡ l
  unfolding IsTail
  one_tail t Part Part h g = refl
  one_tail t Part (Long x c) begun (rest, is, long) = absurd (begun_long x rest c limit long.passes (subst (λ (y : List ℕ). LineBegun y limit) is begun).within)
  one_tail t Part (Refused line why) begun (rest, r, is, filled, h, not) = absurd (no_lf line rest (subst (λ (y : List ℕ). IsLine y) is begun.is))
  one_tail t (Long x c) Part (rest, is, long) begun = absurd (begun_long x rest c limit long.passes (subst (λ (y : List ℕ). LineBegun y limit) is begun).within)
  one_tail t (Long x c) (Long y d) (rest, is, long) (more, at, too) =
      let one = one_long x y rest more c d limit long too (sym is ∙ at) in
      let fronts : x ≡ y = one.0 in
      let bytes : c ≡ d = one.1 in
      cc
  one_tail t (Long x c) (Refused line why) (rest, is, long) (more, r, at, filled, h, not) =
      let on = line_on x line rest more c long.is long.next filled.is (sym is ∙ at) in
      absurd (too_long x on.0 r c limit long.passes (subst (λ (y : List ℕ). IsRecordOf y r) on.1 filled.content) filled.within)
  one_tail t (Refused line why) Part (rest, r, is, filled, h, not) begun = absurd (no_lf line rest (subst (λ (y : List ℕ). IsLine y) is begun.is))
  one_tail t (Refused line why) (Long x c) (more, r, at, filled, h, not) (rest, is, long) =
      let on = line_on x line rest more c long.is long.next filled.is (sym is ∙ at) in
      absurd (too_long x on.0 r c limit long.passes (subst (λ (y : List ℕ). IsRecordOf y r) on.1 filled.content) filled.within)
  one_tail t (Refused line why) (Refused other reason) (rest, r, is, filled, h, not) (more, q, at, full, g, nor) =
      let one = one_line line other rest more filled.is full.is (sym is ∙ at) in
      let records : r ≡ q = one_record other r q (subst (λ (y : List ℕ). IsRecordOf y r) one.0 filled.content) full.content in
      let lines : line ≡ other = one.0 in
      let reasons : why ≡ reason = exact.why q why reason not nor (subst (λ (y : List ℕ). breaks y why) records h) g in
      cc

  read_of : (line : List ℕ) (lines : List (List ℕ)) (values : List E) → HaveValues spells limit (line ∷ lines) values → IsRead line
  unfolding IsRead
  read_of line lines values (inl (blank, have)) = inl blank
  read_of line lines values (inr (r, value, more, filled, says, is, have)) = inr (r, value, filled, says)

  -- the bytes after a line
  after : (line : List ℕ) (lines : List (List ℕ)) (t : List ℕ) → flat_map ended (line ∷ lines) ++ t ≡ line ++ 10 ∷ (flat_map ended lines ++ t)
  after line lines t = append_assoc (line ++ 10 ∷ []) (flat_map ended lines) t ∙ append_assoc line (10 ∷ []) (flat_map ended lines ++ t)

  -- one line has one value, or none
  same_values : (line : List ℕ) (lines : List (List ℕ)) (values others : List E) → HaveValues spells limit (line ∷ lines) values → HaveValues spells limit (line ∷ lines) others
      → ((more less : List E) → HaveValues spells limit lines more → HaveValues spells limit lines less → more ≡ less) → values ≡ others
  same_values line lines values others (inl (blank, have)) (inl (empty, has)) on = on values others have has
  same_values line lines values others (inl (blank, have)) (inr (q, other, less, full, spelt, at, has)) on = absurd (full.some (one_record line q [] full.content blank.content))
  same_values line lines values others (inr (r, value, more, filled, says, is, have)) (inl (empty, has)) on = absurd (filled.some (one_record line r [] filled.content empty.content))
  same_values line lines values others (inr (r, value, more, filled, says, is, have)) (inr (q, other, less, full, spelt, at, has)) on =
      let records : r ≡ q = one_record line r q filled.content full.content in
      let head : value ≡ other = exact.value q value other (subst (λ (y : List ℕ). spells y value) records says) spelt in
      is ∙ ap₂ (λ (y : E) (ys : List E). y ∷ ys) head (on more less have has) ∙ sym at

  all_values : (lines : List (List ℕ)) (values others : List E) → HaveValues spells limit lines values → HaveValues spells limit lines others → values ≡ others
  all_values [] values others is at = is ∙ sym at
  all_values (line ∷ lines) values others have has = same_values line lines values others have has (λ more less. all_values lines more less)

  rest_of : (line : List ℕ) (lines : List (List ℕ)) (values : List E) → HaveValues spells limit (line ∷ lines) values → (more : List E) × HaveValues spells limit lines more
  rest_of line lines values (inl (blank, have)) = (values, have)
  rest_of line lines values (inr (r, value, more, filled, says, is, have)) = (more, have)

  -- the bytes determine the lines before the tail, and the tail
  peel : (lines others : List (List ℕ)) (values more : List E) (t u : List ℕ) (k l : Tail) → HaveValues spells limit lines values → HaveValues spells limit others more → IsTail t k → IsTail u l
      → flat_map ended lines ++ t ≡ flat_map ended others ++ u → (lines ≡ others) × (t ≡ u)
  peel [] [] values more t u k l have has tail end same = (refl, same)
  peel [] (line ∷ others) values more t u k l have has tail end same =
      absurd (stuck t line (flat_map ended others ++ u) k tail (read_of line others more has) (same ∙ after line others u))
  peel (line ∷ lines) [] values more t u k l have has tail end same =
      absurd (stuck u line (flat_map ended lines ++ t) l end (read_of line lines values have) (sym same ∙ after line lines t))
  peel (line ∷ lines) (other ∷ others) values more t u k l have has tail end same =
      let one = one_line line other (flat_map ended lines ++ t) (flat_map ended others ++ u) (is_line line (read_of line lines values have)) (is_line other (read_of other others more has))
      (sym (after line lines t) ∙ same ∙ after other others u) in
      let rest = rest_of line lines values have in
      let less = rest_of other others more has in
      let on = peel lines others rest.0 less.0 t u k l rest.1 less.1 tail end one.1 in
      let head : line ≡ other = one.0 in
      let tails : lines ≡ others = on.0 in
      (cc, on.1)

  -- the reading of bytes that are the lines `whole` and the tail
  reading_of : List ℕ → List E → Tail → PlainReading E
  reading_of whole values Part = Goes values
  reading_of whole values (Long x c) = Stops (whole ++ x) c values (Frame RecordTooLarge)
  reading_of whole values (Refused line why) = Stops (whole ++ line) 10 values (fault_of_record (ahead + length values) why)

  record Found (w : List ℕ) (reading : PlainReading E) : Type 0 where
    lines : List (List ℕ)
    t : List ℕ
    values : List E
    tail : Tail
    have : HaveValues spells limit lines values
    is_tail : IsTail t tail
    spelt : w ≡ flat_map ended lines ++ t
    is : reading ≡ reading_of (flat_map ended lines) values tail

  -- the bytes up to a tail, after the lines that `h` has
  fronts : (front : List ℕ) (values : List E) (Is : List ℕ → Type 0) (h : LinesThen spells limit Is front values) → front ≡ flat_map ended h.lines.lines ++ h.x
  fronts front values Is h = h.spelt ∙ ap (λ (y : List ℕ). y ++ h.x) h.lines.spelt

  up_to : (w front rest : List ℕ) (byte : ℕ) (values : List E) (Is : List ℕ → Type 0) (h : LinesThen spells limit Is front values) → w ≡ front ++ byte ∷ rest → w ≡ flat_map ended h.lines.lines ++ (h.x ++ byte ∷ rest)
  up_to w front rest byte values Is h is = is ∙ ap (λ (y : List ℕ). y ++ byte ∷ rest) (fronts front values Is h) ∙ append_assoc (flat_map ended h.lines.lines) h.x (byte ∷ rest)

  -- a line without a value
  found_refused : (w front rest : List ℕ) (byte : ℕ) (values : List E) (why : RecordError) (fault : Fault) → why ≢ refusal.NoMemory → fault ≡ fault_of_record (ahead + length values) why → w ≡ front ++ byte ∷ rest
      → EndsLine spells limit front values byte (λ r. breaks r why) → Found w (Stops front byte values fault)
  unfolding IsTail reading_of
  found_refused w front rest byte values why fault not same is (last, h) = record {
    lines = h.lines.lines;
    t = h.x ++ byte ∷ rest;
    values = values;
    tail = Refused h.x why;
    have = h.lines.have;
    is_tail = (rest, h.is.0, ap (λ (n : ℕ). h.x ++ n ∷ rest) last, h.is.1, h.is.2, not);
    spelt = up_to w front rest byte values (λ x. (r : List ℕ) × IsFilled x r limit × breaks r why) h is;
    is = ap₂ (λ (y : List ℕ) (f : Fault). Stops y byte values f) (fronts front values (λ x. (r : List ℕ) × IsFilled x r limit × breaks r why) h) same
        ∙ ap (λ (n : ℕ). Stops (flat_map ended h.lines.lines ++ h.x) n values (fault_of_record (ahead + length values) why)) last;
  }

  found_stop : (w front : List ℕ) (byte : ℕ) (values : List E) (fault : Fault) (rest : List ℕ) → w ≡ front ++ byte ∷ rest → LinesShow spells breaks ahead limit front values byte fault → Found w (Stops front byte values fault)
  unfolding IsTail reading_of
  found_stop w front byte values (Frame RecordTooLarge) rest is h = record {
    lines = h.lines.lines;
    t = h.x ++ byte ∷ rest;
    values = values;
    tail = Long h.x byte;
    have = h.lines.have;
    is_tail = (rest, refl, h.is);
    spelt = up_to w front rest byte values (λ x. LineTooLong x byte limit) h is;
    is = ap (λ (y : List ℕ). Stops y byte values (Frame RecordTooLarge)) (fronts front values (λ x. LineTooLong x byte limit) h);
  }
  found_stop w front byte values (Frame BadChunkLine) rest is h = absurd h
  found_stop w front byte values (Frame ChunkLineTooLong) rest is h = absurd h
  found_stop w front byte values (Frame ChunkTooLarge) rest is h = absurd h
  found_stop w front byte values (Frame BadChunkEnd) rest is h = absurd h
  found_stop w front byte values (Frame TrailersTooLong) rest is h = absurd h
  found_stop w front byte values (Frame BadSizeLine) rest is h = absurd h
  found_stop w front byte values (Frame SizeLineTooLong) rest is h = absurd h
  found_stop w front byte values (Text at phase why) rest is (h, number) =
      found_refused w front rest byte values (refusal.Text (record { byte = phase; why = why })) (Text at phase why) (λ none. absurd (cc)) (ap (λ (n : ℕ). Text n phase why) number) is h
  found_stop w front byte values (Field at path why) rest is (h, number) =
      found_refused w front rest byte values (refusal.Field (record { path = path; why = why })) (Field at path why) (λ none. absurd (cc)) (ap (λ (n : ℕ). Field n path why) number) is h
  found_stop w front byte values EndsInsideChunks rest is h = absurd h
  found_stop w front byte values EndsInsideRecord rest is h = absurd h
  found_stop w front byte values NoMemory rest is h = absurd h
  found_stop w front byte values Read rest is h = absurd h
  found_stop w front byte values ReadsSpent rest is h = absurd h
  found_stop w front byte values (BadEntry at) rest is (h, number) =
      found_refused w front rest byte values refusal.BadEntry (BadEntry at) (λ none. absurd (cc)) (ap (λ (n : ℕ). BadEntry n) number) is h

  found : (w : List ℕ) (reading : PlainReading E) → ReadsLines spells breaks ahead limit w reading → Found w reading
  unfolding IsTail reading_of
  found w (Goes values) live =
      record { lines = live.lines.lines; t = live.x; values = values; tail = Part; have = live.lines.have; is_tail = live.is; spelt = fronts w values (λ x. LineBegun x limit) live; is = refl }
  found w (Stops front byte values fault) (rest, is, shows) = found_stop w front byte values fault rest is shows

  pub one_lines : (w : List ℕ) (reading other : PlainReading E) → ReadsLines spells breaks ahead limit w reading → ReadsLines spells breaks ahead limit w other → reading ≡ other
  one_lines w reading other reads too =
      let f = found w reading reads in
      let g = found w other too in
      let one = peel f.lines g.lines f.values g.values f.t g.t f.tail g.tail f.have g.have f.is_tail g.is_tail (sym f.spelt ∙ g.spelt) in
      let values : f.values ≡ g.values = all_values g.lines f.values g.values (subst (λ (ls : List (List ℕ)). HaveValues spells limit ls f.values) one.0 f.have) g.have in
      let tails = one_tail g.t f.tail g.tail (subst (λ (y : List ℕ). IsTail y f.tail) one.1 f.is_tail) g.is_tail in
      f.is ∙ ap₂ (λ (ls : List (List ℕ)) (vs : List E). reading_of (flat_map ended ls) vs f.tail) one.0 values ∙ ap (λ (k : Tail). reading_of (flat_map ended g.lines) g.values k) tails ∙ sym g.is
