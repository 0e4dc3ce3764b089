-- The number of the line with a byte, by a counter of lines.
use Rattle.std.proofs.Common.{◌≡◌, ℕ, ◌+◌, ◌-◌, ◌*◌, ◌^◌, ◌<◌, ◌≤◌, ◌==◌, min, true, false, Option, Some, List, [], ◌∷◌, ◌++◌, length, take, sym, ◌∙◌, ap, subst, arith, refl, Result, Ok, Err}
use Rattle.std.proofs.Math.Seq.{take-append-add}
use Rattle.std.proofs.lemmas.List.{length-append, length-take}
use Rattle.std.proofs.lemmas.List.Sums.{count_by-le-length}
use Rattle.mes_frame.specs.declared.counts.Counts.{Counts}
use Rattle.mes_stream.specs.Reading.{nothing_ahead, BreaksOff, ByteEnds, InputMeans, reported_as}
use Rattle.mes_stream.specs.LineRecord.{line_feeds_in}
use Rattle.mes_stream.specs.Reads.{EndsReads, LastRead}
use Rattle.mes_stream.specs.declared.record_error.RecordError.{RecordError}
use Rattle.mes_stream.specs.Stream.{saturated}
use Rattle.mes_stream.specs.declared.counted_reader.Reading.{Reading}
use Rattle.mes_stream.specs.declared.counted_reader.ReadingStop.{ReadingStop}
use Rattle.mes_stream.specs.declared.counted_reader.ReadingStop.TheVariants as reading_stop
use Rattle.mes_stream.specs.declared.fault.Fault.{Fault}
use Rattle.mes_stream.specs.declared.fault.Report.{Report}
use Rattle.mes_stream.specs.declared.fault.Stop.{Stop}
use Rattle.mes_stream.specs.declared.limits.TheConstants.{MAX_READ}
use Rattle.mes_stream.specs.declared.read_loop.ReadsEnd.{ReadsEnd}
use Rattle.mes_stream.specs.declared.read_loop.ReadsEnd.TheVariants.{Stopped, AtEnd, Failed, Spent}
use Rattle.mes_stream.specs.declared.stream_reader.Framing.{Framing}
use Rattle.mes_stream.specs.declared.stream_reader.Framing.TheVariants.{Plain, Chunked, Lines}
use Rattle.mes_stream.proofs.LineFeeds.{line_feeds-append}
use Rattle.mesosev_stream.specs.LineNumbers.{CountsFrom, CountsLines, FindsLine, FindsLineOf, IsFreshCounter, StopsCounting, is_lines, line_in, line_number}
use Rattle.mesosev_stream.specs.Printing.{last_line, used_by}
use Rattle.mesosev_stream.specs.declared.limits.TheConstants.{MAX_READS}
use Rattle.mesosev_stream.specs.declared.line_number.LineCounter.{LineCounter}

-- the line feeds before a byte of the last piece
line_feeds_before : (front piece : List ℕ) (used inside : ℕ) → length front ≤ used - 1 → inside ≡ used - 1 - length front
    → line_feeds_in (take (used - 1) (front ++ piece)) ≡ line_feeds_in front + line_feeds_in (take inside piece)
line_feeds_before front piece used inside within is =
    let at : used - 1 ≡ length front + inside = omega (arith, within, is) in
    rw (at, take-append-add front piece inside) (line_feeds-append front (take inside piece))

-- a byte has at most as many line feeds before it as bytes
line_feeds_few : (w : List ℕ) (used : ℕ) → line_feeds_in (take (used - 1) w) ≤ used - 1
line_feeds_few w used = omega (arith, count_by-le-length (λ (byte : ℕ). byte == 10) (take (used - 1) w), length-take (used - 1) w)

-- the counter finds the number of the line
pub finds : {C : Type 0} (d : LineCounter C) (used inside line_feeds line : ℕ)
    → inside ≡ min (used - 1 - d.start) (length d.last.items) → line_feeds ≡ line_feeds_in (take inside d.last.items) → line ≡ saturated (saturated (d.line_feeds + line_feeds) + 1)
    → FindsLine d used line
finds d used inside line_feeds line inside_is line_feeds_is line_is w counts small within most =
    let whole = ap length counts.is ∙ length-append counts.front d.last.items in
    let start : d.start ≡ length counts.front = omega (arith, counts.start, small, whole) in
    let before : line_feeds_in (take (used - 1) w) ≡ line_feeds_in counts.front + line_feeds_in (take inside d.last.items) =
    rw (counts.is) (line_feeds_before counts.front d.last.items used inside (omega (arith, within, start)) (omega (arith, inside_is, start, whole, most))) in
    omega (arith, before, line_feeds_few w used, counts.line_feeds, line_feeds_is, line_is, small, most)

-- A counter that has not consumed any byte meets what `read_device` requires, if its inner consumer
-- does (`Goes`).
pub counter_start : {C Goes : Type 0} (Starts : C → Type 0) (d : LineCounter C) → Goes → Goes × CountsFrom Starts d d []
counter_start Starts d goes = (
  goes,
  λ starts fresh. record {
    front = [];
    is = sym fresh.last;
    counts = fresh.counts;
    line_feeds = fresh.line_feeds;
    start = fresh.start;
    some = omega arith;
  },
)

-- the counter after one more piece, which it retains
pub counts_on : {C : Type 0} (old new : LineCounter C) (w piece : List ℕ) → CountsLines old w → 0 < length piece → new.counts ≡ old.counts → new.line_feeds ≡ saturated (line_feeds_in w) → new.start ≡ saturated (old.start + length old.last.items)
    → new.last.items ≡ piece → CountsLines new (w ++ piece)
counts_on old new w piece was some counts line_feeds start last = record {
  front = w;
  is = ap (λ (y : List ℕ). w ++ y) (sym last);
  counts = counts ∙ was.counts;
  line_feeds = line_feeds;
  start = let whole = ap length was.is in let sum = length-append was.front old.last.items in let before = was.start in omega (arith, start, before, whole, sum);
  some = let sum = length-append w piece in omega (arith, some, sum);
}

-- the byte `used` is in the piece in which the consumer stopped (`Stops`), or is the last byte of w
abbrev pub IsUsedAt : {Z : Type 0} → (List ℕ → List ℕ → Z → Type 0) → List ℕ → ℕ → ReadsEnd Z → Type 0
IsUsedAt Stops w used (Stopped why) = (front piece : List ℕ) → LastRead w front piece → Stops front piece why → length front < used
IsUsedAt Stops w used AtEnd = used ≡ length w
IsUsedAt Stops w used Failed = used ≡ length w
IsUsedAt Stops w used Spent = used ≡ length w

module _ {C Z : Type 0} (Starts : C → Type 0) (Goes : List ℕ → Type 0) (Stops : List ℕ → List ℕ → Z → Type 0) (first now : LineCounter C) (reads : ℕ) (old new : Counts) (last : Option (List ℕ)) (w : List ℕ) where
  -- how the reads ended, for a counter whose inner consumer goes and stops as `Goes` and `Stops`
  abbrev pub CounterEnds : ReadsEnd Z → Type 0
  CounterEnds end = EndsReads (λ (v : List ℕ). Goes v × CountsFrom Starts first now v) (λ (v piece : List ℕ) (why : Z). Stops v piece why × StopsCounting Starts first now v piece) reads old new last w end

  -- the reads ended in the same way for the inner consumer
  pub inner_ends : (end : ReadsEnd Z) → CounterEnds end → EndsReads Goes Stops reads old new last w end
  inner_ends (Stopped why) (front, piece, at, (stops, counts), asked) = (front, piece, at, stops, asked)
  inner_ends AtEnd ((goes, counts), at, asked) = (goes, at, asked)
  inner_ends Failed ((goes, counts), asked) = (goes, asked)
  inner_ends Spent ((goes, counts), asked) = (goes, asked)

  -- the counter has consumed all bytes read
  pub counts_read : Starts first.inner → IsFreshCounter first → (end : ReadsEnd Z) → CounterEnds end → CountsLines now w
  counts_read starts fresh (Stopped why) (front, piece, at, (stops, counts), asked) = subst (λ (v : List ℕ). CountsLines now v) (sym at.is) (counts starts fresh).0
  counts_read starts fresh AtEnd ((goes, counts), at, asked) = counts starts fresh
  counts_read starts fresh Failed ((goes, counts), asked) = counts starts fresh
  counts_read starts fresh Spent ((goes, counts), asked) = counts starts fresh

  -- the last byte is not before the last piece
  last_within : (used : ℕ) → length w < 2 ^ 64 → CountsLines now w → used ≡ length w → now.start ≤ used - 1
  last_within used small counts is = omega (arith, small, counts.start, counts.some, is)

  -- the byte `used` is not before the last piece
  used_within : Starts first.inner → IsFreshCounter first → (used : ℕ) → length w < 2 ^ 64 → (end : ReadsEnd Z) → CounterEnds end → IsUsedAt Stops w used end → now.start ≤ used - 1
  used_within starts fresh used small (Stopped why) (front, piece, at, (stops, stopped), asked) within =
      let counts = (stopped starts fresh).0 in
      let before = within front piece at stops in
      let whole = ap length counts.is ∙ length-append counts.front now.last.items in
      let same = ap length (stopped starts fresh).1 in
      omega (arith, small, before, whole, same, counts.start, ap length at.is, length-append front piece)
  used_within starts fresh used small AtEnd ends is = last_within used small (counts_read starts fresh AtEnd ends) is
  used_within starts fresh used small Failed ends is = last_within used small (counts_read starts fresh Failed ends) is
  used_within starts fresh used small Spent ends is = last_within used small (counts_read starts fresh Spent ends) is

  -- the number of the line with the byte `used`, by what `line_at` ensures
  pub line_found : Starts first.inner → IsFreshCounter first → (used line : ℕ) → length w < 2 ^ 64 → used ≤ length w → (end : ReadsEnd Z) → CounterEnds end → IsUsedAt Stops w used end → FindsLine now used line → line ≡ line_number used w
  line_found starts fresh used line small most end ends within finds_line =
      finds_line w (counts_read starts fresh end ends) small (used_within starts fresh used small end ends within) most

  -- the reads return at most `MAX_READ` bytes each
  ends_small : reads ≤ MAX_READS → (end : ReadsEnd Z) → CounterEnds end → length w ≤ MAX_READ * MAX_READS
  ends_small few (Stopped why) (front, piece, at, stops, asked) = let most = asked.1.most in let bytes = asked.1.bytes in omega (arith, few, most, bytes)
  ends_small few AtEnd (goes, at, asked) = let most = asked.1.most in let bytes = asked.1.bytes in omega (arith, few, most, bytes)
  ends_small few Failed (goes, asked) = let most = asked.1.most in let bytes = asked.1.bytes in omega (arith, few, most, bytes)
  ends_small few Spent (goes, asked) = let bytes = asked.bytes in omega (arith, few, bytes)

  -- the number that the counter returns is that of the line with the byte `used`
  pub line_known : reads ≤ MAX_READS → (framing : Framing) → (is_lines framing ≡ true → Starts first.inner × IsFreshCounter first) → (used : ℕ) (line : Option ℕ) → used ≤ length w → (end : ReadsEnd Z) → CounterEnds end → IsUsedAt Stops w used end → FindsLineOf framing now used line
      → line ≡ line_in framing used w
  line_known few Plain fresh used line most end ends within finds_line = finds_line
  line_known few Chunked fresh used line most end ends within finds_line = finds_line
  line_known few Lines fresh used line most end ends within (number, is, finds_line) =
      let small = ends_small few end ends in
      is ∙ ap (λ (n : ℕ). Some n) (line_found (fresh refl).0 (fresh refl).1 used number (omega (arith, small)) most end ends within finds_line)

-- the byte `used` is not before the last piece, in which the reading stopped
pub front_used : (front piece w : List ℕ) (used : ℕ) → LastRead w front piece → saturated (length front + 1) ≤ used → length w ≤ MAX_READ * MAX_READS → length front < used
front_used front piece w used last within small =
    let whole = ap length last.is ∙ length-append front piece in
    omega (arith, within, whole, small)

-- what holds for a framing that has lines holds for JSON Lines
pub of_lines : (Has : Framing → Type 0) (framing : Framing) → is_lines framing ≡ true → Has framing → Has Lines
of_lines Has Plain is h = let off : false ≡ true = is in absurd (cc)
of_lines Has Chunked is h = let off : false ≡ true = is in absurd (cc)
of_lines Has Lines is h = h

-- the number of the line in which the reading of w ended
module _ (framing : Framing) (w : List ℕ) (line : Option ℕ) where
  pub line_at : (used other : ℕ) → other ≡ used → line ≡ line_in framing used w → line ≡ line_in framing other w
  line_at used other same is = rw same is

  -- all bytes were used
  pub read_to : (used : ℕ) (outcome : Result Report Stop) → used ≡ saturated (nothing_ahead.bytes + length w) → length w ≤ MAX_READ * MAX_READS → used_by outcome ≡ length w → (used ≤ length w → used ≡ length w → line ≡ line_in framing used w)
      → line ≡ last_line framing w outcome
  read_to used outcome counted small is found =
      let all : used ≡ length w = omega (arith, counted, small) in
      line_at used (used_by outcome) (is ∙ sym all) (found (omega (arith, all)) all)

-- the number of bytes used, by the way in which the reading of w ended
module _ {E : Type 0} (spells : List ℕ → E → Type 0) (breaks : List ℕ → RecordError → Type 0) (framing : Framing) (limit : ℕ) (w : List ℕ) (values : List E) where
  pub byte_used : {R : Type 0} (d : Reading R) (stop : ReadingStop) → ByteEnds framing spells breaks limit w values (reported_as d stop) → d.used ≤ length w
  byte_used d reading_stop.Ended at =
      let whole = ap length at.is ∙ length-append at.stream d.rest.items in
      let used = at.count in
      omega (arith, whole, used)
  byte_used d (reading_stop.Fault fault) at =
      let s = at.stops in
      let whole = ap length s.is ∙ length-append s.front (s.byte ∷ s.rest) in
      let used = at.count in
      let place = s.used in
      omega (arith, whole, used, place)

  pub input_used : (outcome : Result Report Stop) → InputMeans framing spells breaks nothing_ahead limit w values outcome → length w ≤ MAX_READ * MAX_READS → used_by outcome ≡ length w
  input_used (Ok report) means small = let used = means.1 in omega (arith, used, small)
  input_used (Err stop) means small = let used = means.1 in omega (arith, used, small)

  pub off_used : (fault : Fault) (outcome : Result Report Stop) → BreaksOff fault framing spells nothing_ahead limit w values outcome → length w ≤ MAX_READ * MAX_READS → used_by outcome ≡ length w
  off_used fault (Ok report) off small = absurd off
  off_used fault (Err stop) off small = let used = off.2 in omega (arith, used, small)

pub reported_used : {R : Type 0} (d : Reading R) (stop : ReadingStop) → used_by (reported_as d stop) ≡ d.used
reported_used d reading_stop.Ended = refl
reported_used d (reading_stop.Fault fault) = refl
