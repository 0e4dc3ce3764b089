-- Lemmas about reading a log piece by piece: the first record, and the later records.
use Rattle.std.proofs.Common.{◌≡◌, ℕ, ◌+◌, ◌-◌, ◌<◌, ◌≤◌, List, [], ◌∷◌, ◌++◌, length, take, drop, sym, ◌∙◌, ap, append_assoc, append-nil, arith, refl, length-append, length-take-le, take-append-drop, Option, Some, None, Result, Ok, Err, inl, inr, subst}
use Rattle.std.proofs.lemmas.List.{take_more}
use Rattle.std.specs.Prelude.{OnOk, IfErr, slice_index}
use Rattle.mes_frame.specs.Record.{IsRecord}
use Rattle.mes_frame.specs.declared.counts.Counts.{Counts}
use Rattle.mes_msg.specs.declared.entry.Entry.{Entry}
use Rattle.mes_msg.specs.declared.entry.Entry.TheVariants.{Heard, Said, Broken}
use Rattle.mes_stream.specs.Framings.{GoesBefore, EndsRecordIn}
use Rattle.mes_stream.specs.Reading.{Ahead, nothing_ahead, ByteEndsAfter, EndMeans, BreaksOff, ReadingRepresentsAfter, ReadingTakesAfter, ReadingTakesRecord, MeansAfter, reported_as}
use Rattle.mes_stream.specs.Reads.{EndsReads}
use Rattle.mes_stream.specs.RecordValues.{IsRefused}
use Rattle.mes_stream.specs.Stream.{saturated, Records, RunsOut}
use Rattle.mes_stream.specs.declared.fault.Fault.{Fault}
use Rattle.mes_stream.specs.declared.fault.Fault.TheVariants.{NoMemory, Read, ReadsSpent}
use Rattle.mes_stream.specs.declared.fault.Report.{Report}
use Rattle.mes_stream.specs.declared.fault.Stop.{Stop}
use Rattle.mes_stream.specs.declared.limits.TheConstants.{MAX_READ}
use Rattle.mes_stream.specs.declared.counted_reader.EndedRecord.{EndedRecord}
use Rattle.mes_stream.specs.declared.counted_reader.Reading.{Reading}
use Rattle.mes_stream.specs.declared.counted_reader.ReadingStop.{ReadingStop}
use Rattle.mes_stream.specs.declared.read_loop.ReadsEnd.{ReadsEnd}
use Rattle.mes_stream.specs.declared.read_loop.ReadsEnd.TheVariants.{Stopped, AtEnd, Failed, Spent}
use Rattle.mes_stream.specs.declared.stream_reader.Framing.{Framing}
use Rattle.mes_stream.specs.declared.stream_reader.Framing.TheVariants.{Plain}
use Rattle.mes_json.proofs.LexerLemmas.{text_begins}
use Rattle.mes_stream.proofs.BodyLemmas.{ends_runs_out}
use Rattle.mes_session_log_entry.specs.Entries.{BeginsMessage, SpellsFirst, FirstBreaks, SpellsEntry, EntryBreaks, entries_in}
use Rattle.mes_session_log.specs.Logs.{AfterFirst, LogByteEnds, LogEndMeans, LogBreaksOff, EndsLog}
use Rattle.mes_session_log_entry.specs.EntryData.{HoldsFirst, HoldsEntry}
use Rattle.mes_session_log.specs.LogStages.{StageRepresents, RestRepresents, StageTakes, StageBegins, StageMeans, LogMeans, LogRepresents, LogGathers, LogGathersLast, log_answer, log_reported}
use Rattle.mes_session_log_entry.specs.declared.entry_reader.EntryReader.{EntryReader}
use Rattle.mes_session_log_entry.specs.declared.first_reader.FirstReader.{FirstReader}
use Rattle.mes_session_log_entry.specs.declared.first_reader.FirstRecord.{FirstRecord}
use Rattle.mes_session_log_entry.specs.declared.first_reader.FirstRecord.TheVariants as kind
use Rattle.mes_session_log.specs.declared.log_reading.LogReading.{LogReading}
use Rattle.mes_session_log.specs.declared.log_reading.LogStop.{LogStop}
use Rattle.mes_session_log.specs.declared.log_reading.LogStop.TheVariants as log_stop
use Rattle.mes_session_log.specs.declared.log_reading.Stage.{Stage}
use Rattle.mes_session_log.specs.declared.log_reading.Stage.TheVariants as stage

-- ---- the first record

pub one_record : (limit : ℕ) (b : List ℕ) (value : FirstRecord) → Records SpellsFirst limit b (value ∷ []) → (content : List ℕ) × IsRecord b content limit × SpellsFirst content value
one_record limit b value (front, rest, content, framed, says, is, none) =
    (content, subst (λ (y : List ℕ). IsRecord y content limit) (sym (is ∙ ap (λ (y : List ℕ). front ++ y) none ∙ append-nil front)) framed, says)

-- the data of an entry of version 1 begin like an event or a call
begins_message : (r : List ℕ) (entry : Entry) → SpellsEntry 1 r entry → BeginsMessage r
begins_message r (Heard heard) (text, is, (t, spelt, reads)) = inl (text, is, text_begins text t spelt)
begins_message r (Said said) (text, is, (t, spelt, reads)) = inr (text, is, text_begins text t spelt)
begins_message r Broken is = let one : 1 ≡ 2 = is.0 in absurd (omega (arith, one))

-- if the first record ends with an entry, an allocation for that entry may fail
runs_out : (limit : ℕ) (b : List ℕ) (c : ℕ) (entry : Entry) → EndsRecordIn Plain SpellsFirst limit b [] c (kind.Entry entry) → RunsOut SpellsFirst FirstBreaks limit b [] c
runs_out limit b c entry ends =
    ends_runs_out SpellsFirst FirstBreaks limit b [] c
    (record { whole = ends.whole; x = ends.x; spelt = ends.spelt; records = ends.records; is = (ends.is.0, ends.is.1, (ends.is.2.0, begins_message ends.is.0 entry ends.is.2.1)) })

-- the first record is complete, and an allocation failed for its entry
pub first_refused : (limit : ℕ) (w piece : List ℕ) (before : List Entry) (entry : Entry) (used count : ℕ) → before ≡ [] → 0 < used → used ≤ length piece → length piece ≤ MAX_READ
    → count ≡ saturated (length (w ++ take used piece)) → EndsRecordIn Plain SpellsFirst limit (w ++ take (used - 1) piece) [] (slice_index piece (used - 1)) (kind.Entry entry)
    → GoesBefore Plain SpellsFirst limit w [] piece used → LogByteEnds limit (w ++ piece) before (Err (record { fault = NoMemory; used = count }))
first_refused limit w piece before entry used count none some within small counted ends live =
    let sum : used ≡ (used - 1) + 1 = omega (arith, some) in
    let more : take used piece ≡ take (used - 1) piece ++ slice_index piece (used - 1) ∷ [] = ap (λ (n : ℕ). take n piece) sum ∙ take_more piece (used - 1) 0 (omega (arith, some, within)) in
    let taken = length-take-le used piece within in
    let shorter = length-take-le (used - 1) piece (omega (arith, some, within)) in
    inl (
      record {
        n = length w + used;
        count = counted ∙ omega (arith, taken, length-append w (take used piece));
        stops = record {
          front = w ++ take (used - 1) piece;
          byte = slice_index piece (used - 1);
          rest = drop used piece;
          is = ap (λ (y : List ℕ). w ++ y) (sym (take-append-drop used piece) ∙ ap (λ (y : List ℕ). y ++ drop used piece) more ∙ append_assoc (take (used - 1) piece) (slice_index piece (used - 1) ∷ []) (drop used piece))
              ∙ sym (append_assoc w (take (used - 1) piece) (slice_index piece (used - 1) ∷ drop used piece));
          used = omega (arith, some, shorter, length-append w (take (used - 1) piece));
          live = live (used - 1) (omega (arith, some));
          stops = inr (refl, runs_out limit (w ++ take (used - 1) piece) (slice_index piece (used - 1)) entry ends);
        };
        last = omega (arith, some, small, length-append w piece);
      },
      none,
    )

-- ---- the later records

-- the state of the reader of the later records of a log of version v
abbrev pub AtVersion : (v : ℕ) → Reading (EntryReader v) → ℕ → List ℕ → List Entry → Type 0
AtVersion v d limit w entries =
    AfterFirst limit w entries (λ version ahead rest more. (version ≡ v) × ReadingRepresentsAfter HoldsEntry (SpellsEntry v) ahead d Plain limit rest more)

abbrev pub TakesEntries : {T : Type 0} (v : ℕ) → Reading (EntryReader v) → Reading (EntryReader v) → List ℕ → List Entry → List Entry → Result T ReadingStop → Type 0
TakesEntries v d new piece old now result =
    (ahead : Ahead) (framing : Framing) (limit : ℕ) (w : List ℕ) (before : List Entry) → ReadingRepresentsAfter HoldsEntry (SpellsEntry v) ahead d framing limit w before
    → ReadingTakesAfter HoldsEntry (SpellsEntry v) (IsRefused (SpellsEntry v) (EntryBreaks v)) ahead new framing limit w before piece old now result

pub takes_more : {T : Type 0} (v : ℕ) (d new : Reading (EntryReader v)) (limit : ℕ) (w piece : List ℕ) (before old now : List Entry) (done : T) → TakesEntries v d new piece old now (Ok done)
    → AtVersion v d limit w before → (more : List Entry) × (now ≡ old ++ more) × AtVersion v new limit (w ++ piece) (before ++ more)
takes_more v d new limit w piece before old now done takes b =
    let t = takes _ Plain limit b.rest b.more b.is.1 in (
      t.0,
      t.1,
      record {
        head = b.head;
        rest = b.rest ++ piece;
        content = b.content;
        first = b.first;
        more = b.more ++ t.0;
        spelt = ap (λ (y : List ℕ). y ++ piece) b.spelt ∙ append_assoc b.head b.rest piece;
        framed = b.framed;
        says = b.says;
        all = ap (λ (y : List Entry). y ++ t.0) b.all ∙ append_assoc (entries_in b.first) b.more t.0;
        is = (b.is.0, t.2);
      },
    )

pub takes_last : (T : Type 0) (v : ℕ) (d new : Reading (EntryReader v)) (limit : ℕ) (w piece : List ℕ) (before old now : List Entry) (stop : ReadingStop) → TakesEntries {T = T} v d new piece old now (Err stop)
    → AtVersion v d limit w before → (more : List Entry) × (now ≡ old ++ more) × LogByteEnds limit (w ++ piece) (before ++ more) (reported_as new stop)
takes_last T v d new limit w piece before old now stop takes b =
    let t = takes _ Plain limit b.rest b.more b.is.1 in (
      t.0,
      t.1,
      inr (record {
        head = b.head;
        rest = b.rest ++ piece;
        content = b.content;
        first = b.first;
        more = b.more ++ t.0;
        spelt = ap (λ (y : List ℕ). y ++ piece) b.spelt ∙ append_assoc b.head b.rest piece;
        framed = b.framed;
        says = b.says;
        all = ap (λ (y : List Entry). y ++ t.0) b.all ∙ append_assoc (entries_in b.first) b.more t.0;
        is = subst (λ (u : ℕ). ByteEndsAfter Plain (SpellsEntry u) (IsRefused (SpellsEntry u) (EntryBreaks u)) (record { records = 1; bytes = length b.head }) limit (b.rest ++ piece) (b.more ++ t.0) (reported_as new stop)) (sym b.is.0) t.2;
      }),
    )

pub one_takes : {T : Type 0} (d new : Reading (EntryReader 1)) (limit : ℕ) (w piece : List ℕ) (before old now : List Entry) (fed : Result T ReadingStop) → TakesEntries 1 d new piece old now fed
    → RestRepresents (stage.One d) limit w before → StageTakes (stage.One new) limit w before piece old now (log_answer fed)
one_takes d new limit w piece before old now (Ok done) takes b = takes_more 1 d new limit w piece before old now done takes b
one_takes {T = T} d new limit w piece before old now (Err stop) takes b = takes_last T 1 d new limit w piece before old now stop takes b

pub two_takes : {T : Type 0} (d new : Reading (EntryReader 2)) (limit : ℕ) (w piece : List ℕ) (before old now : List Entry) (fed : Result T ReadingStop) → TakesEntries 2 d new piece old now fed
    → RestRepresents (stage.Two d) limit w before → StageTakes (stage.Two new) limit w before piece old now (log_answer fed)
two_takes d new limit w piece before old now (Ok done) takes b = takes_more 2 d new limit w piece before old now done takes b
two_takes {T = T} d new limit w piece before old now (Err stop) takes b = takes_last T 2 d new limit w piece before old now stop takes b

pub behind_header : (limit used : ℕ) (head content : List ℕ) (d : Reading (EntryReader 2))
    → ((ahead : Ahead) → 1 ≡ saturated ahead.records → used ≡ saturated ahead.bytes → ReadingRepresentsAfter HoldsEntry (SpellsEntry 2) ahead d Plain limit [] [])
    → IsRecord head content limit → SpellsFirst content kind.Header → used ≡ saturated (length head) → RestRepresents (stage.Two d) limit head (entries_in kind.Header)
behind_header limit used head content d following framed says counted = record {
  head = head;
  rest = [];
  content = content;
  first = kind.Header;
  more = [];
  spelt = sym (append-nil head);
  framed = framed;
  says = says;
  all = refl;
  is = (refl, following (record { records = 1; bytes = length head }) (omega arith) counted);
}

pub behind_entry : (limit used : ℕ) (head content : List ℕ) (entry : Entry) (d : Reading (EntryReader 1))
    → ((ahead : Ahead) → 1 ≡ saturated ahead.records → used ≡ saturated ahead.bytes → ReadingRepresentsAfter HoldsEntry (SpellsEntry 1) ahead d Plain limit [] [])
    → IsRecord head content limit → SpellsFirst content (kind.Entry entry) → used ≡ saturated (length head) → RestRepresents (stage.One d) limit head (entries_in (kind.Entry entry))
behind_entry limit used head content entry d following framed says counted = record {
  head = head;
  rest = [];
  content = content;
  first = kind.Entry entry;
  more = [];
  spelt = sym (append-nil head);
  framed = framed;
  says = says;
  all = refl;
  is = (refl, following (record { records = 1; bytes = length head }) (omega arith) counted);
}

-- ---- up to the end of the first record

-- the contract of the reader of a first record
abbrev pub TakesFirst : Reading FirstReader → Reading FirstReader → List ℕ → Result (Option (EndedRecord FirstRecord)) ReadingStop → Type 0
TakesFirst d new piece result =
    (ahead : Ahead) (framing : Framing) (limit : ℕ) (w : List ℕ) (values : List FirstRecord) → ReadingRepresentsAfter HoldsFirst SpellsFirst ahead d framing limit w values
    → ReadingTakesRecord HoldsFirst SpellsFirst FirstBreaks ahead new framing limit w values piece result

pub begins_none : (d new : Reading FirstReader) (limit : ℕ) (w piece : List ℕ) (before old : List Entry) → TakesFirst d new piece (Ok None) → StageRepresents (stage.First d) limit w before
    → StageBegins (stage.First new) limit w before piece old old (Ok None)
begins_none d new limit w piece before old takes h = (refl, (takes nothing_ahead Plain limit w [] h.0, h.1))

pub begins_stop : (d new : Reading FirstReader) (limit : ℕ) (w piece : List ℕ) (before old : List Entry) (stop : ReadingStop) → TakesFirst d new piece (Err stop) → StageRepresents (stage.First d) limit w before
    → StageBegins (stage.First new) limit w before piece old old (Err (log_stop.Reading stop))
begins_stop d new limit w piece before old stop takes h = (refl, inl (takes nothing_ahead Plain limit w [] h.0, h.1))

abbrev pub CountsFirst : Reading FirstReader → ℕ → Type 0
CountsFirst new used =
    (ahead : Ahead) (framing : Framing) (limit : ℕ) (w : List ℕ) (values : List FirstRecord) → ReadingRepresentsAfter HoldsFirst SpellsFirst ahead new framing limit w values
    → used ≡ saturated (ahead.bytes + length w)

pub begins_some : (d new : Reading FirstReader) (limit bytes : ℕ) (w piece : List ℕ) (before old now : List Entry) (value : FirstRecord) (used : ℕ) (s : Stage) (said : FirstRecord) → said ≡ value
    → TakesFirst d new piece (Ok (Some (record { value = value; used = used }))) → StageRepresents (stage.First d) limit w before → CountsFirst new bytes
    → ((head content : List ℕ) → IsRecord head content limit → SpellsFirst content said → bytes ≡ saturated (length head) → RestRepresents s limit head (entries_in said))
    → now ≡ old ++ entries_in said → StageBegins s limit w before piece old now (Ok (Some used))
begins_some d new limit bytes w piece before old now value used s said same takes h counts ok is =
    let t = takes nothing_ahead Plain limit w [] h.0 in
    let one = one_record limit (w ++ take used piece) value t.1 in
    let counted = counts nothing_ahead Plain limit (w ++ take used piece) (value ∷ []) t.0 in
    let represents = ok (w ++ take used piece) one.0 one.1 (subst (λ (v : FirstRecord). SpellsFirst one.0 v) (sym same) one.2) (omega (arith, counted)) in
    (entries_in said, is, subst (λ (es : List Entry). RestRepresents s limit (w ++ take used piece) es) (ap (λ (es : List Entry). es ++ entries_in said) (sym h.1)) represents)

pub begins_refused : (d new : Reading FirstReader) (limit bytes : ℕ) (w piece : List ℕ) (before old now : List Entry) (value : FirstRecord) (used : ℕ) → 0 < used → used ≤ length piece → length piece ≤ MAX_READ
    → TakesFirst d new piece (Ok (Some (record { value = value; used = used }))) → StageRepresents (stage.First d) limit w before → bytes ≡ new.used → CountsFirst new bytes → now ≡ old
    → (said : FirstRecord) → said ≡ value → (entry : Entry) × (said ≡ kind.Entry entry) → StageBegins (stage.First new) limit w before piece old now (Err log_stop.NoMemory)
begins_refused d new limit bytes w piece before old now value used some within small takes h count counts same said equal (entry, is) =
    let t = takes nothing_ahead Plain limit w [] h.0 in
    let counted = counts nothing_ahead Plain limit (w ++ take used piece) (value ∷ []) t.0 in (
      same,
      first_refused limit w piece before entry used new.used h.1 some within small (omega (arith, count, counted))
          (subst (λ (v : FirstRecord). EndsRecordIn Plain SpellsFirst limit (w ++ take (used - 1) piece) [] (slice_index piece (used - 1)) v) (sym equal ∙ is) t.2) t.3,
    )

-- if the first record ended before the piece, it uses nothing of the piece
pub begins_behind : (s : Stage) (limit : ℕ) (w piece : List ℕ) (before old : List Entry) → RestRepresents s limit w before → StageBegins s limit w before piece old old (Ok (Some 0))
begins_behind s limit w piece before old h =
    ([], sym (append-nil old), subst (λ (es : List Entry). RestRepresents s limit (w ++ []) es) (sym (append-nil before)) (subst (λ (y : List ℕ). RestRepresents s limit y before) (sym (append-nil w)) h))

pub takes_rest : {T : Type 0} (s : Stage) (limit : ℕ) (w piece : List ℕ) (before old mid now : List Entry) (used : ℕ) (result : Result T LogStop) (begins : (more : List Entry) × (mid ≡ old ++ more) × RestRepresents s limit (w ++ take used piece) (before ++ more))
    → (later : Stage) → StageTakes later limit (w ++ take used piece) (before ++ begins.0) (drop used piece) mid now result → StageTakes later limit w before piece old now result
takes_rest s limit w piece before old mid now used (Ok done) begins later t = (
  begins.0 ++ t.0,
  t.1 ∙ ap (λ (es : List Entry). es ++ t.0) begins.1 ∙ append_assoc old begins.0 t.0,
  subst (λ (es : List Entry). StageRepresents later limit (w ++ piece) es) (append_assoc before begins.0 t.0)
      (subst (λ (y : List ℕ). StageRepresents later limit y ((before ++ begins.0) ++ t.0)) (append_assoc w (take used piece) (drop used piece) ∙ ap (λ (y : List ℕ). w ++ y) (take-append-drop used piece)) t.2),
)
takes_rest s limit w piece before old mid now used (Err stop) begins later t = (
  begins.0 ++ t.0,
  t.1 ∙ ap (λ (es : List Entry). es ++ t.0) begins.1 ∙ append_assoc old begins.0 t.0,
  subst (λ (es : List Entry). LogByteEnds limit (w ++ piece) es (log_reported later stop)) (append_assoc before begins.0 t.0)
      (subst (λ (y : List ℕ). LogByteEnds limit y ((before ++ begins.0) ++ t.0) (log_reported later stop)) (append_assoc w (take used piece) (drop used piece) ∙ ap (λ (y : List ℕ). w ++ y) (take-append-drop used piece)) t.2),
)

pub takes_none : (s : Stage) (limit : ℕ) (w piece : List ℕ) (before old now : List Entry) → (now ≡ old) × StageRepresents s limit (w ++ piece) before → (more : List Entry) × (now ≡ old ++ more) × StageRepresents s limit (w ++ piece) (before ++ more)
takes_none s limit w piece before old now h = ([], h.0 ∙ sym (append-nil old), subst (λ (es : List Entry). StageRepresents s limit (w ++ piece) es) (sym (append-nil before)) h.1)

pub takes_stop : (s : Stage) (limit : ℕ) (w piece : List ℕ) (before old now : List Entry) (stop : LogStop) → (now ≡ old) × LogByteEnds limit (w ++ piece) before (log_reported s stop)
    → (more : List Entry) × (now ≡ old ++ more) × LogByteEnds limit (w ++ piece) (before ++ more) (log_reported s stop)
takes_stop s limit w piece before old now stop h = ([], h.0 ∙ sym (append-nil old), subst (λ (es : List Entry). LogByteEnds limit (w ++ piece) es (log_reported s stop)) (sym (append-nil before)) h.1)

-- ---- the result after the last read

pub first_means : (d : Reading FirstReader) (end : ReadsEnd ReadingStop) (answer : Result Report Stop) → MeansAfter HoldsFirst SpellsFirst nothing_ahead d end answer → StageMeans (stage.First d) end answer
first_means d (Stopped stop) answer means = means
first_means d AtEnd answer means = λ limit w entries represents. inl (means Plain limit w [] represents.0, represents.1)
first_means d Failed answer means = λ limit w entries represents. inl (means Plain limit w [] represents.0, represents.1)
first_means d Spent answer means = λ limit w entries represents. inl (means Plain limit w [] represents.0, represents.1)

end_means : (v : ℕ) (d : Reading (EntryReader v)) (answer : Result Report Stop) (limit : ℕ) (w : List ℕ) (entries : List Entry) → ((ahead : Ahead) → MeansAfter HoldsEntry (SpellsEntry v) ahead d AtEnd answer)
    → AtVersion v d limit w entries → LogEndMeans limit w entries answer
end_means v d answer limit w entries means b = inr (record {
  head = b.head;
  rest = b.rest;
  content = b.content;
  first = b.first;
  more = b.more;
  spelt = b.spelt;
  framed = b.framed;
  says = b.says;
  all = b.all;
  is = subst (λ (u : ℕ). EndMeans Plain (SpellsEntry u) (record { records = 1; bytes = length b.head }) limit b.rest b.more answer) (sym b.is.0) (means _ Plain limit b.rest b.more b.is.1);
})

breaks_off : (v : ℕ) (d : Reading (EntryReader v)) (answer : Result Report Stop) (fault : Fault) (limit : ℕ) (w : List ℕ) (entries : List Entry)
    → ((ahead : Ahead) (framing : Framing) (limit : ℕ) (w : List ℕ) (values : List Entry) → ReadingRepresentsAfter HoldsEntry (SpellsEntry v) ahead d framing limit w values → BreaksOff fault framing (SpellsEntry v) ahead limit w values answer)
    → AtVersion v d limit w entries → LogBreaksOff limit fault w entries answer
breaks_off v d answer fault limit w entries means b = inr (record {
  head = b.head;
  rest = b.rest;
  content = b.content;
  first = b.first;
  more = b.more;
  spelt = b.spelt;
  framed = b.framed;
  says = b.says;
  all = b.all;
  is = subst (λ (u : ℕ). BreaksOff fault Plain (SpellsEntry u) (record { records = 1; bytes = length b.head }) limit b.rest b.more answer) (sym b.is.0) (means _ Plain limit b.rest b.more b.is.1);
})

pub one_means : (d : Reading (EntryReader 1)) (end : ReadsEnd ReadingStop) (answer : Result Report Stop) → ((ahead : Ahead) → MeansAfter HoldsEntry (SpellsEntry 1) ahead d end answer) → StageMeans (stage.One d) end answer
one_means d (Stopped stop) answer means = means nothing_ahead
one_means d AtEnd answer means = λ limit w entries represents. end_means 1 d answer limit w entries means represents
one_means d Failed answer means = λ limit w entries represents. breaks_off 1 d answer Read limit w entries means represents
one_means d Spent answer means = λ limit w entries represents. breaks_off 1 d answer ReadsSpent limit w entries means represents

pub two_means : (d : Reading (EntryReader 2)) (end : ReadsEnd ReadingStop) (answer : Result Report Stop) → ((ahead : Ahead) → MeansAfter HoldsEntry (SpellsEntry 2) ahead d end answer) → StageMeans (stage.Two d) end answer
two_means d (Stopped stop) answer means = means nothing_ahead
two_means d AtEnd answer means = λ limit w entries represents. end_means 2 d answer limit w entries means represents
two_means d Failed answer means = λ limit w entries represents. breaks_off 2 d answer Read limit w entries means represents
two_means d Spent answer means = λ limit w entries represents. breaks_off 2 d answer ReadsSpent limit w entries means represents

-- ---- the list to which the entries are appended

pub rest_stands : (s : Stage) (limit : ℕ) (w : List ℕ) (entries : List Entry) → RestRepresents s limit w entries → StageRepresents s limit w entries
rest_stands (stage.First reading) limit w entries h = absurd h
rest_stands (stage.One reading) limit w entries h = h
rest_stands (stage.Two reading) limit w entries h = h

pub gathers_none : (d : LogReading) (start : List Entry) → LogGathers d start d start []
gathers_none d start = λ limit represents. ([], sym (append-nil start), represents)

-- the contract of the function that consumes a piece
abbrev pub TakesPiece : {T : Type 0} → LogReading → LogReading → List ℕ → List Entry → List Entry → Result T LogStop → Type 0
TakesPiece d new piece old now result =
    (limit : ℕ) (w : List ℕ) (before : List Entry) → LogRepresents d limit w before → StageTakes new.stage limit w before piece old now result

pub gathers_more : {T : Type 0} (first d new : LogReading) (start old now : List Entry) (w piece : List ℕ) (result : Result T LogStop) → new.limit ≡ d.limit → LogGathers first start d old w
    → TakesPiece d new piece old now result → OnOk result (LogGathers first start new now (w ++ piece))
gathers_more first d new start old now w piece (Ok done) same h fed = λ limit represents.
    let so_far = h limit represents in
    let more = fed limit w so_far.0 so_far.2 in
    (so_far.0 ++ more.0, more.1 ∙ ap (λ (x : List Entry). x ++ more.0) so_far.1 ∙ append_assoc start so_far.0 more.0, (same ∙ so_far.2.0, more.2))
gathers_more first d new start old now w piece (Err stop) same h fed = tt

pub gathers_last : {T : Type 0} (first d new : LogReading) (start old now : List Entry) (w piece : List ℕ) (result : Result T LogStop) → LogGathers first start d old w
    → TakesPiece d new piece old now result → IfErr result (λ stop. LogGathersLast first start new now w piece stop)
gathers_last first d new start old now w piece (Ok done) h fed = tt
gathers_last first d new start old now w piece (Err stop) h fed = λ limit represents.
    let so_far = h limit represents in
    let more = fed limit w so_far.0 so_far.2 in
    (so_far.0 ++ more.0, more.1 ∙ ap (λ (x : List Entry). x ++ more.0) so_far.1 ∙ append_assoc start so_far.0 more.0, more.2)

-- the result of reading the log, from how the reads ended
pub log_through : (first now : LogReading) (start to : List Entry) (limit reads : ℕ) (old new : Counts) (last : Option (List ℕ)) (w : List ℕ) (end : ReadsEnd LogStop) (answer : Result Report Stop)
    → LogRepresents first limit [] [] → EndsReads (LogGathers first start now to) (LogGathersLast first start now to) reads old new last w end → LogMeans now.stage end answer
    → (more : List Entry) × (to ≡ start ++ more) × EndsLog limit reads old new last w more answer
log_through first now start to limit reads old new last w (Stopped stop) answer represents (front, piece, at, stops, asked) is =
    let h = stops limit represents in
    (h.0, h.1, inl (rw (is, at.is) h.2, asked))
log_through first now start to limit reads old new last w AtEnd answer represents (goes, end, asked) means =
    let h = goes limit represents in (h.0, h.1, inr (inl (means limit w h.0 h.2.1, end, asked)))
log_through first now start to limit reads old new last w Failed answer represents (goes, asked) means =
    let h = goes limit represents in (h.0, h.1, inr (inr (inl (means limit w h.0 h.2.1, asked))))
log_through first now start to limit reads old new last w Spent answer represents (goes, asked) means =
    let h = goes limit represents in (h.0, h.1, inr (inr (inr (means limit w h.0 h.2.1, asked))))
