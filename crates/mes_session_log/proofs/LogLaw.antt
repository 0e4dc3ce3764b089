-- Reading any bytes as a log has exactly one result.
use Rattle.std.proofs.Common.{◌≡◌, ℕ, ◌+◌, ◌⊎◌, inl, inr, List, [], ◌∷◌, ◌++◌, refl, ap, ap₂, sym, ◌∙◌, subst, append_assoc, append-nil, arith}
use Rattle.std.proofs.lemmas.List.{append_cancel_left}
use Rattle.mes_frame.specs.Record.{IsRecord}
use Rattle.mes_frame.specs.RecordReading.{RecordReading, ReadsRecord, Whole}
use Rattle.mes_msg.specs.declared.entry.Entry.{Entry}
use Rattle.mes_stream.specs.PlainReading.{PlainReading, Goes, Stops, ReadsPlain}
use Rattle.mes_stream.specs.Stream.{Records, Following, BodyLive, BodyShows, number_after}
use Rattle.mes_stream.specs.declared.fault.Fault.{Fault}
use Rattle.mes_stream.specs.declared.fault.Fault.TheVariants.{Frame, EndsInsideChunks, EndsInsideRecord, Text, Field, NoMemory, Read, ReadsSpent, BadEntry}
use Rattle.mes_stream.specs.declared.record_error.RecordError.{RecordError}
use Rattle.mes_session_log_entry.specs.Entries.{SpellsFirst, FirstBreaks, SpellsEntry, EntryBreaks, version_of, entries_in}
use Rattle.mes_session_log.specs.Logs.{IsLog, LogGoes, ReadsLog}
use Rattle.mes_session_log_entry.specs.declared.first_reader.FirstRecord.{FirstRecord}
use Rattle.mes_session_log_entry.specs.declared.first_reader.FirstRecord.TheVariants as kind

abbrev values_in : {E : Type 0} → PlainReading E → List E
values_in (Goes values) = values
values_in (Stops front byte values fault) = values

-- ---- bytes with a complete first record

module _ {E : Type 0} (spells : List ℕ → E → Type 0) (breaks : List ℕ → RecordError → Type 0) (limit : ℕ) where
  abbrev behind_one : List ℕ → E → PlainReading E → PlainReading E
  behind_one head value (Goes values) = Goes (value ∷ values)
  behind_one head value (Stops front byte values fault) = Stops (head ++ front) byte (value ∷ values) fault

  one_more : (Is : List ℕ → Type 0) (head content b : List ℕ) (value : E) (values : List E) → IsRecord head content limit → spells content value
      → Following spells limit Is b values → Following spells limit Is (head ++ b) (value ∷ values)
  one_more Is head content b value values framed says h = record {
    whole = head ++ h.whole;
    x = h.x;
    spelt = ap (λ (y : List ℕ). head ++ y) h.spelt ∙ sym (append_assoc head h.whole h.x);
    records = (head, h.whole, content, framed, says, refl, h.records);
    is = h.is;
  }

  number_on : (ahead : ℕ) (value : E) (values : List E) (n : ℕ) → n ≡ number_after (ahead + 1) values → n ≡ number_after ahead (value ∷ values)
  number_on ahead value values n is = omega (arith, is)

  shows_more : (ahead : ℕ) (head content b : List ℕ) (value : E) (values : List E) (c : ℕ) (fault : Fault) → IsRecord head content limit → spells content value
      → BodyShows spells breaks (ahead + 1) limit b values c fault → BodyShows spells breaks ahead limit (head ++ b) (value ∷ values) c fault
  shows_more ahead head content b value values c (Frame fault) framed says h = one_more _ head content b value values framed says h
  shows_more ahead head content b value values c (Text n byte why) framed says h = (one_more _ head content b value values framed says h.0, number_on ahead value values n h.1)
  shows_more ahead head content b value values c (Field n path why) framed says h = (one_more _ head content b value values framed says h.0, number_on ahead value values n h.1)
  shows_more ahead head content b value values c EndsInsideChunks framed says h = h
  shows_more ahead head content b value values c EndsInsideRecord framed says h = h
  shows_more ahead head content b value values c NoMemory framed says h = h
  shows_more ahead head content b value values c Read framed says h = h
  shows_more ahead head content b value values c ReadsSpent framed says h = h
  shows_more ahead head content b value values c (BadEntry n) framed says h = (one_more _ head content b value values framed says h.0, number_on ahead value values n h.1)

  reads_more : (ahead : ℕ) (head content rest : List ℕ) (value : E) (reading : PlainReading E) → IsRecord head content limit → spells content value
      → ReadsPlain spells breaks (ahead + 1) limit rest reading → ReadsPlain spells breaks ahead limit (head ++ rest) (behind_one head value reading)
  reads_more ahead head content rest value (Goes values) framed says h = one_more _ head content rest value values framed says h
  reads_more ahead head content rest value (Stops front byte values fault) framed says (following, is, h) =
      (following, ap (λ (y : List ℕ). head ++ y) is ∙ sym (append_assoc head front (byte ∷ following)), shows_more ahead head content front value values byte fault framed says h)

  -- ---- the first record, from the result of reading it

  pub record HasFirst (w : List ℕ) (value : E) : Type 0 where
    pub head : List ℕ
    pub rest : List ℕ
    pub content : List ℕ
    pub spelt : w ≡ head ++ rest
    pub framed : IsRecord head content limit
    pub says : spells content value

  found : (Is : List ℕ → Type 0) (b : List ℕ) (value : E) (values : List E) → Following spells limit Is b (value ∷ values) → HasFirst b value
  found Is b value values h =
      let r = h.records in
      record {
        head = r.0;
        rest = r.1 ++ h.x;
        content = r.2;
        spelt = h.spelt ∙ ap (λ (y : List ℕ). y ++ h.x) r.5 ∙ append_assoc r.0 r.1 h.x;
        framed = r.3;
        says = r.4;
      }

  found_shown : (ahead : ℕ) (b : List ℕ) (value : E) (values : List E) (c : ℕ) (fault : Fault) → BodyShows spells breaks ahead limit b (value ∷ values) c fault → HasFirst b value
  found_shown ahead b value values c (Frame fault) h = found _ b value values h
  found_shown ahead b value values c (Text n byte why) h = found _ b value values h.0
  found_shown ahead b value values c (Field n path why) h = found _ b value values h.0
  found_shown ahead b value values c EndsInsideChunks h = absurd h
  found_shown ahead b value values c EndsInsideRecord h = absurd h
  found_shown ahead b value values c NoMemory h = absurd h
  found_shown ahead b value values c Read h = absurd h
  found_shown ahead b value values c ReadsSpent h = absurd h
  found_shown ahead b value values c (BadEntry n) h = found _ b value values h.0

  first_of : (ahead : ℕ) (w : List ℕ) (reading : PlainReading E) (value : E) (values : List E) → values_in reading ≡ value ∷ values
      → ReadsPlain spells breaks ahead limit w reading → HasFirst w value
  first_of ahead w (Goes all) value values is h = found _ w value values (subst (λ (es : List E). BodyLive spells limit w es) is h)
  first_of ahead w (Stops front byte all fault) value values is (following, at, h) =
      let f = found_shown ahead front value values byte fault (subst (λ (es : List E). BodyShows spells breaks ahead limit front es byte fault) is h) in
      record {
        head = f.head;
        rest = f.rest ++ byte ∷ following;
        content = f.content;
        spelt = at ∙ ap (λ (y : List ℕ). y ++ byte ∷ following) f.spelt ∙ append_assoc f.head f.rest (byte ∷ following);
        framed = f.framed;
        says = f.says;
      }

-- ---- a whole log is read to its entries

records_live : {E : Type 0} (spells : List ℕ → E → Type 0) (limit : ℕ) (b : List ℕ) (values : List E) → Records spells limit b values → BodyLive spells limit b values
records_live spells limit b values records = record { whole = b; x = []; spelt = sym (append-nil b); records = records; is = ([], inl (record { digits = tt; few = omega arith }, refl)) }

pub whole_goes : (limit : ℕ) (w : List ℕ) (entries : List Entry) → IsLog limit w entries → LogGoes limit w entries
whole_goes limit w entries (inl (records, none)) = inl (records_live SpellsFirst limit w [] records, none)
whole_goes limit w entries (inr b) = inr (record {
  head = b.head;
  rest = b.rest;
  content = b.content;
  first = b.first;
  more = b.more;
  spelt = b.spelt;
  framed = b.framed;
  says = b.says;
  all = b.all;
  is = records_live (SpellsEntry (version_of b.first)) limit b.rest b.more b.is;
})

-- ---- the result of reading a log, from those of the first record and of the rest

-- reading the records after the first has at most one result
abbrev pub Once : ℕ → Type 0
Once v = (limit : ℕ) (w : List ℕ) (a b : PlainReading Entry) → ReadsPlain (SpellsEntry v) (EntryBreaks v) 1 limit w a → ReadsPlain (SpellsEntry v) (EntryBreaks v) 1 limit w b → a ≡ b

abbrev pub InSomeWay : ℕ → Type 0
InSomeWay v = (limit : ℕ) (w : List ℕ) → (reading : PlainReading Entry) × ReadsPlain (SpellsEntry v) (EntryBreaks v) 1 limit w reading

pub once_behind : Once 1 → Once 2 → (first : FirstRecord) → Once (version_of first)
once_behind one two kind.Header = two
once_behind one two (kind.Entry entry) = one

pub some_behind : InSomeWay 1 → InSomeWay 2 → (first : FirstRecord) → InSomeWay (version_of first)
some_behind one two kind.Header = two
some_behind one two (kind.Entry entry) = one

-- the result of reading an incomplete first record, as a result of reading the log
abbrev as_log : PlainReading FirstRecord → PlainReading Entry
as_log (Goes values) = Goes []
as_log (Stops front byte values fault) = Stops front byte [] fault

abbrev behind_first : List ℕ → FirstRecord → PlainReading Entry → PlainReading Entry
behind_first head first (Goes more) = Goes (entries_in first ++ more)
behind_first head first (Stops front byte more fault) = Stops (head ++ front) byte (entries_in first ++ more) fault

module _ (limit : ℕ) where
  record Sooner (w : List ℕ) (reading : PlainReading Entry) : Type 0 where
    pub sub : PlainReading FirstRecord
    pub none : values_in sub ≡ []
    pub reads : ReadsPlain SpellsFirst FirstBreaks 0 limit w sub
    pub is : reading ≡ as_log sub

  record Later (w : List ℕ) (reading : PlainReading Entry) : Type 0 where
    pub head : List ℕ
    pub rest : List ℕ
    pub content : List ℕ
    pub first : FirstRecord
    pub sub : PlainReading Entry
    pub spelt : w ≡ head ++ rest
    pub framed : IsRecord head content limit
    pub says : SpellsFirst content first
    pub reads : ReadsPlain (SpellsEntry (version_of first)) (EntryBreaks (version_of first)) 1 limit rest sub
    pub is : reading ≡ behind_first head first sub

  split : (w : List ℕ) (reading : PlainReading Entry) → ReadsLog limit w reading → Sooner w reading ⊎ Later w reading
  split w (Goes entries) (inl (live, none)) = inl (record { sub = Goes []; none = refl; reads = live; is = ap Goes none })
  split w (Goes entries) (inr b) = inr (record {
    head = b.head;
    rest = b.rest;
    content = b.content;
    first = b.first;
    sub = Goes b.more;
    spelt = b.spelt;
    framed = b.framed;
    says = b.says;
    reads = b.is;
    is = ap Goes b.all;
  })
  split w (Stops front byte entries fault) (rest, is, inl (shows, none)) =
      inl (record { sub = Stops front byte [] fault; none = refl; reads = (rest, is, shows); is = ap (λ (es : List Entry). Stops front byte es fault) none })
  split w (Stops front byte entries fault) (rest, is, inr b) = inr (record {
    head = b.head;
    rest = b.rest ++ byte ∷ rest;
    content = b.content;
    first = b.first;
    sub = Stops b.rest byte b.more fault;
    spelt = is ∙ ap (λ (y : List ℕ). y ++ byte ∷ rest) b.spelt ∙ append_assoc b.head b.rest (byte ∷ rest);
    framed = b.framed;
    says = b.says;
    reads = (rest, refl, b.is);
    is = ap₂ (λ (f : List ℕ) (es : List Entry). Stops f byte es fault) b.spelt b.all;
  })

  join_sooner : (w : List ℕ) (sub : PlainReading FirstRecord) → values_in sub ≡ [] → ReadsPlain SpellsFirst FirstBreaks 0 limit w sub → ReadsLog limit w (as_log sub)
  join_sooner w (Goes values) none h = inl (subst (λ (es : List FirstRecord). BodyLive SpellsFirst limit w es) none h, refl)
  join_sooner w (Stops front byte values fault) none (rest, is, h) =
      (rest, is, inl (subst (λ (es : List FirstRecord). BodyShows SpellsFirst FirstBreaks 0 limit front es byte fault) none h, refl))

  join_later : (w head rest content : List ℕ) (first : FirstRecord) (sub : PlainReading Entry) → w ≡ head ++ rest → IsRecord head content limit → SpellsFirst content first
      → ReadsPlain (SpellsEntry (version_of first)) (EntryBreaks (version_of first)) 1 limit rest sub → ReadsLog limit w (behind_first head first sub)
  join_later w head rest content first (Goes more) spelt framed says h =
      inr (record { head = head; rest = rest; content = content; first = first; more = more; spelt = spelt; framed = framed; says = says; all = refl; is = h })
  join_later w head rest content first (Stops front byte more fault) spelt framed says (following, is, h) = (
    following,
    spelt ∙ ap (λ (y : List ℕ). head ++ y) is ∙ sym (append_assoc head front (byte ∷ following)),
    inr (record { head = head; rest = front; content = content; first = first; more = more; spelt = refl; framed = framed; says = says; all = refl; is = h }),
  )

module _ (first_once : (limit : ℕ) (w : List ℕ) (a b : PlainReading FirstRecord) → ReadsPlain SpellsFirst FirstBreaks 0 limit w a → ReadsPlain SpellsFirst FirstBreaks 0 limit w b → a ≡ b)
    (first_some : (ahead limit : ℕ) (w : List ℕ) → (reading : PlainReading FirstRecord) × ReadsPlain SpellsFirst FirstBreaks ahead limit w reading)
    (entry_once : (first : FirstRecord) → Once (version_of first))
    (entry_some : (first : FirstRecord) → InSomeWay (version_of first))
    (one_record : (limit : ℕ) (w : List ℕ) (a b : RecordReading) → ReadsRecord limit w a → ReadsRecord limit w b → a ≡ b)
    (one_value : (r : List ℕ) (a b : FirstRecord) → SpellsFirst r a → SpellsFirst r b → a ≡ b) where
  -- bytes with a complete first record have no result of the form for an incomplete first record
  not_both : (limit : ℕ) (w : List ℕ) (a b : PlainReading Entry) → Sooner limit w a → Later limit w b → ⊥
  not_both limit w a b s l =
      let on = first_some 1 limit l.rest in
      let more = reads_more SpellsFirst FirstBreaks limit 0 l.head l.content l.rest l.first on.0 l.framed l.says on.1 in
      let same : s.sub ≡ behind_one SpellsFirst FirstBreaks limit l.head l.first on.0 =
      first_once limit w s.sub (behind_one SpellsFirst FirstBreaks limit l.head l.first on.0) s.reads
      (subst (λ (y : List ℕ). ReadsPlain SpellsFirst FirstBreaks 0 limit y (behind_one SpellsFirst FirstBreaks limit l.head l.first on.0)) (sym l.spelt) more) in
      some limit l.head l.first on.0 (sym s.none ∙ ap values_in same) where
        some : (limit : ℕ) (head : List ℕ) (first : FirstRecord) (sub : PlainReading FirstRecord) → [] ≡ values_in (behind_one SpellsFirst FirstBreaks limit head first sub) → ⊥
        some limit head first (Goes values) is = absurd (cc)
        some limit head first (Stops front byte values fault) is = absurd (cc)

  both_later : (limit : ℕ) (w : List ℕ) (a b : PlainReading Entry) → Later limit w a → Later limit w b → a ≡ b
  both_later limit w a b l k =
      let records : Whole l.head l.content ≡ Whole k.head k.content = one_record limit w (Whole l.head l.content) (Whole k.head k.content) (l.rest, l.spelt, l.framed) (k.rest, k.spelt, k.framed) in
      let heads : l.head ≡ k.head = cc in
      let datas : l.content ≡ k.content = cc in
      let firsts : l.first ≡ k.first = one_value l.content l.first k.first l.says (subst (λ (y : List ℕ). SpellsFirst y k.first) (sym datas) k.says) in
      let rests : k.rest ≡ l.rest = append_cancel_left k.head k.rest l.rest (sym k.spelt ∙ l.spelt ∙ ap (λ (y : List ℕ). y ++ l.rest) heads) in
      let reads = subst (λ (f : FirstRecord). ReadsPlain (SpellsEntry (version_of f)) (EntryBreaks (version_of f)) 1 limit l.rest k.sub) (sym firsts)
      (subst (λ (y : List ℕ). ReadsPlain (SpellsEntry (version_of k.first)) (EntryBreaks (version_of k.first)) 1 limit y k.sub) rests k.reads) in
      let subs : l.sub ≡ k.sub = entry_once l.first limit l.rest l.sub k.sub l.reads reads in
      l.is ∙ ap (λ (y : List ℕ). behind_first y l.first l.sub) heads ∙ ap (λ (f : FirstRecord). behind_first k.head f l.sub) firsts
      ∙ ap (λ (s : PlainReading Entry). behind_first k.head k.first s) subs ∙ sym k.is

  pub one_log : (limit : ℕ) (w : List ℕ) (a b : PlainReading Entry) → ReadsLog limit w a → ReadsLog limit w b → a ≡ b
  one_log limit w a b h g = elim (split limit w a h) [
    | inl s ↦ elim (split limit w b g) [
      | inl t ↦ s.is ∙ ap as_log (first_once limit w s.sub t.sub s.reads t.reads) ∙ sym t.is
      | inr l ↦ absurd (not_both limit w a b s l)
    ]
    | inr l ↦ elim (split limit w b g) [
      | inl s ↦ absurd (not_both limit w b a s l)
      | inr k ↦ both_later limit w a b l k
    ]
  ]

  pub some_log : (limit : ℕ) (w : List ℕ) → (reading : PlainReading Entry) × ReadsLog limit w reading
  some_log limit w = let f = first_some 0 limit w in by (values_in f.0) refl where
    by : (values : List FirstRecord) → values_in (first_some 0 limit w).0 ≡ values → (reading : PlainReading Entry) × ReadsLog limit w reading
    by [] none = (as_log (first_some 0 limit w).0, join_sooner limit w (first_some 0 limit w).0 none (first_some 0 limit w).1)
    by (value ∷ values) is =
        let f = first_of SpellsFirst FirstBreaks limit 0 w (first_some 0 limit w).0 value values is (first_some 0 limit w).1 in
        let on = entry_some value limit f.rest in
        (behind_first f.head value on.0, join_later limit w f.head f.rest f.content value on.0 f.spelt f.framed f.says on.1)
