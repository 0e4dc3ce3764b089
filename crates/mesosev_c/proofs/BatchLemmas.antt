-- Lemmas about the loop of `many`, which reports the events of a piece one by one.
use Rattle.std.proofs.Common.{◌≡◌, ℕ, ◌+◌, ◌-◌, ◌<◌, ◌≤◌, List, [], ◌∷◌, ◌++◌, length, take, drop, map, refl, sym, ◌∙◌, ap, subst, arith, append_assoc, append-nil, zero-add, length-append, length-take-le, Bool, true, false, inl, inr}
use Rattle.std.proofs.Math.ListN.{set}
use Rattle.std.proofs.Math.Seq.{take-append_seam, drop-append-add}
use Rattle.std.proofs.lemmas.List.{drop-drop, length-map}
use Rattle.mes_frame.specs.declared.limits.TheConstants.{MAX_RECORD_LIMIT}
use Rattle.mes_msg.specs.Canon.{canonical_text, IsGood, IsEncodeFault}
use Rattle.mes_msg.specs.EncodeFault.{EncodeFault}
use Rattle.mes_msg.specs.EncodeFault.TheVariants.{NoMemory}
use Rattle.mes_msg.specs.Event.{Event}
use Rattle.mes_stream.specs.declared.fault.Fault.{Fault}
use Rattle.mes_stream.specs.declared.step.Decoded.{Decoded}
use Rattle.mes_stream.specs.declared.step.Decoded.TheVariants as out
use Rattle.mesosev_c.specs.Adding.{KeepsTexts, LosesTexts, AddsText, AddsEvent, HasStatus}
use Rattle.mesosev_c.specs.Batches.{IsEvent, ReportsEach, ReportsBatch}
use Rattle.mesosev_c.specs.Decoders.{Takes}
use Rattle.mesosev_c.specs.Numbers.{MORE, EVENT, END, NO_TEXT, number_of_event, number_of_fault}
use Rattle.mesosev_c.specs.Rows.{Reporting, texts_of, rows_of, without_text}
use Rattle.mesosev_c.specs.Reporting.{ReportsStep, ReportsOutput, ReportsEvent}
use Rattle.mesosev_c.specs.declared.event_decoder.EventDecoder.{EventDecoder}
use Rattle.mesosev_c.specs.declared.rows.Row.{Row}
use Rattle.mesosev_c.specs.declared.text_decoder.TextDecoder.{TextDecoder}
use Rattle.mesosev_c.specs.declared.text_decoder.Reported.{Reported}
use Rattle.mesosev_c.proofs.NumberLemmas.{number_most}
use Rattle.mesosev_c.proofs.RowLemmas.{row_at, set_seam, texts_more, rows_more, length-rows}

-- ---- `ReportsEach` after one more call of `next`

pub each_more : (texts : Bool) (events : List Reporting) (old mid new : EventDecoder) (piece : List ℕ) (used more : ℕ) (one : Reporting)
    → ReportsEach texts old mid piece used events → IsEvent one.reported.status → ReportsStep texts mid new (drop used piece) more one.reported one.text → ReportsEach texts old new piece (used + more) (events ++ one ∷ [])
each_more texts [] old mid new piece used more one h is step =
    (new, more, 0, omega (arith, h.1), is, subst (λ (d : EventDecoder). ReportsStep texts d new piece more one.reported one.text) h.0 (subst (λ (n : ℕ). ReportsStep texts mid new (drop n piece) more one.reported one.text) h.1 step), (refl, refl))
each_more texts (e ∷ es) old mid new piece used more one (between, first, rest, by, its, does, others) is step = (
  between,
  first,
  rest + more,
  omega (arith, by),
  its,
  does,
  each_more texts es between mid new (drop first piece) rest more one others is
      (subst (λ (ys : List ℕ). ReportsStep texts mid new ys more one.reported one.text) (ap (λ n. drop n piece) by ∙ sym (drop-drop rest first piece)) step),
)

-- ---- the reports of the events after their texts were lost

abbrev pub without : Reporting → Reporting
without one = record { reported = record { status = NO_TEXT; kind = one.reported.kind }; text = [] }

not_more : (status : ℕ) → IsEvent status → status ≡ MORE → ⊥
not_more status (inl e) is = absurd (omega arith)
not_more status (inr e) is = absurd (omega arith)

not_end : (status : ℕ) → IsEvent status → status ≡ END → ⊥
not_end status (inl e) is = absurd (omega arith)
not_end status (inr e) is = absurd (omega arith)

not_fault : (status : ℕ) → IsEvent status → status ≤ 16 → ⊥
not_fault status (inl e) is = absurd (omega arith)
not_fault status (inr e) is = absurd (omega arith)

out_without : (used : ℕ) (answer : Decoded Event Fault) (one : Reporting) → IsEvent one.reported.status → ReportsOutput true used answer one.text one.reported → ReportsOutput true used answer [] (without one).reported
out_without used out.More one is h = absurd (not_more one.reported.status is h.0)
out_without used (out.Event event) one is h = (h.0, inr (refl, refl, (NoMemory, tt)))
out_without used out.End one is h = absurd (not_end one.reported.status is h.0)
out_without used (out.Fault fault) one is h = absurd (not_fault one.reported.status is (let most = number_most fault in let e : one.reported.status ≡ number_of_fault fault = h.0 in omega arith))

step_without : (old new : EventDecoder) (piece : List ℕ) (used : ℕ) (one : Reporting) → IsEvent one.reported.status → ReportsStep true old new piece used one.reported one.text → ReportsStep true old new piece used (without one).reported []
step_without old new piece used one is step = record { out = step.out; takes = step.takes; reports = out_without new.used step.out one is step.reports }

each_without : (events : List Reporting) (old new : EventDecoder) (piece : List ℕ) (used : ℕ) → ReportsEach true old new piece used events → ReportsEach true old new piece used (map without events)
each_without [] old new piece used h = h
each_without (e ∷ es) old new piece used (between, first, rest, by, its, does, others) =
    (between, first, rest, by, inr refl, step_without old between piece first e its does, each_without es between new (drop first piece) rest others)

texts_without : (events : List Reporting) → texts_of (map without events) ≡ []
texts_without [] = refl
texts_without (e ∷ es) = texts_without es

rows_without : (start : ℕ) (events : List Reporting) → rows_of 0 (map without events) ≡ map without_text (rows_of start events)
rows_without start [] = refl
rows_without start (e ∷ es) = let row : Row = without_text (row_at start e) in ap (λ rs. row ∷ rs) (rows_without (start + length e.text) es)

row_same : {kind kind' start start' size size' : ℕ} → kind ≡ kind' → start ≡ start' → size ≡ size' → let one : Row = record { kind = kind; start = start; size = size } in let other : Row = record { kind = kind'; start = start'; size = size' } in one ≡ other
row_same e f g = cc

-- ---- `BatchSoFar`: the loop's invariant

-- the first `used` bytes of the piece gave `count` events, described in the first rows
pub record BatchSoFar (texts : Bool) (old now : EventDecoder) (text piece : List ℕ) (before after : List Row) (used count : ℕ) : Type 0 where
  pub events : List Reporting
  pub each : ReportsEach texts old now piece used events
  pub counted : count ≡ length events
  pub rows : after ≡ rows_of 0 events ++ drop count before
  pub whole : text ≡ texts_of events

pub so_far_none : (texts : Bool) (old : EventDecoder) (piece : List ℕ) (rows : List Row) → BatchSoFar texts old old [] piece rows rows 0 0
so_far_none texts old piece rows = record { events = []; each = (refl, refl); counted = refl; rows = refl; whole = refl }

kind_of_event : (texts : Bool) (event : Event) (one : Reporting) → ReportsEvent texts event one.text one.reported → one.reported.kind ≡ number_of_event event
kind_of_event false event one h = h.1
kind_of_event true event one h = h.0

event_step : (texts : Bool) (mid new : EventDecoder) (piece : List ℕ) (more : ℕ) (event : Event) (one : Reporting) → Takes mid new piece more (out.Event event) → ReportsEvent texts event one.text one.reported → ReportsStep texts mid new piece more one.reported one.text
event_step texts mid new piece more event one takes reports = record { out = out.Event event; takes = takes; reports = reports }

module _ (texts : Bool) (old mid new : EventDecoder) (text grown piece : List ℕ) (before rows after : List Row) (used count more : ℕ) (event : Event)
    (h : BatchSoFar texts old mid text piece before rows used count) (inside : count < length before) (takes : Takes mid new (drop used piece) more (out.Event event)) where
  front : take count rows ≡ rows_of 0 h.events
  front =
      let at : count ≡ length (rows_of 0 h.events) = h.counted ∙ sym (length-rows 0 h.events) in
      ap (λ rs. take count rs) h.rows ∙ ap (λ n. take n (rows_of 0 h.events ++ drop count before)) at ∙ take-append_seam (rows_of 0 h.events) (drop count before)

  back : drop (count + 1) rows ≡ drop (count + 1) before
  back =
      let at : length (rows_of 0 h.events) + 1 ≡ count + 1 = let e = h.counted in omega (arith, length-rows 0 h.events) in
      ap (λ rs. drop (count + 1) rs) h.rows ∙ ap (λ n. drop n (rows_of 0 h.events ++ drop count before)) (sym at)
      ∙ drop-append-add (rows_of 0 h.events) (drop count before) 1 ∙ drop-drop 1 count before

  -- the caller's rows after one more event: a row for each event, then the unused rows
  laid : (events : List Reporting) (one : Reporting) (others : List Row) (row : Row) → others ≡ rows_of 0 events → row ≡ row_at (0 + length (texts_of events)) one
      → after ≡ others ++ row ∷ drop (count + 1) rows → after ≡ rows_of 0 (events ++ one ∷ []) ++ drop (count + 1) before
  laid events one others row same this is =
      is ∙ ap (λ rest. others ++ row ∷ rest) back ∙ sym (append_assoc others (row ∷ []) (drop (count + 1) before))
      ∙ ap (λ rs. rs ++ drop (count + 1) before) (ap (λ rs. rs ++ row ∷ []) same ∙ ap (λ r. rows_of 0 events ++ r ∷ []) this ∙ sym (rows_more 0 events one))

  so_far_keeps : (at : ℕ) (others : List Row) → KeepsTexts texts event text grown (take count rows) others at → after ≡ others ++ record { kind = number_of_event event; start = at; size = length grown - at } ∷ drop (count + 1) rows
      → BatchSoFar texts old new grown piece before after (used + more) (count + 1)
  so_far_keeps at others k is = record {
    events = h.events ++ k.one ∷ [];
    each = each_more texts h.events old mid new piece used more k.one h.each k.is_event (event_step texts mid new (drop used piece) more event k.one takes k.reports);
    counted = let e = h.counted in omega (arith, length-append h.events (k.one ∷ []));
    rows =
        let at_is : at ≡ 0 + length (texts_of h.events) = k.start ∙ ap length h.whole ∙ sym (zero-add (length (texts_of h.events))) in
        let size_is : length grown - at ≡ length k.one.text = let e = k.start in omega (arith, ap length k.text, length-append text k.one.text) in
        let kind_is : k.one.reported.kind ≡ number_of_event event = kind_of_event texts event k.one k.reports in
        laid h.events k.one others _ (k.rows ∙ front) (row_same (sym kind_is) at_is size_is) is;
    whole = k.text ∙ ap (λ t. t ++ k.one.text) h.whole ∙ sym (texts_more h.events k.one);
  }

  so_far_loses : (at : ℕ) (others : List Row) → LosesTexts texts grown (take count rows) others at → after ≡ others ++ record { kind = number_of_event event; start = at; size = length grown - at } ∷ drop (count + 1) rows
      → BatchSoFar texts old new grown piece before after (used + more) (count + 1)
  so_far_loses at others l is =
      let one : Reporting = record { reported = record { status = NO_TEXT; kind = number_of_event event }; text = [] } in
      let events : List Reporting = map without h.events in
      let each : ReportsEach texts old mid piece used events = subst (λ (b : Bool). ReportsEach b old mid piece used events) (sym l.made) (each_without h.events old mid piece used (subst (λ (b : Bool). ReportsEach b old mid piece used h.events) l.made h.each)) in
      let reports : ReportsEvent texts event [] one.reported = subst (λ (b : Bool). ReportsEvent b event [] one.reported) (sym l.made) (refl, inr (refl, refl, (NoMemory, tt))) in
      let none : texts_of events ≡ [] = texts_without h.events in
      record {
        events = events ++ one ∷ [];
        each = each_more texts events old mid new piece used more one each (inr refl) (event_step texts mid new (drop used piece) more event one takes reports);
        counted = let e = h.counted in omega (arith, length-append events (one ∷ []), length-map h.events without);
        rows =
            let at_is : at ≡ 0 + length (texts_of events) = l.start ∙ sym (ap (λ t. 0 + length t) none) in
            let size_is : length grown - at ≡ 0 = rw (l.text, l.start) refl in
            laid events one others _ (l.rows ∙ ap (map without_text) front ∙ sym (rows_without 0 h.events)) (row_same refl at_is size_is) is;
        whole = l.text ∙ sym (texts_more events one ∙ append-nil (texts_of events) ∙ none);
      }

  so_far_adds : AddsEvent texts event text grown count rows after → BatchSoFar texts old new grown piece before after (used + more) (count + 1)
  so_far_adds a = elim a.adds [ inl k ↦ so_far_keeps a.at a.others k a.rows | inr l ↦ so_far_loses a.at a.others l a.rows ]

  pub so_far_more : (now : Bool) (kept : EventDecoder) → now ≡ texts → kept ≡ new → AddsEvent now event text grown count rows after → BatchSoFar texts old kept grown piece before after (used + more) (count + 1)
  so_far_more now kept same keeps a =
      subst (λ (d : EventDecoder). BatchSoFar texts old d grown piece before after (used + more) (count + 1)) (sym keeps) (so_far_adds (subst (λ (b : Bool). AddsEvent b event text grown count rows after) same a))

-- ---- the text of one more event

pub adds_none : (texts : Bool) (event : Event) (text : List ℕ) (rows : List Row) (at : ℕ) → texts ≡ false → at ≡ length text → AddsText texts event text text rows rows at
adds_none texts event text rows at is start =
    let one : Reporting = record { reported = record { status = EVENT; kind = number_of_event event }; text = [] } in
    inl (record { one = one; is_event = inl refl; reports = subst (λ (b : Bool). ReportsEvent b event [] one.reported) (sym is) (refl, refl, refl); text = sym (append-nil text); rows = refl; start = start })

pub adds_whole : (texts : Bool) (event : Event) (text grown : List ℕ) (rows : List Row) (at : ℕ) → texts ≡ true → at ≡ length text → grown ≡ text ++ canonical_text event → IsGood event MAX_RECORD_LIMIT → AddsText texts event text grown rows rows at
adds_whole texts event text grown rows at is start whole good =
    let one : Reporting = record { reported = record { status = EVENT; kind = number_of_event event }; text = canonical_text event } in
    inl (record { one = one; is_event = inl refl; reports = subst (λ (b : Bool). ReportsEvent b event (canonical_text event) one.reported) (sym is) (refl, inl (refl, refl, good)); text = whole; rows = refl; start = start })

pub adds_unfit : (texts : Bool) (event : Event) (text same : List ℕ) (rows : List Row) (at : ℕ) → texts ≡ true → at ≡ length text → same ≡ text → (why : EncodeFault) → IsEncodeFault event MAX_RECORD_LIMIT why → AddsText texts event text same rows rows at
adds_unfit texts event text same rows at is start stays why unfit =
    let one : Reporting = record { reported = record { status = NO_TEXT; kind = number_of_event event }; text = [] } in
    inl (record { one = one; is_event = inr refl; reports = subst (λ (b : Bool). ReportsEvent b event [] one.reported) (sym is) (refl, inr (refl, refl, (why, unfit))); text = stays ∙ sym (append-nil text); rows = refl; start = start })

length-keeps : (texts : Bool) (event : Event) (old new : List ℕ) (before others : List Row) (at : ℕ) → AddsText texts event old new before others at → length others ≡ length before
length-keeps texts event old new before others at a = elim a [ inl k ↦ ap length k.rows | inr l ↦ ap length l.rows ∙ length-map before without_text ]

pub adds_event : (texts : Bool) (event : Event) (old new : List ℕ) (count : ℕ) (before others : List Row) (at : ℕ) (kind size : ℕ) → count < length before → kind ≡ number_of_event event → size ≡ length new - at
    → AddsText texts event old new (take count before) others at → AddsEvent texts event old new count before (set (others ++ drop count before) count (record { kind = kind; start = at; size = size }))
adds_event texts event old new count before others at kind size inside kind_is size_is a =
    let many : length others ≡ count = length-keeps texts event old new (take count before) others at a ∙ length-take-le count before (omega arith) in
    record { at = at; others = others; adds = a; rows = set_seam others before count _ many inside ∙ ap (λ row. others ++ row ∷ drop (count + 1) before) (row_same kind_is refl size_is) }

-- ---- results without an event, and the end of the loop

no_event : (answer : Decoded Event Fault) (status : ℕ) → ((event : Event) → answer ≡ out.Event event → ⊥) → HasStatus answer status → IsEvent status → ⊥
no_event out.More status none is event = not_more status event is
no_event (out.Event e) status none is event = none e refl
no_event out.End status none is event = not_end status event is
no_event (out.Fault fault) status none is event = not_fault status event is.1

tells_out : (texts : Bool) (used : ℕ) (answer : Decoded Event Fault) (status : ℕ) → ((event : Event) → answer ≡ out.Event event → ⊥) → HasStatus answer status → let reported : Reported = record { status = status; kind = 0 } in ReportsOutput texts used answer [] reported
tells_out texts used out.More status none is = (is, refl, refl)
tells_out texts used (out.Event e) status none is = absurd (none e refl)
tells_out texts used out.End status none is = (is, refl, refl)
tells_out texts used (out.Fault fault) status none is = (is.0, refl, inr refl)

pub stops_there : (old new : TextDecoder) (mid : EventDecoder) (piece : List ℕ) (before after : List Row) (used count more status : ℕ) (answer : Decoded Event Fault) → BatchSoFar old.texts old.decoder mid new.text.items piece before after used count → count < length before
    → Takes mid new.decoder (drop used piece) more answer → ((event : Event) → answer ≡ out.Event event → ⊥) → HasStatus answer status → new.texts ≡ old.texts
    → ReportsBatch old new piece before after (record { status = status; count = count; used = used + more })
stops_there old new mid piece before after used count more status answer h inside takes none is texts = record {
  events = h.events;
  many = record {
    between = mid;
    taken = used;
    rest = more;
    each = h.each;
    stops = inr (
      subst (λ (n : ℕ). n < length before) h.counted inside,
      record {
        reported = record { status = status; kind = 0 };
        text = [];
        step = record { out = answer; takes = takes; reports = tells_out old.texts new.decoder.used answer status none is };
        no_event = no_event answer status none is;
        is_status = refl;
      },
    );
    is_used = refl;
  };
  count = h.counted;
  rows = h.rows ∙ ap (λ n. rows_of 0 h.events ++ drop n before) h.counted;
  text = h.whole;
  texts = texts;
}
