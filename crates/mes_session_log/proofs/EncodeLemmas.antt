-- Lemmas about the log of entries that are encoded one by one.
use Rattle.std.proofs.Common.{◌≡◌, ℕ, suc, ◌+◌, ◌-◌, ◌^◌, ◌<◌, ◌≤◌, List, [], ◌∷◌, ◌++◌, length, take, drop, get_or, ap, sym, ◌∙◌, subst, append-nil, append_assoc, arith, length-take-le, refl, inr, Result, Ok, Err}
use Rattle.std.specs.Prelude.{OnOk}
use Rattle.std.proofs.Math.Seq.{split_at}
use Rattle.std.proofs.lemmas.Grind.{flat_map-append}
use Rattle.std.proofs.lemmas.List.{take_all, take_more}
use Rattle.std.proofs.lemmas.List.Elements.{All-append, All-nil, All-cons}
use Rattle.mes_frame.proofs.Framings.{written_is_record}
use Rattle.mes_frame.specs.Frames.{record_bytes}
use Rattle.mes_frame.specs.Record.{IsRecord}
use Rattle.mes_model_schema.specs.Kinds.{Kind}
use Rattle.mes_msg.specs.Events.{event}
use Rattle.mes_msg.specs.Event.{Event}
use Rattle.mes_msg.specs.Calls.{call}
use Rattle.mes_msg.specs.Call.{Call}
use Rattle.mes_msg.specs.Texts.{IsTextOf, IsRefusalOf, canonical_of}
use Rattle.mes_msg.specs.EncodeFault.{EncodeFault}
use Rattle.mes_msg.specs.EncodeFault.TheVariants as refused
use Rattle.mes_msg.specs.declared.entry.Entry.{Entry}
use Rattle.mes_msg.specs.declared.entry.Entry.TheVariants.{Heard, Said, Broken}
use Rattle.mes_msg.specs.declared.send_fault.EncodeFaultKind.{EncodeFaultKind}
use Rattle.mes_msg.specs.declared.send_fault.EncodeFaultKind.TheVariants.{TooDeep, TooLarge}
use Rattle.mes_stream.specs.Sending.{fault_at}
use Rattle.mes_stream.specs.Stream.{Records}
use Rattle.mes_session_log.specs.Encoding.{AddsEntry, IsEntryFault, IsMessageUnfit}
use Rattle.mes_session_log_entry.specs.Entries.{SpellsEntry}
use Rattle.mes_session_log.specs.Writing.{entry_data, entry_records, log_bytes, IsFit, EntryFits, EntryUnfit, AllFit, IsFirstUnfit, IsLogOf, IsUnwritten}
use Rattle.mes_session_log_entry.specs.declared.first_reader.FirstRecord.TheVariants as first
use Rattle.mes_session_log_entry.specs.declared.record_letters.TheConstants.{EVENT, CALL, BROKEN, HEADER}

-- ---- the record of one entry, or the reason for which it does not fit

framed : (letter : ℕ) (text : List ℕ) (limit : ℕ) → length text < 2 ^ 64 - 1 → length text < limit → IsRecord (record_bytes (letter ∷ text)) (letter ∷ text) limit
framed letter text limit short within = written_is_record (letter ∷ text) limit (omega (arith, short)) (omega (arith, within))

pub adds_event : (limit : ℕ) (heard : Event) (old new : List ℕ) → new ≡ old ++ record_bytes (EVENT ∷ canonical_of event heard) → IsFit event limit heard
    → IsTextOf event (canonical_of event heard) heard → length (canonical_of event heard) < 2 ^ 64 - 1 → AddsEntry limit (Heard heard) old new
adds_event limit heard old new is fit again short =
    record { written = is; fits = fit; framed = λ some. framed EVENT (canonical_of event heard) limit short fit.1; spells = (canonical_of event heard, refl, again) }

pub adds_call : (limit : ℕ) (said : Call) (old new : List ℕ) → new ≡ old ++ record_bytes (CALL ∷ canonical_of call said) → IsFit call limit said
    → IsTextOf call (canonical_of call said) said → length (canonical_of call said) < 2 ^ 64 - 1 → AddsEntry limit (Said said) old new
adds_call limit said old new is fit again short =
    record { written = is; fits = fit; framed = λ some. framed CALL (canonical_of call said) limit short fit.1; spells = (canonical_of call said, refl, again) }

pub adds_break : (limit : ℕ) (old new : List ℕ) → new ≡ old ++ record_bytes (BROKEN ∷ []) → AddsEntry limit Broken old new
adds_break limit old new is =
    record { written = is; fits = tt; framed = λ some. framed BROKEN [] limit (omega arith) (omega (arith, some)); spells = (refl, refl) }

pub event_added : {A E : Type 0} (r : Result A E) (limit : ℕ) (heard : Event) (old new : List ℕ) → OnOk r (new ≡ old ++ record_bytes (EVENT ∷ canonical_of event heard))
    → OnOk r (IsFit event limit heard) → OnOk r (IsTextOf event (canonical_of event heard) heard) → OnOk r (length (canonical_of event heard) < 2 ^ 64 - 1)
    → OnOk r (AddsEntry limit (Heard heard) old new)
event_added (Ok done) limit heard old new is fit again short = adds_event limit heard old new is fit again short
event_added (Err fault) limit heard old new is fit again short = tt

pub call_added : {A E : Type 0} (r : Result A E) (limit : ℕ) (said : Call) (old new : List ℕ) → OnOk r (new ≡ old ++ record_bytes (CALL ∷ canonical_of call said))
    → OnOk r (IsFit call limit said) → OnOk r (IsTextOf call (canonical_of call said) said) → OnOk r (length (canonical_of call said) < 2 ^ 64 - 1)
    → OnOk r (AddsEntry limit (Said said) old new)
call_added (Ok done) limit said old new is fit again short = adds_call limit said old new is fit again short
call_added (Err fault) limit said old new is fit again short = tt

pub event_unfit : (limit : ℕ) (heard : Event) (fault : EncodeFault) → IsMessageUnfit event limit heard fault → IsEntryFault limit (Heard heard) fault
event_unfit limit heard refused.TooDeep h = h
event_unfit limit heard refused.TooLarge h = h
event_unfit limit heard refused.NoMemory h = tt

pub call_unfit : (limit : ℕ) (said : Call) (fault : EncodeFault) → IsMessageUnfit call limit said fault → IsEntryFault limit (Said said) fault
call_unfit limit said refused.TooDeep h = h
call_unfit limit said refused.TooLarge h = h
call_unfit limit said refused.NoMemory h = tt

-- a text that does not fit a record alone does not fit with its letter
pub unfit_alone : {V : Type 0} (k : Kind V) (limit : ℕ) (v : V) (fault : EncodeFault) → IsRefusalOf k v limit fault → IsMessageUnfit k limit v fault
unfit_alone k limit v refused.TooDeep h = h
unfit_alone k limit v refused.TooLarge h = (h.0, let more = h.1 in omega (arith, more))
unfit_alone k limit v refused.NoMemory h = tt

-- ---- the log after each entry

-- `log` is the log of the entries so far
pub record LogSoFar (limit : ℕ) (entries : List Entry) (log : List ℕ) : Type 0 where
  pub fit : AllFit limit entries
  pub written : log ≡ log_bytes entries
  pub read : 1 ≤ limit → Records (SpellsEntry 2) limit (entry_records entries) entries

records_more : (limit : ℕ) (b f r : List ℕ) (entries : List Entry) (entry : Entry) → Records (SpellsEntry 2) limit b entries → IsRecord f r limit → SpellsEntry 2 r entry
    → Records (SpellsEntry 2) limit (b ++ f) (entries ++ entry ∷ [])
records_more limit b f r [] entry none is says = (f, [], r, is, says, (rw none (sym (append-nil f))), refl)
records_more limit b f r (e ∷ entries) entry (front, rest, r0, is_front, before, spelt, following) is says =
    (front, rest ++ f, r0, is_front, before, (ap (λ (x : List ℕ). x ++ f) spelt ∙ append_assoc front rest f), records_more limit rest f r entries entry following is says)

pub so_far_more : (limit : ℕ) (entries : List Entry) (i : ℕ) (entry : Entry) (old new : List ℕ) → i < length entries → entry ≡ get_or entries i entry
    → LogSoFar limit (take i entries) old → AddsEntry limit entry old new → LogSoFar limit (take (i + 1) entries) new
so_far_more limit entries i entry old new inside here before adds =
    let front = take i entries in
    let text = entry_data entry in
    let last : entry_records (entry ∷ []) ≡ record_bytes text = append-nil (record_bytes text) in
    let all : entry_records (front ++ entry ∷ []) ≡ entry_records front ++ record_bytes text =
    flat_map-append (λ (e : Entry). record_bytes (entry_data e)) front (entry ∷ []) ∙ ap (λ (b : List ℕ). entry_records front ++ b) last in
    let more = take_more entries i entry inside ∙ ap (λ (e : Entry). front ++ e ∷ []) (sym here) in
    subst (λ (es : List Entry). LogSoFar limit es new) (sym more) (record {
      fit = All-append (EntryFits limit) front (entry ∷ []) before.fit (All-cons (EntryFits limit) entry [] adds.fits (All-nil (EntryFits limit)));
      written = adds.written ∙ ap (λ (b : List ℕ). b ++ record_bytes text) before.written ∙ append_assoc (record_bytes (HEADER ∷ [])) (entry_records front) (record_bytes text)
          ∙ ap (λ (b : List ℕ). record_bytes (HEADER ∷ []) ++ b) (sym all);
      read = λ some. subst (λ (b : List ℕ). Records (SpellsEntry 2) limit b (front ++ entry ∷ [])) (sym all)
          (records_more limit (entry_records front) (record_bytes text) text front entry (before.read some) (adds.framed some) adds.spells);
    })

pub so_far_none : (limit : ℕ) (entries : List Entry) (old log : List ℕ) → old ≡ [] → log ≡ old ++ record_bytes (HEADER ∷ []) → LogSoFar limit (take 0 entries) log
so_far_none limit entries old log none is = record {
  fit = All-nil (EntryFits limit);
  written = is ∙ ap (λ (b : List ℕ). b ++ record_bytes (HEADER ∷ [])) none ∙ sym (append-nil (record_bytes (HEADER ∷ [])));
  read = λ some. refl;
}

pub log_of : (limit : ℕ) (entries : List Entry) (i : ℕ) (log : List ℕ) → length entries ≤ i → LogSoFar limit (take i entries) log → IsLogOf limit entries log
log_of limit entries i log all so_far =
    let h = subst (λ (es : List Entry). LogSoFar limit es log) (take_all i entries all) so_far in
    record {
      fit = h.fit;
      written = h.written;
      read = λ some. inr (record {
        head = record_bytes (HEADER ∷ []);
        rest = entry_records entries;
        content = HEADER ∷ [];
        first = first.Header;
        more = entries;
        spelt = h.written;
        framed = framed HEADER [] limit (omega arith) (omega (arith, some));
        says = refl;
        all = refl;
        is = h.read some;
      });
    }

first_unfit : (limit : ℕ) (entries : List Entry) (i : ℕ) (entry : Entry) (why : EncodeFaultKind) → i < length entries → entry ≡ get_or entries i entry
    → AllFit limit (take i entries) → EntryUnfit limit entry why → IsFirstUnfit limit entries i why
first_unfit limit entries i entry why inside here fit unfit = record {
  front = take i entries;
  entry = entry;
  rest = drop (suc i) entries;
  is = split_at entries i entry inside ∙ ap (λ (e : Entry). take i entries ++ e ∷ drop (suc i) entries) (sym here);
  place = sym (length-take-le i entries (omega arith));
  fit = fit;
  unfit = unfit;
}

pub unwritten_at : (limit : ℕ) (entries : List Entry) (i : ℕ) (entry : Entry) (fault : EncodeFault) → i < length entries → entry ≡ get_or entries i entry
    → AllFit limit (take i entries) → IsEntryFault limit entry fault → IsUnwritten limit entries (fault_at i fault)
unwritten_at limit entries i entry refused.TooDeep inside here fit is = first_unfit limit entries i entry TooDeep inside here fit is
unwritten_at limit entries i entry refused.TooLarge inside here fit is = first_unfit limit entries i entry TooLarge inside here fit is
unwritten_at limit entries i entry refused.NoMemory inside here fit is = tt
