-- Any data of a record either are one entry of a version or have one fault; the same holds for a
-- first record.
use Rattle.std.proofs.Common.{◌≡◌, ◌≢◌, ℕ, ◌⊎◌, inl, inr, List, [], ◌∷◌, refl, ap, sym, ◌∙◌, subst, arith}
use Rattle.std.proofs.lemmas.Bool.{cases_eq}
use Rattle.mes_model_schema.specs.Kinds.{Kind}
use Rattle.mes_msg.specs.Events.{event}
use Rattle.mes_msg.specs.Calls.{call}
use Rattle.mes_msg.specs.Texts.{IsTextOf, IsFaultOf}
use Rattle.mes_msg.specs.RecordFault.{RecordFault}
use Rattle.mes_msg.specs.RecordFault.TheVariants as message
use Rattle.mes_msg.specs.declared.entry.Entry.{Entry}
use Rattle.mes_msg.specs.declared.entry.Entry.TheVariants.{Heard, Said, Broken}
use Rattle.mes_stream.specs.PlainReading.{IsExact, IsDecided}
use Rattle.mes_stream.specs.Refusals.{refusal_of}
use Rattle.mes_stream.specs.declared.record_error.RecordError.{RecordError}
use Rattle.mes_stream.specs.declared.record_error.RecordError.TheVariants as refusal
use Rattle.mes_session_log_entry.specs.Entries.{IsBreak, SpellsEntry, IsBadEntry, IsMessageFault, EntryBreaks, SpellsFirst, FirstBreaks}
use Rattle.mes_session_log_entry.specs.declared.first_reader.FirstRecord.{FirstRecord}
use Rattle.mes_session_log_entry.specs.declared.first_reader.FirstRecord.TheVariants as first
use Rattle.mes_session_log_entry.specs.declared.record_letters.TheConstants.{EVENT, CALL, BROKEN, HEADER}

-- any bytes either are a text of exactly one value or have exactly one fault
pub record OneMessage {V : Type 0} (k : Kind V) : Type 0 where
  pub some : (b : List ℕ) → ((v : V) × IsTextOf k b v) ⊎ ((why : RecordFault) × (why ≢ message.NoMemory) × IsFaultOf k b why)
  pub value : (b : List ℕ) (v w : V) → IsTextOf k b v → IsTextOf k b w → v ≡ w
  pub why : (b : List ℕ) (f g : RecordFault) → f ≢ message.NoMemory → g ≢ message.NoMemory → IsFaultOf k b f → IsFaultOf k b g → f ≡ g
  pub apart : (b : List ℕ) (v : V) (f : RecordFault) → f ≢ message.NoMemory → IsTextOf k b v → IsFaultOf k b f → ⊥

-- ---- the letter of the data determines what they can be

behind_one : (a b : ℕ) (t u r : List ℕ) → r ≡ a ∷ t → r ≡ b ∷ u → (a ≡ b) × (t ≡ u)
behind_one a b t u r one two =
    let same : a ∷ t ≡ b ∷ u = sym one ∙ two in
    let heads : a ≡ b = cc in
    let tails : t ≡ u = cc in
    (heads, tails)

event_no_call : (t u r : List ℕ) → r ≡ EVENT ∷ t → r ≡ CALL ∷ u → ⊥
event_no_call t u r one two = let same : EVENT ≡ CALL = (behind_one EVENT CALL t u r one two).0 in absurd (omega (arith, same))

break_no_letter : (letter version : ℕ) (t r : List ℕ) → letter ≢ BROKEN → r ≡ letter ∷ t → IsBreak version r → ⊥
break_no_letter letter version t r other one is = other (behind_one letter BROKEN t [] r one is.1).0

event_no_break : (version : ℕ) (t r : List ℕ) → r ≡ EVENT ∷ t → IsBreak version r → ⊥
event_no_break version t r = break_no_letter EVENT version t r (λ same. absurd (omega (arith, same)))

call_no_break : (version : ℕ) (t r : List ℕ) → r ≡ CALL ∷ t → IsBreak version r → ⊥
call_no_break version t r = break_no_letter CALL version t r (λ same. absurd (omega (arith, same)))

bad_no_event : (version : ℕ) (t r : List ℕ) → r ≡ EVENT ∷ t → IsBadEntry version r → ⊥
bad_no_event version t [] is bad = absurd (cc)
bad_no_event version t (letter ∷ text) is bad = bad.0.0 (behind_one letter EVENT text t (letter ∷ text) refl is).0

bad_no_call : (version : ℕ) (t r : List ℕ) → r ≡ CALL ∷ t → IsBadEntry version r → ⊥
bad_no_call version t [] is bad = absurd (cc)
bad_no_call version t (letter ∷ text) is bad = bad.0.1 (behind_one letter CALL text t (letter ∷ text) refl is).0

bad_no_break : (version : ℕ) (r : List ℕ) → IsBreak version r → IsBadEntry version r → ⊥
bad_no_break version [] is bad = let none : [] ≡ BROKEN ∷ [] = is.1 in absurd (cc)
bad_no_break version (letter ∷ text) is bad = bad.1 is

-- data that are not empty either are a disconnect or are not
break_or_not : (version letter : ℕ) (text : List ℕ) → IsBreak version (letter ∷ text) ⊎ (IsBreak version (letter ∷ text) → ⊥)
break_or_not version letter (next ∷ text) = inr (λ is. let same = (behind_one letter BROKEN (next ∷ text) [] (letter ∷ next ∷ text) refl is.1).1 in absurd (cc))
break_or_not version letter [] = elim (cases_eq version 2) [
  | inr other ↦ inr (λ is. other is.0)
  | inl two ↦ elim (cases_eq letter BROKEN) [
    | inr other ↦ inr (λ is. other (behind_one letter BROKEN [] [] (letter ∷ []) refl is.1).0)
    | inl is ↦ inl (two, ap (λ (x : ℕ). x ∷ []) is)
  ]
]

-- ---- faults of the text of a message, and of the letter

pub message_breaks : (version : ℕ) (r : List ℕ) (f : RecordFault) → f ≢ message.NoMemory → IsMessageFault r f → EntryBreaks version r (refusal_of f)
message_breaks version r (message.Text f) known h = h
message_breaks version r (message.Field f) known h = h
message_breaks version r message.NoMemory known h = absurd (known refl)

-- what fault `why` says about the data: a fault of the message's text, or a bad letter
data TextFaultKind (version : ℕ) (r : List ℕ) (why : RecordError) : Type 0 where
  OfMessage : (f : RecordFault) → f ≢ message.NoMemory → IsMessageFault r f → why ≡ refusal_of f → TextFaultKind version r why
  OfLetter : why ≡ refusal.BadEntry → IsBadEntry version r → TextFaultKind version r why

why_of : (version : ℕ) (r : List ℕ) (why : RecordError) → why ≢ refusal.NoMemory → EntryBreaks version r why → TextFaultKind version r why
why_of version r (refusal.Text f) known h = OfMessage (message.Text f) (λ none. absurd (cc)) h refl
why_of version r (refusal.Field f) known h = OfMessage (message.Field f) (λ none. absurd (cc)) h refl
why_of version r refusal.BadEntry known h = OfLetter refl h
why_of version r refusal.NoMemory known h = absurd (known refl)

no_memory_in : (f : RecordFault) → f ≢ message.NoMemory → refusal_of f ≢ refusal.NoMemory
no_memory_in (message.Text f) known none = absurd (cc)
no_memory_in (message.Field f) known none = absurd (cc)
no_memory_in message.NoMemory known none = absurd (known refl)

module _ (events : OneMessage event) (calls : OneMessage call) where
  -- ---- data as an entry: exactly one value or exactly one fault

  pub entry_decided : (version : ℕ) → IsDecided (SpellsEntry version) (EntryBreaks version)
  entry_decided version [] = inr (refusal.BadEntry, λ none. absurd (cc), tt)
  entry_decided version (letter ∷ text) = elim (cases_eq letter EVENT) [
    | inl is ↦ elim (events.some text) [
      | inl h ↦ inl (Heard h.0, (text, ap (λ (x : ℕ). x ∷ text) is, h.1))
      | inr h ↦ inr (refusal_of h.0, no_memory_in h.0 h.1, message_breaks version (letter ∷ text) h.0 h.1 (inl (text, ap (λ (x : ℕ). x ∷ text) is, h.2)))
    ]
    | inr no_event ↦ elim (cases_eq letter CALL) [
      | inl is ↦ elim (calls.some text) [
        | inl h ↦ inl (Said h.0, (text, ap (λ (x : ℕ). x ∷ text) is, h.1))
        | inr h ↦ inr (refusal_of h.0, no_memory_in h.0 h.1, message_breaks version (letter ∷ text) h.0 h.1 (inr (text, ap (λ (x : ℕ). x ∷ text) is, h.2)))
      ]
      | inr no_call ↦ elim (break_or_not version letter text) [
        | inl is ↦ inl (Broken, is)
        | inr none ↦ inr (refusal.BadEntry, λ no. absurd (cc), ((no_event, no_call), none))
      ]
    ]
  ]

  entry_reading_is_unique : (version : ℕ) (r : List ℕ) (a b : Entry) → SpellsEntry version r a → SpellsEntry version r b → a ≡ b
  entry_reading_is_unique version r (Heard a) (Heard b) (t, is, h) (u, at, k) =
      let same = (behind_one EVENT EVENT t u r is at).1 in ap Heard (events.value t a b h (subst (λ (x : List ℕ). IsTextOf event x b) (sym same) k))
  entry_reading_is_unique version r (Heard a) (Said b) (t, is, h) (u, at, k) = absurd (event_no_call t u r is at)
  entry_reading_is_unique version r (Heard a) Broken (t, is, h) k = absurd (event_no_break version t r is k)
  entry_reading_is_unique version r (Said a) (Heard b) (t, is, h) (u, at, k) = absurd (event_no_call u t r at is)
  entry_reading_is_unique version r (Said a) (Said b) (t, is, h) (u, at, k) =
      let same = (behind_one CALL CALL t u r is at).1 in ap Said (calls.value t a b h (subst (λ (x : List ℕ). IsTextOf call x b) (sym same) k))
  entry_reading_is_unique version r (Said a) Broken (t, is, h) k = absurd (call_no_break version t r is k)
  entry_reading_is_unique version r Broken (Heard b) h (u, at, k) = absurd (event_no_break version u r at h)
  entry_reading_is_unique version r Broken (Said b) h (u, at, k) = absurd (call_no_break version u r at h)
  entry_reading_is_unique version r Broken Broken h k = refl

  one_fault : (r : List ℕ) (f g : RecordFault) → f ≢ message.NoMemory → g ≢ message.NoMemory → IsMessageFault r f → IsMessageFault r g → f ≡ g
  one_fault r f g known too (inl (t, is, h)) (inl (u, at, k)) =
      let same = (behind_one EVENT EVENT t u r is at).1 in events.why t f g known too h (subst (λ (x : List ℕ). IsFaultOf event x g) (sym same) k)
  one_fault r f g known too (inl (t, is, h)) (inr (u, at, k)) = absurd (event_no_call t u r is at)
  one_fault r f g known too (inr (t, is, h)) (inl (u, at, k)) = absurd (event_no_call u t r at is)
  one_fault r f g known too (inr (t, is, h)) (inr (u, at, k)) =
      let same = (behind_one CALL CALL t u r is at).1 in calls.why t f g known too h (subst (λ (x : List ℕ). IsFaultOf call x g) (sym same) k)

  bad_no_fault : (version : ℕ) (r : List ℕ) (f : RecordFault) → IsMessageFault r f → IsBadEntry version r → ⊥
  bad_no_fault version r f (inl (t, is, h)) bad = bad_no_event version t r is bad
  bad_no_fault version r f (inr (t, is, h)) bad = bad_no_call version t r is bad

  one_why : (version : ℕ) (r : List ℕ) (f g : RecordError) → TextFaultKind version r f → TextFaultKind version r g → f ≡ g
  one_why version r f g (OfMessage a known h is) (OfMessage b too k at) = is ∙ ap refusal_of (one_fault r a b known too h k) ∙ sym at
  one_why version r f g (OfMessage a known h is) (OfLetter at bad) = absurd (bad_no_fault version r a h bad)
  one_why version r f g (OfLetter is bad) (OfMessage b too k at) = absurd (bad_no_fault version r b k bad)
  one_why version r f g (OfLetter is bad) (OfLetter at too) = is ∙ sym at

  entry_or_bad : (version : ℕ) (r : List ℕ) (a : Entry) → SpellsEntry version r a → IsBadEntry version r → ⊥
  entry_or_bad version r (Heard a) (t, is, h) bad = bad_no_event version t r is bad
  entry_or_bad version r (Said a) (t, is, h) bad = bad_no_call version t r is bad
  entry_or_bad version r Broken h bad = bad_no_break version r h bad

  entry_or_fault : (version : ℕ) (r : List ℕ) (a : Entry) (f : RecordFault) → f ≢ message.NoMemory → SpellsEntry version r a → IsMessageFault r f → ⊥
  entry_or_fault version r (Heard a) f known (t, is, h) (inl (u, at, k)) =
      let same = (behind_one EVENT EVENT t u r is at).1 in events.apart t a f known h (subst (λ (x : List ℕ). IsFaultOf event x f) (sym same) k)
  entry_or_fault version r (Heard a) f known (t, is, h) (inr (u, at, k)) = event_no_call t u r is at
  entry_or_fault version r (Said a) f known (t, is, h) (inl (u, at, k)) = event_no_call u t r at is
  entry_or_fault version r (Said a) f known (t, is, h) (inr (u, at, k)) =
      let same = (behind_one CALL CALL t u r is at).1 in calls.apart t a f known h (subst (λ (x : List ℕ). IsFaultOf call x f) (sym same) k)
  entry_or_fault version r Broken f known h (inl (u, at, k)) = event_no_break version u r at h
  entry_or_fault version r Broken f known h (inr (u, at, k)) = call_no_break version u r at h

  entry_or_why : (version : ℕ) (r : List ℕ) (a : Entry) (f : RecordError) → SpellsEntry version r a → TextFaultKind version r f → ⊥
  entry_or_why version r a f says (OfMessage b known h is) = entry_or_fault version r a b known says h
  entry_or_why version r a f says (OfLetter is bad) = entry_or_bad version r a says bad

  pub entry_exact : (version : ℕ) → IsExact (SpellsEntry version) (EntryBreaks version)
  entry_exact version = record {
    value = entry_reading_is_unique version;
    why = λ r f g known too h k. one_why version r f g (why_of version r f known h) (why_of version r g too k);
    apart = λ r a f known says h. entry_or_why version r a f says (why_of version r f known h);
  }

  -- ---- data as a first record: exactly one value or exactly one fault

  header_no_entry : (r : List ℕ) (a : Entry) → r ≡ HEADER ∷ [] → SpellsEntry 1 r a → ⊥
  header_no_entry r (Heard a) header (t, is, h) = let same = (behind_one HEADER EVENT [] t r header is).0 in absurd (omega (arith, same))
  header_no_entry r (Said a) header (t, is, h) = let same = (behind_one HEADER CALL [] t r header is).0 in absurd (omega (arith, same))
  header_no_entry r Broken header is = let one : 1 ≡ 2 = is.0 in absurd (omega (arith, one))

  header_no_fault : (r : List ℕ) (f : RecordFault) → r ≡ HEADER ∷ [] → IsMessageFault r f → ⊥
  header_no_fault r f header (inl (t, is, h)) = let same = (behind_one HEADER EVENT [] t r header is).0 in absurd (omega (arith, same))
  header_no_fault r f header (inr (t, is, h)) = let same = (behind_one HEADER CALL [] t r header is).0 in absurd (omega (arith, same))

  -- a fault of a first record is one of an entry of version 1, and the data are not the header
  first_why : (r : List ℕ) (f : RecordError) → f ≢ refusal.NoMemory → FirstBreaks r f → TextFaultKind 1 r f × (r ≢ HEADER ∷ [])
  first_why r (refusal.Text f) known h = (why_of 1 r (refusal.Text f) known h, λ header. header_no_fault r (message.Text f) header h)
  first_why r (refusal.Field f) known h = (why_of 1 r (refusal.Field f) known h, λ header. header_no_fault r (message.Field f) header h)
  first_why r refusal.BadEntry known h = (why_of 1 r refusal.BadEntry known h.0, h.1)
  first_why r refusal.NoMemory known h = absurd (known refl)

  one_first : (r : List ℕ) (a b : FirstRecord) → SpellsFirst r a → SpellsFirst r b → a ≡ b
  one_first r first.Header first.Header h k = refl
  one_first r first.Header (first.Entry b) h k = absurd (header_no_entry r b h k)
  one_first r (first.Entry a) first.Header h k = absurd (header_no_entry r a k h)
  one_first r (first.Entry a) (first.Entry b) h k = ap first.Entry (entry_reading_is_unique 1 r a b h k)

  first_or_why : (r : List ℕ) (a : FirstRecord) (f : RecordError) → SpellsFirst r a → TextFaultKind 1 r f × (r ≢ HEADER ∷ []) → ⊥
  first_or_why r first.Header f h why = why.1 h
  first_or_why r (first.Entry a) f h why = entry_or_why 1 r a f h why.0

  pub first_exact : IsExact SpellsFirst FirstBreaks
  first_exact = record {
    value = one_first;
    why = λ r f g known too h k. one_why 1 r f g (first_why r f known h).0 (first_why r g too k).0;
    apart = λ r a f known says h. first_or_why r a f says (first_why r f known h);
  }

  header_or_not : (r : List ℕ) → (r ≡ HEADER ∷ []) ⊎ (r ≢ HEADER ∷ [])
  header_or_not [] = inr (λ is. absurd (cc))
  header_or_not (letter ∷ next ∷ text) = inr (λ is. let same = (behind_one letter HEADER (next ∷ text) [] (letter ∷ next ∷ text) refl is).1 in absurd (cc))
  header_or_not (letter ∷ []) = elim (cases_eq letter HEADER) [
    | inl is ↦ inl (ap (λ (x : ℕ). x ∷ []) is)
    | inr other ↦ inr (λ is. other (behind_one letter HEADER [] [] (letter ∷ []) refl is).0)
  ]

  first_breaks : (r : List ℕ) (f : RecordError) → f ≢ refusal.NoMemory → r ≢ HEADER ∷ [] → EntryBreaks 1 r f → FirstBreaks r f
  first_breaks r (refusal.Text f) known other h = h
  first_breaks r (refusal.Field f) known other h = h
  first_breaks r refusal.BadEntry known other h = (h, other)
  first_breaks r refusal.NoMemory known other h = absurd (known refl)

  pub first_decided : IsDecided SpellsFirst FirstBreaks
  first_decided r = elim (header_or_not r) [
    | inl header ↦ inl (first.Header, header)
    | inr other ↦ elim (entry_decided 1 r) [
      | inl h ↦ inl (first.Entry h.0, h.1)
      | inr h ↦ inr (h.0, h.1, first_breaks r h.0 h.1 other h.2)
    ]
  ]
