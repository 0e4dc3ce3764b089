-- Lemmas about the data that the reader of a letter and a text has consumed, at each position.
use Rattle.std.proofs.Common.{◌≡◌, ◌≢◌, ℕ, ◌+◌, ◌^◌, ◌<◌, ◌≤◌, inl, inr, List, [], ◌∷◌, ◌++◌, length, take, Result, Ok, Err, refl, ap, sym, ◌∙◌, subst, arith, add-one, Bool, true, false}
use Rattle.std.specs.Prelude.{◌==◌, IfErr}
use Rattle.mes_json.specs.Inner.{inner}
use Rattle.mes_json.specs.Lexer.{HasLexed, IsBounded, IsLexFault, IsOutOfMemory, held}
use Rattle.mes_json.specs.Place.{Begins}
use Rattle.mes_json.specs.declared.fault.ReadFault.{ReadFault}
use Rattle.mes_json.specs.declared.fault.ReadFault.TheVariants as read
use Rattle.mes_json.specs.declared.limits.TheConstants.{MAX_NESTING}
use Rattle.mes_json.specs.declared.memory.NoMemoryAt.{NoMemoryAt}
use Rattle.mes_json.specs.declared.lexer.Lexer.{Lexer}
use Rattle.mes_model_schema.specs.Kinds.{Kind}
use Rattle.mes_msg.specs.Events.{event}
use Rattle.mes_msg.specs.Calls.{call}
use Rattle.mes_msg.specs.RecordFaults.{of_read}
use Rattle.mes_msg.specs.Texts.{IsFaultOf}
use Rattle.mes_msg.specs.RecordFault.{RecordFault}
use Rattle.mes_msg.specs.RecordFault.TheVariants as message
use Rattle.mes_stream.proofs.MessageLemmas.{exact_fault}
use Rattle.mes_stream.specs.Refusals.{refusal_of}
use Rattle.mes_stream.specs.declared.record_error.RecordError.{RecordError}
use Rattle.mes_stream.specs.declared.record_error.RecordError.TheVariants as refusal
use Rattle.mes_session_log_entry.specs.Entries.{AfterLetter, BeginsMessage, IsWholeEntry, IsWholeFirst, SpellsEntry, SpellsFirst}
use Rattle.mes_session_log_entry.specs.Lettered.{HasText, HoldsAt, LetteredBreaks, IsTextRefusal}
use Rattle.mes_session_log_entry.specs.declared.record_letters.TheConstants.{EVENT, CALL}
use Rattle.mes_msg.specs.declared.entry.Entry.{Entry}
use Rattle.mes_msg.specs.declared.entry.Entry.TheVariants.{Heard, Said, Broken}
use Rattle.mes_session_log_entry.specs.declared.first_reader.FirstRecord.{FirstRecord}
use Rattle.mes_session_log_entry.specs.declared.first_reader.FirstRecord.TheVariants as first
use Rattle.mes_session_log_entry.specs.declared.lettered_text.Place.{Place}
use Rattle.mes_session_log_entry.specs.declared.lettered_text.Place.TheVariants as place

pub shorter : (letter : ℕ) (text r : List ℕ) → r ≡ letter ∷ text → length r < 2 ^ 64 → length text < 2 ^ 64
shorter letter text r is short = let size = ap length is in omega (arith, size, short)

pub text_on : (letter : ℕ) (old new : Lexer) (bytes r : List ℕ) → ((p : List ℕ) → HasLexed old p → HasLexed new (p ++ bytes)) → (IsOutOfMemory new → ⊥)
    → AfterLetter letter (HasText old) r → AfterLetter letter (HasText new) (r ++ bytes)
text_on letter old new bytes r lexed memory (text, is, has) =
    (text ++ bytes, ap (λ (x : List ℕ). x ++ bytes) is, record { lexed = lexed text has.lexed; memory = memory })

-- a fault of the text is a fault of the data with the letter, for an event and for a call
pub event_refused : (r : List ℕ) (text : List ℕ) (why : RecordError) → r ≡ EVENT ∷ text → IsTextRefusal event text why → LetteredBreaks r why
event_refused r text (refusal.Text f) is h = inl (text, is, h)
event_refused r text (refusal.Field f) is h = inl (text, is, h)
event_refused r text refusal.BadEntry is h = absurd h
event_refused r text refusal.NoMemory is h = inl (text, is, h)

pub call_refused : (r : List ℕ) (text : List ℕ) (why : RecordError) → r ≡ CALL ∷ text → IsTextRefusal call text why → LetteredBreaks r why
call_refused r text (refusal.Text f) is h = inr (text, is, h)
call_refused r text (refusal.Field f) is h = inr (text, is, h)
call_refused r text refusal.BadEntry is h = absurd h
call_refused r text refusal.NoMemory is h = inr (text, is, h)

pub text_refused : {V : Type 0} (k : Kind V) (text : List ℕ) (f : RecordFault) → (f ≡ message.NoMemory → Begins MAX_NESTING text) → IsFaultOf k text f → IsTextRefusal k text (refusal_of f)
text_refused k text (message.Text f) begins h = h
text_refused k text (message.Field f) begins h = h
text_refused k text message.NoMemory begins h = begins refl

pub lexed_refused : {V : Type 0} (k : Kind V) (text : List ℕ) (e : ReadFault) → length text < 2 ^ 64 → IsLexFault MAX_NESTING text e → (e ≡ read.NoMemory → Begins MAX_NESTING text)
    → IsTextRefusal k text (refusal_of (of_read e))
lexed_refused k text (read.Text f) short h begins = exact_fault MAX_NESTING text f short h
lexed_refused k text read.NoMemory short h begins = begins refl

-- if an allocation failed at a byte of the text, the data as far as that byte begin like an event or
-- a call
abbrev pub StopsText : {T : Type 0} → Lexer → List ℕ → Result T NoMemoryAt → Type 0
StopsText lexer bytes result =
    (text : List ℕ) → HasLexed lexer text → (IsOutOfMemory lexer → ⊥) → IfErr result (λ refused. Begins MAX_NESTING (text ++ take (refused.taken + 1) bytes))

pub event_begins : {T : Type 0} (lexer : Lexer) (r bytes : List ℕ) (result : Result T NoMemoryAt) → StopsText lexer bytes result → AfterLetter EVENT (HasText lexer) r
    → IfErr result (λ refused. BeginsMessage (r ++ take (refused.taken + 1) bytes))
event_begins lexer r bytes (Ok done) before h = tt
event_begins lexer r bytes (Err refused) before (text, is, has) =
    inl (text ++ take (refused.taken + 1) bytes, ap (λ (x : List ℕ). x ++ take (refused.taken + 1) bytes) is, before text has.lexed has.memory)

pub call_begins : {T : Type 0} (lexer : Lexer) (r bytes : List ℕ) (result : Result T NoMemoryAt) → StopsText lexer bytes result → AfterLetter CALL (HasText lexer) r
    → IfErr result (λ refused. BeginsMessage (r ++ take (refused.taken + 1) bytes))
call_begins lexer r bytes (Ok done) before h = tt
call_begins lexer r bytes (Err refused) before (text, is, has) =
    inr (text ++ take (refused.taken + 1) bytes, ap (λ (x : List ℕ). x ++ take (refused.taken + 1) bytes) is, before text has.lexed has.memory)

pub some_held : (p : Place) (lexer : Lexer) (r : List ℕ) → p ≢ place.Start → HoldsAt p lexer r → r ≢ []
some_held place.Start lexer r other h none = absurd (other refl)
some_held place.Event lexer r other (text, is, has) none = absurd (cc)
some_held place.Call lexer r other (text, is, has) none = absurd (cc)
some_held (place.Alone letter) lexer r other (is, alone, has) none = absurd (cc)
some_held place.More lexer r other (letter, next, more, is, alone, has) none = absurd (cc)

pub take_letter : (n letter : ℕ) (text : List ℕ) → take (n + 1) (letter ∷ text) ≡ letter ∷ take n text
take_letter n letter text = rw add-one refl

pub some_bytes : (bytes : List ℕ) (empty : Bool) → empty ≡ (length bytes == 0) → empty ≡ false → bytes ≡ [] → ⊥
some_bytes bytes empty is not none = let both : true ≡ false = subst (λ (xs : List ℕ). (length xs == 0) ≡ false) none (sym is ∙ not) in absurd (cc)

pub alone_more : (lexer : Lexer) (letter : ℕ) (r bytes : List ℕ) → (bytes ≡ [] → ⊥) → HoldsAt (place.Alone letter) lexer r → HoldsAt place.More lexer (r ++ bytes)
alone_more lexer letter r [] some h = absurd (some refl)
alone_more lexer letter r (next ∷ more) some (is, other, has) = (letter, next, more, ap (λ (x : List ℕ). x ++ next ∷ more) is, other, has)

-- the lexer buffers at most `inner r` bytes of the data r
pub kept_most : (lexer : Lexer) (place : Place) (r : List ℕ) → ((p : List ℕ) → HasLexed lexer p → IsBounded lexer p) → HoldsAt place lexer r → held lexer ≤ inner r
kept_most lexer place.Start r bound h = let most = (bound [] h.1.lexed).texts in omega (arith, most)
kept_most lexer place.Event r bound (text, is, has) = let most = (bound text has.lexed).texts in rw is (omega (arith, most))
kept_most lexer place.Call r bound (text, is, has) = let most = (bound text has.lexed).texts in rw is (omega (arith, most))
kept_most lexer (place.Alone letter) r bound h = let most = (bound [] h.2.lexed).texts in omega (arith, most)
kept_most lexer place.More r bound h = let most = (bound [] h.5.lexed).texts in omega (arith, most)

-- data with a value are whole
pub entry_whole : (version : ℕ) (r : List ℕ) (entry : Entry) → SpellsEntry version r entry → IsWholeEntry version r
entry_whole version r (Heard heard) (text, is, (t, spelt, reads)) = inl (inl (text, is, (t, spelt)))
entry_whole version r (Said said) (text, is, (t, spelt, reads)) = inl (inr (text, is, (t, spelt)))
entry_whole version r Broken is = inr is

pub first_whole : (r : List ℕ) (value : FirstRecord) → SpellsFirst r value → IsWholeFirst r
first_whole r first.Header is = inr is
first_whole r (first.Entry (Heard heard)) (text, is, (t, spelt, reads)) = inl (inl (text, is, (t, spelt)))
first_whole r (first.Entry (Said said)) (text, is, (t, spelt, reads)) = inl (inr (text, is, (t, spelt)))
first_whole r (first.Entry Broken) is = let one : 1 ≡ 2 = is.0 in absurd (omega (arith, one))
