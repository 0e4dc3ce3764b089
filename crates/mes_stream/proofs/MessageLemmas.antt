-- Each error of a message is an error of the record with that message.
use Rattle.std.proofs.Common.{◌≡◌, ◌≢◌, ℕ, ◌^◌, ◌<◌, List, length, ◌⊎◌, inl, inr, Option, Some, None, refl, ap, ap₂, sym, ◌∙◌, subst, arith}
use Rattle.mes_json.specs.Lexer.{IsCountedFault, IsLexFault}
use Rattle.mes_json.specs.Machine.{State, start, run}
use Rattle.mes_json.specs.Place.{Begins, IsFault}
use Rattle.mes_json.specs.declared.fault.ReadFault.{ReadFault}
use Rattle.mes_json.specs.declared.fault.ReadFault.TheVariants as read
use Rattle.mes_json.specs.declared.fault.TextFault.{TextFault}
use Rattle.mes_json.specs.declared.fault.TextFaultKind.{TextFaultKind}
use Rattle.mes_json.specs.declared.limits.TheConstants.{MAX_NESTING}
use Rattle.mes_json.proofs.LexerLemmas.{text_begins}
use Rattle.mes_json.proofs.PlaceLemmas.{place_within}
use Rattle.mes_json.proofs.ViableLemmas.{begins_from_run, none_begins}
use Rattle.mes_msg.specs.RecordFaults.{of_read}
use Rattle.mes_stream.specs.RecordValues.{IsRefused}
use Rattle.mes_model_schema.specs.Kinds.{Kind}
use Rattle.mes_msg.specs.Texts.{IsTextOf, IsFaultOf}
use Rattle.mes_msg.specs.RecordFault.{RecordFault}
use Rattle.mes_msg.specs.RecordFault.TheVariants as message
use Rattle.mes_stream.specs.PlainReading.{IsExact, IsDecided}
use Rattle.mes_stream.specs.Refusals.{refusal_of, IsMessageRefusal}
use Rattle.mes_stream.specs.declared.record_error.RecordError.{RecordError}
use Rattle.mes_stream.specs.declared.record_error.RecordError.TheVariants as refusal

-- ---- errors of JSON texts

-- the bytes p are a prefix of a JSON text, or are not a prefix of any JSON text
begins_or_not : (p : List ℕ) → Begins MAX_NESTING p ⊎ (Begins MAX_NESTING p → ⊥)
begins_or_not p = by (run MAX_NESTING start p) refl where
  by : (o : Option State) → run MAX_NESTING start p ≡ o → Begins MAX_NESTING p ⊎ (Begins MAX_NESTING p → ⊥)
  by (Some s) is = inl (begins_from_run MAX_NESTING s p is)
  by None is = inr (none_begins MAX_NESTING p is)

pub begins_known : (p : List ℕ) → ((Begins MAX_NESTING p → ⊥) → ⊥) → Begins MAX_NESTING p
begins_known p known = elim (begins_or_not p) [
  | inl begins ↦ begins
  | inr not ↦ absurd (known not)
]

-- for fewer than 2^64 bytes the counted offset of the error is exact
pub exact_fault : (d : ℕ) (b : List ℕ) (f : TextFault) → length b < 2 ^ 64 → IsCountedFault d b f → IsFault d b f
exact_fault d b f short h =
    let most = place_within d b h.exact.byte h.exact.why h.is_fault.reason in
    let rounds = h.rounds.byte in
    let byte : h.exact.byte ≡ f.byte = omega (arith, most, short, rounds) in
    let same : h.exact ≡ f = ap₂ (λ (n : ℕ) (y : TextFaultKind). let x : TextFault = record { byte = n; why = y } in x) byte (sym h.rounds.why) in
    subst (λ (x : TextFault). IsFault d b x) same h.is_fault

-- an error in the text is no failed allocation
pub known_read : (e : ReadFault) → e ≢ read.NoMemory → refusal_of (of_read e) ≢ refusal.NoMemory
known_read (read.Text f) not none = absurd (cc)
known_read read.NoMemory not none = absurd (not refl)

-- ---- errors of messages of a kind

module _ {M : Type 0} (kind : Kind M) where
  pub refuses : (r : List ℕ) (f : RecordFault) → (f ≡ message.NoMemory → Begins MAX_NESTING r) → IsFaultOf kind r f → IsMessageRefusal kind r (refusal_of f)
  refuses r (message.Text f) begins h = h
  refuses r (message.Field f) begins h = h
  refuses r message.NoMemory begins h = begins refl

  -- `IsMessageRefusal` permits an error of the lexer: the data are not JSON, or an allocation
  -- failed
  pub text_refused : (r : List ℕ) (e : ReadFault) → length r < 2 ^ 64 → IsLexFault MAX_NESTING r e → (e ≡ read.NoMemory → Begins MAX_NESTING r) → IsMessageRefusal kind r (refusal_of (of_read e))
  text_refused r (read.Text f) short h begins = exact_fault MAX_NESTING r f short h
  text_refused r read.NoMemory short h begins = begins refl

  -- `IsMessageRefusal` also permits that the list could not grow: data of a message begin a JSON
  -- text
  pub refused_of : (r : List ℕ) (why : RecordError) → IsRefused (IsTextOf kind) (IsMessageRefusal kind) r why → IsMessageRefusal kind r why
  refused_of r why (inl h) = h
  refused_of r why (inr (none, (value, (t, text, reads)))) = subst (λ (f : RecordError). IsMessageRefusal kind r f) (sym none) (text_begins r t text)

  -- the error of a record is an error of the message in the record
  refused : (r : List ℕ) (why : RecordError) → why ≢ refusal.NoMemory → IsMessageRefusal kind r why → (f : RecordFault) × (f ≢ message.NoMemory) × IsFaultOf kind r f × (why ≡ refusal_of f)
  refused r (refusal.Text f) known h = (message.Text f, λ none. absurd (cc), h, refl)
  refused r (refusal.Field f) known h = (message.Field f, λ none. absurd (cc), h, refl)
  refused r refusal.BadEntry known h = absurd h
  refused r refusal.NoMemory known h = absurd (known refl)

  pub some_reason : ((r : List ℕ) → ((value : M) × IsTextOf kind r value) ⊎ ((why : RecordFault) × (why ≢ message.NoMemory) × IsFaultOf kind r why)) → IsDecided (IsTextOf kind) (IsMessageRefusal kind)
  some_reason decided r = elim (decided r) [
    | inl h ↦ inl h
    | inr h ↦ inr (refusal_of h.0, known h.0 h.1, refuses r h.0 (λ none. absurd (h.1 none)) h.2)
  ] where
    known : (f : RecordFault) → f ≢ message.NoMemory → refusal_of f ≢ refusal.NoMemory
    known (message.Text f) not none = absurd (cc)
    known (message.Field f) not none = absurd (cc)
    known message.NoMemory not none = absurd (not refl)

  pub one_reason : ((r : List ℕ) (a b : M) → IsTextOf kind r a → IsTextOf kind r b → a ≡ b)
      → ((r : List ℕ) (f g : RecordFault) → f ≢ message.NoMemory → g ≢ message.NoMemory → IsFaultOf kind r f → IsFaultOf kind r g → f ≡ g)
      → ((r : List ℕ) (a : M) (f : RecordFault) → f ≢ message.NoMemory → IsTextOf kind r a → IsFaultOf kind r f → ⊥) → IsExact (IsTextOf kind) (IsMessageRefusal kind)
  one_reason value why apart = record {
    value = value;
    why = λ r f g some known h k.
        let first = refused r f some h in
        let second = refused r g known k in
        first.3 ∙ ap refusal_of (why r first.0 second.0 first.1 second.1 first.2 second.2) ∙ sym second.3;
    apart = λ r a f some says h.
        let is = refused r f some h in
        apart r a is.0 is.1 says is.2;
  }
