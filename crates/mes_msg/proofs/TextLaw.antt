-- Lemmas: bytes are a JSON text of exactly one value or have exactly one fault, and not both.
use Rattle.std.proofs.Common.{◌≡◌, ◌≢◌, ℕ, ◌⊎◌, inl, inr, List, [], sym, ◌∙◌, ap, refl, subst, Result, Ok, Err}
use Rattle.mes_model_schema.specs.Tree.{Tree}
use Rattle.mes_model_schema.specs.Grammar.{IsText}
use Rattle.mes_model_schema.specs.Place.{IsFault}
use Rattle.mes_model_schema.specs.JsonLimits.{MAX_NESTING}
use Rattle.mes_model_schema.specs.TextFault.{TextFault}
use Rattle.mes_model_schema.specs.declared.field.FieldFault.{FieldFault}
use Rattle.mes_model_schema.specs.Kinds.{Kind, Lawful}
use Rattle.mes_msg_record.specs.Texts.{IsTextOf, BreaksText, IsFaultOf}
use Rattle.mes_msg_record.specs.declared.record.RecordFault.{RecordFault}
use Rattle.mes_msg_record.specs.declared.record.RecordFault.TheVariants.{Text, Field, NoMemory}

module _ {V : Type 0} {steps : ℕ} (k : Kind V) (lawful : Lawful k steps) (one_text : (d : ℕ) (b : List ℕ) (t u : Tree) → IsText d b t → IsText d b u → t ≡ u) (one_fault : (d : ℕ) (b : List ℕ) (f g : TextFault) → IsFault d b f → IsFault d b g → f ≡ g) where
  pub one_value : (r : List ℕ) (a b : V) → IsTextOf k r a → IsTextOf k r b → a ≡ b
  one_value r a b (t, is, reads) (u, too, others) =
      let same : t ≡ u = one_text MAX_NESTING r t u is too in
      let first : k.read [] t ≡ Ok a = lawful.complete [] t a reads in
      let second : k.read [] t ≡ Ok b = subst (λ (v : Tree). k.read [] v ≡ Ok b) (sym same) (lawful.complete [] u b others) in
      let both : Ok a ≡ Ok b = sym first ∙ second in
      cc

  one_field : (r : List ℕ) (f g : FieldFault) → BreaksText k r f → BreaksText k r g → f ≡ g
  one_field r f g (t, is, breaks) (u, too, others) =
      let same : t ≡ u = one_text MAX_NESTING r t u is too in
      let second : k.read [] t ≡ Err g = subst (λ (v : Tree). k.read [] v ≡ Err g) (sym same) others in
      let both : Err f ≡ Err g = sym breaks ∙ second in
      cc

  pub one_why : (r : List ℕ) (f g : RecordFault) → f ≢ NoMemory → g ≢ NoMemory → IsFaultOf k r f → IsFaultOf k r g → f ≡ g
  one_why r (Text f) (Text g) known reported is too = ap (λ (h : TextFault). Text h) (one_fault MAX_NESTING r f g is too)
  one_why r (Text f) (Field g) known reported is too = absurd (is.no_text too.0 too.1)
  one_why r (Field f) (Text g) known reported is too = absurd (too.no_text is.0 is.1)
  one_why r (Field f) (Field g) known reported is too = ap (λ (h : FieldFault). Field h) (one_field r f g is too)
  one_why r NoMemory g known reported is too = absurd (known refl)
  one_why r (Text f) NoMemory known reported is too = absurd (reported refl)
  one_why r (Field f) NoMemory known reported is too = absurd (reported refl)

  pub no_both : (r : List ℕ) (a : V) (f : RecordFault) → f ≢ NoMemory → IsTextOf k r a → IsFaultOf k r f → ⊥
  no_both r a (Text f) known spells is = is.no_text spells.0 spells.1
  no_both r a (Field f) known (t, is, reads) (u, too, breaks) =
      let same : t ≡ u = one_text MAX_NESTING r t u is too in
      let first : k.read [] t ≡ Ok a = lawful.complete [] t a reads in
      let second : k.read [] t ≡ Err f = subst (λ (v : Tree). k.read [] v ≡ Err f) (sym same) breaks in
      let both : Ok a ≡ Err f = sym first ∙ second in
      absurd (cc)
  no_both r a NoMemory known spells is = absurd (known refl)

module _ {V : Type 0} {steps : ℕ} (k : Kind V) (lawful : Lawful k steps) (some_text : (d : ℕ) (b : List ℕ) → ((t : Tree) × IsText d b t) ⊎ ((f : TextFault) × IsFault d b f)) where
  pub one_or_why : (r : List ℕ) → ((v : V) × IsTextOf k r v) ⊎ ((why : RecordFault) × (why ≢ NoMemory) × IsFaultOf k r why)
  one_or_why r = elim (some_text MAX_NESTING r) [
    | inl h ↦ by h.0 h.1 (k.read [] h.0) refl
    | inr h ↦ inr (Text h.0, λ clash. absurd (cc), h.1)
  ] where
    by : (t : Tree) → IsText MAX_NESTING r t → (o : Result V FieldFault) → k.read [] t ≡ o → ((ev : V) × IsTextOf k r ev) ⊎ ((why : RecordFault) × (why ≢ NoMemory) × IsFaultOf k r why)
    by t is (Ok ev) e = inl (ev, (t, is, lawful.sound [] t ev e))
    by t is (Err f) e = inr (Field f, λ clash. absurd (cc), (t, is, e))
