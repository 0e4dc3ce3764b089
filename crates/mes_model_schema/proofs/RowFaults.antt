-- The first fault of rows: of one row, of consecutive rows, of the row `type`, and of a message.
use Rattle.std.proofs.Common.{◌≡◌, ◌≢◌, ◌⊎◌, inl, inr, ◌↔◌, ℕ, ◌≤◌, Bool, true, false, List, [], ◌∷◌, length, Option, Some, None, refl, sym, ◌∙◌, subst, cond, bytes_eq, arith}
use Rattle.std.specs.Prelude.{Result, Ok, Err}
use Rattle.mes_json.specs.Tree.{Tree, Members}
use Rattle.mes_json.specs.Tree.Tree.{null, boolean, number, string, array, object}
use Rattle.mes_model_schema.specs.Paths.{Place}
use Rattle.mes_model_schema.specs.Fields.{values_named, Has, Lacks, below, unless_null, single, lookup}
use Rattle.mes_model_schema.specs.Kinds.{Kind, Breaks, ◌>>=◌}
use Rattle.mes_model_schema.specs.Leaves.{members_at, texts, objects}
use Rattle.mes_model_schema.specs.Lists.{list_of}
use Rattle.mes_model_schema.specs.Rows.{Table, must, required, need, likewise, optional, maybe, listed, repeated, many, is_there, flagged, flag, ◌⨾◌, mapped, message}
use Rattle.mes_model_schema.specs.Choices.{Choice, type_name, no_other, case, typed}
use Rattle.mes_model_schema.specs.FieldLaws.{after, broken, breaks_first, has_looked, lacks_looked}
use Rattle.mes_model_schema.specs.NameLaws.{names_equal, names_differ, same_name}
use Rattle.mes_model_schema.specs.KindLaws.{members_are, lawful_texts}
use Rattle.mes_model_schema.specs.RowLaws.{LawfulTable, lawful_need}
use Rattle.mes_model_schema.specs.FirstFaults.{IsAt, IsExact, IsDuplicated, OptionalBreaks, NeedBreaks, RowsBreak, JoinedBreak, MessageBreaks, ChoiceBreaks, TypedBreak, CaseBreaks}
use Rattle.mes_model_schema.proofs.ValueFaults.{is_at, told_at, object_told}
use Rattle.mes_model_schema.specs.declared.field.FieldFault.{FieldFault}
use Rattle.mes_model_schema.specs.declared.field.FieldFaultKind.{FieldFaultKind}
use Rattle.mes_model_schema.specs.declared.field.FieldFaultKind.TheVariants.{Missing, Twice}

-- converting the value of a result does not change its fault
pub kept_fault : {A B : Type 0} (r : Result A FieldFault) (go : A → B) (f : FieldFault) → ((r >>= λ x. Ok (go x)) ≡ Err f) ↔ (r ≡ Err f)
kept_fault {A} {B} r go f = (to, breaks_first r _ f) where
  to : (r >>= λ x. Ok (go x)) ≡ Err f → r ≡ Err f
  to e = elim (broken r _ f e) [
    | inl h ↦ h
    | inr h ↦ let bad = h.2 in absurd (cc)
  ]

-- ---- first faults of a table with one row

twice_is : {F : Type 0} (at : List Place) (n : List ℕ) (ms : Members) (value : Option Tree → Result F FieldFault) (f : FieldFault)
    → IsDuplicated ms n → IsAt (below at n) Twice f → (lookup at n ms >>= value) ≡ Err f
unfolding lookup
twice_is {F} at n ms value f twice place = by_values (values_named n ms) twice where
  by_values : (ts : List Tree) → 2 ≤ length ts → (single (below at n) ts >>= value) ≡ Err f
  by_values [] more = absurd (omega arith)
  by_values (t ∷ []) more = absurd (omega arith)
  by_values (t ∷ u ∷ ts) more = told_at (below at n) Twice f place

null_or_not : (t : Tree) → ((t ≡ null) × (unless_null t ≡ None)) ⊎ ((t ≢ null) × (unless_null t ≡ Some t))
null_or_not null = inl (refl, refl)
null_or_not (boolean x) = inr ((λ e. absurd (cc)), refl)
null_or_not (number n) = inr ((λ e. absurd (cc)), refl)
null_or_not (string s) = inr ((λ e. absurd (cc)), refl)
null_or_not (array ts) = inr ((λ e. absurd (cc)), refl)
null_or_not (object ms) = inr ((λ e. absurd (cc)), refl)

-- the fault of a row: the member is a duplicate, or absent, or its value has the fault
abbrev RowTells : {F : Type 0} → List Place → List ℕ → Members → (Option Tree → Result F FieldFault) → FieldFault → Type 0
RowTells at n ms value f =
    (IsDuplicated ms n × IsAt (below at n) Twice f)
    ⊎ ((Lacks ms n × (value None ≡ Err f)) ⊎ ((t : Tree) × Has ms n t × (value (Some t) ≡ Err f)))

row_tells : {F : Type 0} (at : List Place) (n : List ℕ) (ms : Members) (value : Option Tree → Result F FieldFault) (f : FieldFault)
    → (lookup at n ms >>= value) ≡ Err f → RowTells at n ms value f
unfolding lookup
row_tells {F} at n ms value f e = by_values (values_named n ms) refl e where
  one : (t : Tree) → values_named n ms ≡ t ∷ [] → value (unless_null t) ≡ Err f → RowTells at n ms value f
  one t is e = elim (null_or_not t) [
    | inl h ↦ inr (inl (
      inr (subst (λ (u : Tree). values_named n ms ≡ u ∷ []) h.0 is),
      subst (λ (o : Option Tree). value o ≡ Err f) h.1 e,
    ))
    | inr h ↦ inr (inr (t, (is, h.0), subst (λ (o : Option Tree). value o ≡ Err f) h.1 e))
  ]

  by_values : (ts : List Tree) → values_named n ms ≡ ts → (single (below at n) ts >>= value) ≡ Err f → RowTells at n ms value f
  by_values [] is e = inr (inl (inl is, e))
  by_values (t ∷ []) is e = one t is e
  by_values (t ∷ u ∷ ts) is e =
      let twice : 2 ≤ length (t ∷ u ∷ ts) = omega arith in
      inl (subst (λ (us : List Tree). 2 ≤ length us) (sym is) twice, is_at {V = F} (below at n) Twice f e)

lacks_tells : {F : Type 0} (at : List Place) (n : List ℕ) (ms : Members) (value : Option Tree → Result F FieldFault) (f : FieldFault)
    → Lacks ms n → value None ≡ Err f → (lookup at n ms >>= value) ≡ Err f
lacks_tells at n ms value f lacks e = after _ value None (lacks_looked at n ms lacks) ∙ e

has_tells : {F : Type 0} (at : List Place) (n : List ℕ) (ms : Members) (value : Option Tree → Result F FieldFault) (f : FieldFault) (t : Tree)
    → Has ms n t → value (Some t) ≡ Err f → (lookup at n ms >>= value) ≡ Err f
has_tells at n ms value f t has e = after _ value (Some t) (has_looked at n ms t has) ∙ e

pub need_breaks : {V : Type 0} (k : Kind V) (n : List ℕ) (at : List Place) (ms : Members) (f : FieldFault)
    → RowsBreak (need n k) at ms f ↔ NeedBreaks k n at ms f
unfolding required
need_breaks {V} k n at ms f = (to, from) where
  to : (lookup at n ms >>= must k (below at n)) ≡ Err f → NeedBreaks k n at ms f
  to e = elim (row_tells at n ms (must k (below at n)) f e) [
    | inl h ↦ inr (inl h)
    | inr h ↦ elim h [
      | inl p ↦ inl (p.0, is_at {V = V} (below at n) Missing f p.1)
      | inr p ↦ inr (inr p)
    ]
  ]

  from : NeedBreaks k n at ms f → (lookup at n ms >>= must k (below at n)) ≡ Err f
  from (inl h) = lacks_tells at n ms (must k (below at n)) f h.0 (told_at (below at n) Missing f h.1)
  from (inr (inl h)) = twice_is at n ms (must k (below at n)) f h.0 h.1
  from (inr (inr h)) = has_tells at n ms (must k (below at n)) f h.0 h.1 h.2

-- the faults of a row whose member may be absent: a duplicate, or a fault of the value
may_break : {F : Type 0} (at : List Place) (n : List ℕ) (ms : Members) (value : Option Tree → Result F FieldFault) (x : F) (f : FieldFault)
    (OfValue : Tree → Type 0) → value None ≡ Ok x → ((t : Tree) → (value (Some t) ≡ Err f) ↔ OfValue t)
    → ((lookup at n ms >>= value) ≡ Err f) ↔ ((IsDuplicated ms n × IsAt (below at n) Twice f) ⊎ ((t : Tree) × Has ms n t × OfValue t))
may_break {F} at n ms value x f OfValue absent there = (to, from) where
  to : (lookup at n ms >>= value) ≡ Err f → (IsDuplicated ms n × IsAt (below at n) Twice f) ⊎ ((t : Tree) × Has ms n t × OfValue t)
  to e = elim (row_tells at n ms value f e) [
    | inl h ↦ inl h
    | inr h ↦ elim h [
      | inl p ↦ let both : Ok x ≡ Err f = sym absent ∙ p.1 in absurd (cc)
      | inr p ↦ inr (p.0, p.1, (there p.0).0 p.2)
    ]
  ]

  from : (IsDuplicated ms n × IsAt (below at n) Twice f) ⊎ ((t : Tree) × Has ms n t × OfValue t) → (lookup at n ms >>= value) ≡ Err f
  from (inl h) = twice_is at n ms value f h.0 h.1
  from (inr h) = has_tells at n ms value f h.0 h.1 ((there h.0).1 h.2)

pub maybe_breaks : {V : Type 0} (k : Kind V) (n : List ℕ) (at : List Place) (ms : Members) (f : FieldFault)
    → RowsBreak (maybe n k) at ms f ↔ OptionalBreaks k n at ms f
unfolding optional
maybe_breaks k n at ms f =
    may_break at n ms (likewise k (below at n)) None f (λ t. Breaks k (below at n) t f) refl (λ t. kept_fault (k.read (below at n) t) _ f)

pub many_breaks : {V : Type 0} (k : Kind V) (n : List ℕ) (at : List Place) (ms : Members) (f : FieldFault)
    → RowsBreak (many n k) at ms f ↔ OptionalBreaks (list_of k) n at ms f
unfolding repeated
many_breaks k n at ms f =
    may_break at n ms (listed k (below at n)) [] f (λ t. Breaks (list_of k) (below at n) t f) refl (λ t. ((λ e. e), (λ e. e)))

pub flag_breaks : (n : List ℕ) (at : List Place) (ms : Members) (f : FieldFault) → RowsBreak (flag n) at ms f ↔ OptionalBreaks objects n at ms f
unfolding flagged objects
flag_breaks n at ms f =
    may_break at n ms (is_there (below at n)) false f (λ t. Breaks objects (below at n) t f) refl (λ t. kept_fault (members_at (below at n) t) _ f)

-- ---- first faults of consecutive rows

pub exact_rows : {F : Type 0} {r : Table F} {steps : ℕ} → LawfulTable r steps → IsExact r
exact_rows lawful at ms x = (lawful.sound at ms x, lawful.complete at ms x)

pub joined_breaks : {F G : Type 0} (r : Table F) (s : Table G) → IsExact r → (at : List Place) (ms : Members) (f : FieldFault)
    → RowsBreak (r ⨾ s) at ms f ↔ JoinedBreak r s at ms f
joined_breaks {F} {G} r s exact at ms f = (to, from) where
  to : (r ⨾ s).read at ms ≡ Err f → JoinedBreak r s at ms f
  to e = elim (broken (r.read at ms) _ f e) [
    | inl h ↦ inl h
    | inr h ↦ inr ((h.0, (exact at ms h.0).0 h.1), (kept_fault (s.read at ms) _ f).0 h.2)
  ]

  from : JoinedBreak r s at ms f → (r ⨾ s).read at ms ≡ Err f
  from (inl h) = breaks_first (r.read at ms) _ f h
  from (inr h) = after _ _ h.0.0 ((exact at ms h.0.0).1 h.0.1) ∙ breaks_first (s.read at ms) _ f h.1

pub mapped_breaks : {F G : Type 0} (r : Table F) (to : F → G) (from : G → F) (at : List Place) (ms : Members) (f : FieldFault)
    → RowsBreak (mapped r to from) at ms f ↔ RowsBreak r at ms f
mapped_breaks r to from at ms f = kept_fault (r.read at ms) to f

pub message_breaks : {F : Type 0} (r : Table F) (at : List Place) (t : Tree) (f : FieldFault) → Breaks (message r) at t f ↔ MessageBreaks r at t f
message_breaks {F} r at t f = (to, from) where
  to : (message r).read at t ≡ Err f → MessageBreaks r at t f
  to e = elim (broken (members_at at t) _ f e) [
    | inl h ↦ inl ((object_told at t f).0 h)
    | inr h ↦ inr (h.0, members_are at t h.0 h.1, h.2)
  ]

  from : MessageBreaks r at t f → (message r).read at t ≡ Err f
  from (inl h) = breaks_first (members_at at t) _ f ((object_told at t f).1 h)
  from (inr h) = rw (h.1) (h.2)

-- ---- first faults of a typed value

pub case_breaks : {F G : Type 0} (this : List ℕ) (r : Table F) (rest : Choice G) (at : List Place) (kind : List ℕ) (ms : Members) (f : FieldFault)
    → ChoiceBreaks (case this r rest) at kind ms f ↔ CaseBreaks this r rest at kind ms f
case_breaks {F} {G} this r rest at kind ms f = (to (bytes_eq kind this) refl, from) where
  to : (b : Bool) → bytes_eq kind this ≡ b → cond b (r.read at ms >>= λ a. Ok (inl a)) (rest.read at kind ms >>= λ a. Ok (inr a)) ≡ Err f
      → CaseBreaks this r rest at kind ms f
  to true same e = inl (names_equal kind this same, (kept_fault (r.read at ms) _ f).0 e)
  to false other e = inr (differ, (kept_fault (rest.read at kind ms) _ f).0 e) where
    differ : kind ≢ this
    differ e = let same : bytes_eq kind this ≡ true = subst (λ (n : List ℕ). bytes_eq kind n ≡ true) e (same_name kind) in absurd (cc)

  from : CaseBreaks this r rest at kind ms f → (case this r rest).read at kind ms ≡ Err f
  from (inl h) = rw (h.0, same_name this) (breaks_first (r.read at ms) _ f h.1)
  from (inr h) = rw (names_differ kind this h.0) (breaks_first (rest.read at kind ms) _ f h.1)

pub no_other_breaks : (why : FieldFaultKind) (at : List Place) (kind : List ℕ) (ms : Members) (f : FieldFault)
    → ChoiceBreaks (no_other why) at kind ms f ↔ IsAt (below at type_name) why f
no_other_breaks why at kind ms f = (is_at {V = ⊥} (below at type_name) why f, told_at (below at type_name) why f)

is_text : (t : Tree) (s : List ℕ) → texts.Reads t s → t ≡ string s
unfolding texts
is_text t s e = e

of_text : (s : List ℕ) → texts.Reads (string s) s
unfolding texts
of_text s = refl

pub typed_breaks : {F : Type 0} (c : Choice F) (at : List Place) (ms : Members) (f : FieldFault) → RowsBreak (typed c) at ms f ↔ TypedBreak c at ms f
typed_breaks {F} c at ms f = (to, from) where
  type_row : LawfulTable (need type_name texts) 1
  type_row = lawful_need lawful_texts

  to : (typed c).read at ms ≡ Err f → TypedBreak c at ms f
  to e = elim (broken (required type_name texts at ms) _ f e) [
    | inl h ↦ inl ((need_breaks texts type_name at ms f).0 h)
    | inr h ↦
        let has = type_row.sound at ms h.0 h.1 in
        inr (h.0, subst (λ (t : Tree). Has ms type_name t) (is_text has.0 h.0 has.2) has.1, h.2)
  ]

  from : TypedBreak c at ms f → (typed c).read at ms ≡ Err f
  from (inl h) = breaks_first (required type_name texts at ms) _ f ((need_breaks texts type_name at ms f).1 h)
  from (inr h) = after _ _ h.0 (type_row.complete at ms h.0 (string h.0, h.1, of_text h.0)) ∙ h.2
