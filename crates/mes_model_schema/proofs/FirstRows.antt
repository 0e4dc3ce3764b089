-- Lemmas: the first fault of a message, composed row by row of its table.
use Rattle.std.proofs.Common.{inl, inr, ◌↔◌, ℕ, List}
use Rattle.mes_json.specs.Tree.{Tree, Members}
use Rattle.mes_model_schema.specs.Paths.{Place}
use Rattle.mes_model_schema.specs.Kinds.{Kind, Breaks, Lawful}
use Rattle.mes_model_schema.specs.Rows.{Table, need, maybe, many, flag, no_rows, ◌⨾◌, mapped, message}
use Rattle.mes_model_schema.specs.Choices.{Choice, no_other, others, case, typed}
use Rattle.mes_model_schema.specs.Layouts.{Layout, kind_of}
use Rattle.mes_model_schema.specs.RowLaws.{LawfulTable, lawful_need, lawful_maybe, lawful_many, lawful_flag}
use Rattle.mes_model_schema.specs.FirstFaults.{NeedBreaks, OptionalBreaks, RowsBreak, JoinedBreak, MessageBreaks, ChoiceBreaks, TypedBreak, CaseBreaks}
use Rattle.mes_model_schema.specs.FirstRows.{OfRows, OfTypes, NoRows, Then, NeedThen, MaybeThen, ListThen, FlagThen, TypeThen, NoType, AnyType, ByType, OfMessage, RowsHave, TypesHave}
use Rattle.mes_model_schema.proofs.RowFaults.{need_breaks, maybe_breaks, many_breaks, flag_breaks, exact_rows, joined_breaks, mapped_breaks, message_breaks, case_breaks, no_other_breaks, typed_breaks}
use Rattle.mes_model_schema.specs.declared.field.FieldFault.{FieldFault}
use Rattle.mes_model_schema.specs.declared.field.FieldFaultKind.{FieldFaultKind}

-- ---- the first fault of a row and the rows after it

pub no_rows_have : RowsHave no_rows NoRows
no_rows_have = record { just = λ at ms f. ((λ e. absurd (cc)), (λ h. absurd h)) }

pub then_have : {F G : Type 0} {r : Table F} {s : Table G} {own later : OfRows} {steps : ℕ} → LawfulTable r steps → RowsHave r own → RowsHave s later
    → RowsHave (r ⨾ s) (Then r own later)
then_have {F} {G} {r} {s} {own} {later} lawful first more = record { just = λ at ms f. (to at ms f, from at ms f) } where
  both : (at : List Place) (ms : Members) (f : FieldFault) → RowsBreak (r ⨾ s) at ms f ↔ JoinedBreak r s at ms f
  both at ms f = joined_breaks r s (exact_rows lawful) at ms f

  to : (at : List Place) (ms : Members) (f : FieldFault) → RowsBreak (r ⨾ s) at ms f → Then r own later at ms f
  to at ms f e = elim ((both at ms f).0 e) [
    | inl h ↦ inl ((first.just at ms f).0 h)
    | inr h ↦ inr (h.0, (more.just at ms f).0 h.1)
  ]

  from : (at : List Place) (ms : Members) (f : FieldFault) → Then r own later at ms f → RowsBreak (r ⨾ s) at ms f
  from at ms f (inl h) = (both at ms f).1 (inl ((first.just at ms f).1 h))
  from at ms f (inr h) = (both at ms f).1 (inr (h.0, (more.just at ms f).1 h.1))

-- the first fault of the last row of a table
pub one_need : {V : Type 0} (n : List ℕ) (k : Kind V) → RowsHave (need n k) (NeedBreaks k n)
one_need n k = record { just = need_breaks k n }

pub one_maybe : {V : Type 0} (n : List ℕ) (k : Kind V) → RowsHave (maybe n k) (OptionalBreaks k n)
one_maybe n k = record { just = maybe_breaks k n }

pub need_then : {V G : Type 0} {s : Table G} {later : OfRows} {steps : ℕ} (n : List ℕ) (k : Kind V) → Lawful k steps → RowsHave s later
    → RowsHave (need n k ⨾ s) (NeedThen n k later)
need_then n k lawful more = then_have (lawful_need lawful) (one_need n k) more

pub maybe_then : {V G : Type 0} {s : Table G} {later : OfRows} {steps : ℕ} (n : List ℕ) (k : Kind V) → Lawful k steps → RowsHave s later
    → RowsHave (maybe n k ⨾ s) (MaybeThen n k later)
maybe_then n k lawful more = then_have (lawful_maybe lawful) (one_maybe n k) more

pub list_then : {V G : Type 0} {s : Table G} {later : OfRows} {steps : ℕ} (n : List ℕ) (k : Kind V) → Lawful k steps → RowsHave s later
    → RowsHave (many n k ⨾ s) (ListThen n k later)
list_then n k lawful more = then_have (lawful_many lawful) (record { just = many_breaks k n }) more

pub flag_then : {G : Type 0} {s : Table G} {later : OfRows} (n : List ℕ) → RowsHave s later → RowsHave (flag n ⨾ s) (FlagThen n later)
flag_then n more = then_have lawful_flag (record { just = flag_breaks n }) more

pub mapped_have : {F G : Type 0} {r : Table F} {rows : OfRows} (to : F → G) (from : G → F) → RowsHave r rows → RowsHave (mapped r to from) rows
mapped_have {F} {G} {r} {rows} to from have = record {
  just = λ at ms f.
      ((λ e. (have.just at ms f).0 ((mapped_breaks r to from at ms f).0 e)), (λ h. (mapped_breaks r to from at ms f).1 ((have.just at ms f).1 h)));
}

-- ---- the first fault of a typed value

pub type_then : {F G : Type 0} {r : Table F} {rest : Choice G} {own : OfRows} {later : OfTypes} (this : List ℕ) → RowsHave r own → TypesHave rest later
    → TypesHave (case this r rest) (TypeThen this own later)
type_then {F} {G} {r} {rest} {own} {later} this first more = record { just = λ at kind ms f. (to at kind ms f, from at kind ms f) } where
  either : (at : List Place) (kind : List ℕ) (ms : Members) (f : FieldFault)
      → ChoiceBreaks (case this r rest) at kind ms f ↔ CaseBreaks this r rest at kind ms f
  either = case_breaks this r rest

  to : (at : List Place) (kind : List ℕ) (ms : Members) (f : FieldFault)
      → ChoiceBreaks (case this r rest) at kind ms f → TypeThen this own later at kind ms f
  to at kind ms f e = elim ((either at kind ms f).0 e) [
    | inl h ↦ inl (h.0, (first.just at ms f).0 h.1)
    | inr h ↦ inr (h.0, (more.just at kind ms f).0 h.1)
  ]

  from : (at : List Place) (kind : List ℕ) (ms : Members) (f : FieldFault)
      → TypeThen this own later at kind ms f → ChoiceBreaks (case this r rest) at kind ms f
  from at kind ms f (inl h) = (either at kind ms f).1 (inl (h.0, (first.just at ms f).1 h.1))
  from at kind ms f (inr h) = (either at kind ms f).1 (inr (h.0, (more.just at kind ms f).1 h.1))

pub no_type : (why : FieldFaultKind) → TypesHave (no_other why) (NoType why)
no_type why = record { just = no_other_breaks why }

pub any_type : (known : List (List ℕ)) → TypesHave (others known) AnyType
any_type known = record { just = λ at kind ms f. ((λ e. absurd (cc)), (λ h. absurd h)) }

pub by_type : {F : Type 0} {c : Choice F} {types : OfTypes} → TypesHave c types → RowsHave (typed c) (ByType types)
by_type {F} {c} {types} have = record { just = λ at ms f. (to at ms f, from at ms f) } where
  whole : (at : List Place) (ms : Members) (f : FieldFault) → RowsBreak (typed c) at ms f ↔ TypedBreak c at ms f
  whole = typed_breaks c

  to : (at : List Place) (ms : Members) (f : FieldFault) → RowsBreak (typed c) at ms f → ByType types at ms f
  to at ms f e = elim ((whole at ms f).0 e) [
    | inl h ↦ inl h
    | inr h ↦ inr (h.0, h.1, (have.just at h.0 ms f).0 h.2)
  ]

  from : (at : List Place) (ms : Members) (f : FieldFault) → ByType types at ms f → RowsBreak (typed c) at ms f
  from at ms f (inl h) = (whole at ms f).1 (inl h)
  from at ms f (inr h) = (whole at ms f).1 (inr (h.0, h.1, (have.just at h.0 ms f).1 h.2))

-- ---- the first fault of a message

pub message_has : {F : Type 0} {r : Table F} {rows : OfRows} → RowsHave r rows
    → (at : List Place) (t : Tree) (f : FieldFault) → Breaks (message r) at t f ↔ OfMessage rows at t f
message_has {F} {r} {rows} have at t f = (to, from) where
  whole : Breaks (message r) at t f ↔ MessageBreaks r at t f
  whole = message_breaks r at t f

  to : Breaks (message r) at t f → OfMessage rows at t f
  to e = elim (whole.0 e) [
    | inl h ↦ inl h
    | inr h ↦ inr (h.0, h.1, (have.just at h.0 f).0 h.2)
  ]

  from : OfMessage rows at t f → Breaks (message r) at t f
  from (inl h) = whole.1 (inl h)
  from (inr h) = whole.1 (inr (h.0, h.1, (have.just at h.0 f).1 h.2))

pub layout_has : {V : Type 0} {rows : OfRows} (l : Layout V) → RowsHave l.rows.table rows
    → (at : List Place) (t : Tree) (f : FieldFault) → Breaks (kind_of l) at t f ↔ OfMessage rows at t f
layout_has l have = message_has (mapped_have l.to l.from have)
