-- Lemmas: the first fault of a label is that of `key` or, if `key` has a value, of `value`.
use Rattle.std.proofs.Common.{◌≡◌, ◌⊎◌, inl, inr, ◌↔◌, List}
use Rattle.std.specs.Prelude.{codes}
use Rattle.mes_json.specs.Tree.{Tree, Members}
use Rattle.mes_json.specs.Tree.Tree.{object}
use Rattle.mes_model_schema.specs.Paths.{Place}
use Rattle.mes_model_schema.specs.Kinds.{Breaks}
use Rattle.mes_model_schema.specs.Leaves.{texts}
use Rattle.mes_model_schema.specs.Rows.{need, maybe, no_rows, ◌⨾◌, mapped}
use Rattle.mes_model_schema.specs.KindLaws.{lawful_texts}
use Rattle.mes_model_schema.specs.RowLaws.{lawful_need, lawful_maybe}
use Rattle.mes_model_schema.specs.Layouts.{kind_of}
use Rattle.mes_model_schema.specs.Labels.{label_layout, label}
use Rattle.mes_model_schema.specs.FirstFaults.{AreRead, IsObject, OtherKind, OptionalBreaks, NeedBreaks, RowsBreak, JoinedBreak, MessageBreaks}
use Rattle.mes_model_schema.proofs.RowFaults.{need_breaks, maybe_breaks, exact_rows, joined_breaks, mapped_breaks, message_breaks}
use Rattle.mes_model_schema.specs.declared.field.FieldFault.{FieldFault}

abbrev LabelRowsBreak : List Place → Members → FieldFault → Type 0
LabelRowsBreak at ms f = NeedBreaks texts (codes "key") at ms f ⊎ (AreRead (need (codes "key") texts) ms × OptionalBreaks texts (codes "value") at ms f)

label_rows_break : (at : List Place) (ms : Members) (f : FieldFault) → RowsBreak label_layout.rows.table at ms f ↔ LabelRowsBreak at ms f
label_rows_break at ms f = (to, from) where
  both : RowsBreak label_layout.rows.table at ms f ↔ JoinedBreak (need (codes "key") texts) (maybe (codes "value") texts ⨾ no_rows) at ms f
  both = joined_breaks (need (codes "key") texts) (maybe (codes "value") texts ⨾ no_rows) (exact_rows (lawful_need lawful_texts)) at ms f

  following : RowsBreak (maybe (codes "value") texts ⨾ no_rows) at ms f ↔ JoinedBreak (maybe (codes "value") texts) no_rows at ms f
  following = joined_breaks (maybe (codes "value") texts) no_rows (exact_rows (lawful_maybe lawful_texts)) at ms f

  to : RowsBreak label_layout.rows.table at ms f → LabelRowsBreak at ms f
  to e = elim (both.0 e) [
    | inl h ↦ inl ((need_breaks texts (codes "key") at ms f).0 h)
    | inr h ↦ elim (following.0 h.1) [
      | inl p ↦ inr (h.0, (maybe_breaks texts (codes "value") at ms f).0 p)
      | inr p ↦ let bad = p.1 in absurd (cc)
    ]
  ]

  from : LabelRowsBreak at ms f → RowsBreak label_layout.rows.table at ms f
  from (inl h) = both.1 (inl ((need_breaks texts (codes "key") at ms f).1 h))
  from (inr h) = both.1 (inr (h.0, following.1 (inl ((maybe_breaks texts (codes "value") at ms f).1 h.1))))

pub label_is_broken : (at : List Place) (t : Tree) (f : FieldFault)
    → Breaks label at t f ↔ OtherKind (IsObject t) at f ⊎ ((ms : Members) × (t ≡ object ms) × LabelRowsBreak at ms f)
unfolding label
label_is_broken at t f = ((λ e. to (whole.0 e)), (λ h. whole.1 (from h))) where
  whole : Breaks (kind_of label_layout) at t f ↔ MessageBreaks (mapped label_layout.rows.table label_layout.to label_layout.from) at t f
  whole = message_breaks (mapped label_layout.rows.table label_layout.to label_layout.from) at t f

  to : MessageBreaks (mapped label_layout.rows.table label_layout.to label_layout.from) at t f
      → OtherKind (IsObject t) at f ⊎ ((ms : Members) × (t ≡ object ms) × LabelRowsBreak at ms f)
  to (inl h) = inl h
  to (inr h) = inr (h.0, h.1, (label_rows_break at h.0 f).0 ((mapped_breaks label_layout.rows.table label_layout.to label_layout.from at h.0 f).0 h.2))

  from : OtherKind (IsObject t) at f ⊎ ((ms : Members) × (t ≡ object ms) × LabelRowsBreak at ms f)
      → MessageBreaks (mapped label_layout.rows.table label_layout.to label_layout.from) at t f
  from (inl h) = inl h
  from (inr h) = inr (h.0, h.1, (mapped_breaks label_layout.rows.table label_layout.to label_layout.from at h.0 f).1 ((label_rows_break at h.0 f).1 h.2))
