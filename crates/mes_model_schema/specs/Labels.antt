-- Label and Labels of mesos.proto.
use Rattle.std.specs.Prelude.{List, codes}
use Rattle.std.proofs.Common.{refl}
use Rattle.mes_model_schema.specs.Kinds.{Kind, Lawful, Returns}
use Rattle.mes_model_schema.specs.Leaves.{texts}
use Rattle.mes_model_schema.specs.KindLaws.{lawful_texts}
use Rattle.mes_model_schema.specs.Layouts.{Layout, needs, may_have, lists, no_more, ◌⨾⨾◌, laid_out, kind_of, lawful_kind, returns_kind}
use Rattle.mes_model_schema.specs.declared.label.Label.{Label}

-- the members of a label; key: required; value: optional
abbrev pub label_layout : Layout Label
label_layout =
    laid_out (
    needs (codes "key") texts lawful_texts
    ⨾⨾ may_have (codes "value") texts lawful_texts
    ⨾⨾ no_more
    ) (λ x. record { key = x.0; value = x.1.0 }) (λ v. (v.key, (v.value, tt))) (λ v. refl)

unfoldable pub label : Kind Label
label = kind_of label_layout

pub lawful_label : Lawful label label_layout.rows.steps
unfolding label
lawful_label = lawful_kind label_layout refl

pub label_back : (v : Label) → label_layout.rows.table.Back (label_layout.from v) → Returns label v
unfolding label
label_back v back = returns_kind label_layout refl v back

-- the member of Labels; labels: a list
abbrev pub labels_layout : Layout (List Label)
labels_layout = laid_out (lists (codes "labels") label lawful_label ⨾⨾ no_more) (λ x. x.0) (λ v. (v, tt)) (λ v. refl)

unfoldable pub labels : Kind (List Label)
labels = kind_of labels_layout

pub lawful_labels : Lawful labels labels_layout.rows.steps
unfolding labels
lawful_labels = lawful_kind labels_layout refl

pub labels_back : (v : List Label) → labels_layout.rows.table.Back (labels_layout.from v) → Returns labels v
unfolding labels
labels_back v back = returns_kind labels_layout refl v back
