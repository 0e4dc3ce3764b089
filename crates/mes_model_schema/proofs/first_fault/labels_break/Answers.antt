use Rattle.std.specs.Prelude.{codes}
use Rattle.mes_model_schema.specs.Labels.{label, lawful_label, labels, labels_layout}
use Rattle.mes_model_schema.proofs.FirstRows.{no_rows_have, list_then, layout_has}
use Rattle.mes_model_schema.proofs.first_fault.labels_break.Goals as goal

pub returns : goal.returns
unfolding labels
returns c = layout_has labels_layout (list_then (codes "labels") label lawful_label no_rows_have)
