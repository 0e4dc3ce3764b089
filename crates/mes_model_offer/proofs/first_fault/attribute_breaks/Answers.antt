use Rattle.std.specs.Prelude.{codes}
use Rattle.mes_model_schema.specs.Leaves.{texts}
use Rattle.mes_model_schema.specs.KindLaws.{lawful_texts}
use Rattle.mes_model_schema.specs.declared.field.FieldFaultKind.TheVariants.{UnknownName}
use Rattle.mes_model_schema.proofs.FirstRows.{no_rows_have, then_have, one_need, need_then, mapped_have, type_then, no_type, by_type, layout_has}
use Rattle.mes_model_resource.specs.Values.{scalar, ranges, set}
use Rattle.mes_model_offer.specs.Attributes.{to_attribute_value, from_attribute_value, lawful_attribute_value_rows, attribute, attribute_layout}
use Rattle.mes_model_offer.specs.TextValues.{text_value}
use Rattle.mes_model_offer.proofs.first_fault.attribute_breaks.Goals as goal

pub returns : goal.returns
unfolding attribute
returns c =
    layout_has attribute_layout (
    need_then (codes "name") texts lawful_texts (
    then_have lawful_attribute_value_rows (
    mapped_have to_attribute_value from_attribute_value (
    by_type (
    type_then (codes "SCALAR") (one_need (codes "scalar") scalar) (
    type_then (codes "RANGES") (one_need (codes "ranges") ranges) (
    type_then (codes "SET") (one_need (codes "set") set) (type_then (codes "TEXT") (one_need (codes "text") text_value) (no_type UnknownName))
    )
    )
    )
    )
    ) no_rows_have
    )
    )
