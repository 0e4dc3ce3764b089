use Rattle.std.specs.Prelude.{codes}
use Rattle.mes_model_schema.specs.Leaves.{texts, objects}
use Rattle.mes_model_schema.specs.KindLaws.{lawful_texts, lawful_objects}
use Rattle.mes_model_schema.specs.declared.field.FieldFaultKind.TheVariants.{UnknownName}
use Rattle.mes_model_schema.proofs.FirstRows.{no_rows_have, then_have, one_need, need_then, maybe_then, list_then, flag_then, mapped_have, type_then, no_type, by_type, layout_has}
use Rattle.mes_model_resource.specs.Ids.{id, lawful_id}
use Rattle.mes_model_resource.specs.Reservations.{allocation, reservation, lawful_allocation, lawful_reservation}
use Rattle.mes_model_resource.specs.Resources.{to_resource_value, from_resource_value, lawful_resource_value_rows, resource, resource_layout}
use Rattle.mes_model_resource.specs.Values.{scalar, ranges, set}
use Rattle.mes_model_resource.proofs.first_fault.resource_breaks.Goals as goal

pub returns : goal.returns
unfolding resource
returns c =
    layout_has resource_layout (
    need_then (codes "name") texts lawful_texts (
    then_have lawful_resource_value_rows (
    mapped_have to_resource_value from_resource_value (
    by_type (
    type_then (codes "SCALAR") (one_need (codes "scalar") scalar) (
    type_then (codes "RANGES") (one_need (codes "ranges") ranges) (type_then (codes "SET") (one_need (codes "set") set) (no_type UnknownName))
    )
    )
    )
    ) (
    maybe_then (codes "role") texts lawful_texts (
    maybe_then (codes "allocation_info") allocation lawful_allocation (
    maybe_then (codes "reservation") reservation lawful_reservation (
    list_then (codes "reservations") reservation lawful_reservation (
    maybe_then (codes "disk") objects lawful_objects (
    flag_then (codes "revocable") (flag_then (codes "shared") (maybe_then (codes "provider_id") id lawful_id no_rows_have))
    )
    )
    )
    )
    )
    )
    )
    )
