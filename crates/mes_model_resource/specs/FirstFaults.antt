-- The first fault of a resource, member by member in the order of its table.
use Rattle.std.specs.Prelude.{codes}
use Rattle.mes_model_schema.specs.Leaves.{texts, objects}
use Rattle.mes_model_schema.specs.FirstFaults.{NeedBreaks}
use Rattle.mes_model_schema.specs.FirstRows.{OfRows, OfTypes, NoRows, Then, NeedThen, MaybeThen, ListThen, FlagThen, TypeThen, NoType, ByType}
use Rattle.mes_model_schema.specs.declared.field.FieldFaultKind.TheVariants.{UnknownName}
use Rattle.mes_model_resource.specs.Ids.{id}
use Rattle.mes_model_resource.specs.Reservations.{allocation, reservation}
use Rattle.mes_model_resource.specs.Resources.{resource_value_rows}
use Rattle.mes_model_resource.specs.Values.{scalar, ranges, set}

-- the first fault of the value; type: SCALAR, RANGES or SET, each with the required member of that
-- name in lower case; another type is UnknownName
abbrev pub OfValues : OfTypes
OfValues =
    TypeThen (codes "SCALAR") (NeedBreaks scalar (codes "scalar")) (
    TypeThen (codes "RANGES") (NeedBreaks ranges (codes "ranges")) (
    TypeThen (codes "SET") (NeedBreaks set (codes "set")) (
    NoType UnknownName
    )
    )
    )

-- the first fault of the members; name and those of the value: required; reservations: a list;
-- revocable and shared: flags; others: optional
abbrev pub OfResource : OfRows
OfResource =
    NeedThen (codes "name") texts (
    Then resource_value_rows (ByType OfValues) (
    MaybeThen (codes "role") texts (
    MaybeThen (codes "allocation_info") allocation (
    MaybeThen (codes "reservation") reservation (
    ListThen (codes "reservations") reservation (
    MaybeThen (codes "disk") objects (
    FlagThen (codes "revocable") (
    FlagThen (codes "shared") (
    MaybeThen (codes "provider_id") id (
    NoRows
    )
    )
    )
    )
    )
    )
    )
    )
    )
    )
