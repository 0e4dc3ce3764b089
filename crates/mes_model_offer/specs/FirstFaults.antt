-- The first faults of an attribute and of an offer, member by member in the order of their tables.
use Rattle.std.specs.Prelude.{codes}
use Rattle.mes_model_schema.specs.Leaves.{texts}
use Rattle.mes_model_schema.specs.FirstFaults.{NeedBreaks}
use Rattle.mes_model_schema.specs.FirstRows.{OfRows, OfTypes, NoRows, Then, NeedThen, MaybeThen, ListThen, TypeThen, NoType, ByType}
use Rattle.mes_model_schema.specs.declared.field.FieldFaultKind.TheVariants.{UnknownName}
use Rattle.mes_model_resource.specs.Ids.{id}
use Rattle.mes_model_resource.specs.Reservations.{allocation}
use Rattle.mes_model_resource.specs.Resources.{resource}
use Rattle.mes_model_resource.specs.Values.{scalar, ranges, set}
use Rattle.mes_model_offer.specs.Attributes.{attribute, attribute_value_rows}
use Rattle.mes_model_offer.specs.TextValues.{text_value}

-- the first fault of the value; type: SCALAR, RANGES, SET or TEXT, each with the required member of
-- that name in lower case; another type is UnknownName
abbrev pub OfValues : OfTypes
OfValues =
    TypeThen (codes "SCALAR") (NeedBreaks scalar (codes "scalar")) (
    TypeThen (codes "RANGES") (NeedBreaks ranges (codes "ranges")) (
    TypeThen (codes "SET") (NeedBreaks set (codes "set")) (
    TypeThen (codes "TEXT") (NeedBreaks text_value (codes "text")) (
    NoType UnknownName
    )
    )
    )
    )

-- the first fault of an attribute; name and the members of the value: required
abbrev pub OfAttribute : OfRows
OfAttribute =
    NeedThen (codes "name") texts (
    Then attribute_value_rows (ByType OfValues) (
    NoRows
    )
    )

-- the first fault of an offer; resources, attributes, executor_ids: lists; allocation_info:
-- optional; others: required
abbrev pub OfOffer : OfRows
OfOffer =
    NeedThen (codes "id") id (
    NeedThen (codes "framework_id") id (
    NeedThen (codes "agent_id") id (
    NeedThen (codes "hostname") texts (
    ListThen (codes "resources") resource (
    ListThen (codes "attributes") attribute (
    ListThen (codes "executor_ids") id (
    MaybeThen (codes "allocation_info") allocation (
    NoRows
    )
    )
    )
    )
    )
    )
    )
    )
