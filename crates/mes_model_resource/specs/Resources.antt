-- A resource of an agent: its name, its typed value, and its allocation and reservations.
use Rattle.std.specs.Prelude.{◌≡◌, ◌⊎◌, ℕ, List, [], ◌∷◌, codes}
use Rattle.std.proofs.Common.{inl, inr, refl}
use Rattle.mes_model_schema.specs.Kinds.{Kind, Lawful, Returns}
use Rattle.mes_model_schema.specs.Leaves.{texts, objects}
use Rattle.mes_model_schema.specs.Rows.{Table, need, mapped}
use Rattle.mes_model_schema.specs.Layouts.{Layout, needs, may_have, lists, flags, rows_of, no_more, ◌⨾⨾◌, laid_out, kind_of, lawful_kind, returns_kind}
use Rattle.mes_model_schema.specs.Choices.{no_other, case, typed}
use Rattle.mes_model_schema.specs.KindLaws.{lawful_texts, lawful_objects}
use Rattle.mes_model_schema.specs.RowLaws.{LawfulTable, lawful_need}
use Rattle.mes_model_schema.specs.MessageLaws.{lawful_mapped}
use Rattle.mes_model_schema.specs.ChoiceLaws.{lawful_no_other, lawful_case, lawful_typed}
use Rattle.mes_model_schema.specs.declared.field.FieldFaultKind.TheVariants.{UnknownName}
use Rattle.mes_model_resource.specs.Ids.{id, lawful_id}
use Rattle.mes_model_resource.specs.Reservations.{allocation, reservation, lawful_allocation, lawful_reservation}
use Rattle.mes_model_resource.specs.Values.{scalar, ranges, set, lawful_scalar, lawful_ranges, lawful_set}
use Rattle.mes_model_resource.specs.declared.value.Scalar.{Scalar}
use Rattle.mes_model_resource.specs.declared.value.Ranges.{Ranges}
use Rattle.mes_model_resource.specs.declared.value.Set.{Set}
use Rattle.mes_model_resource.specs.declared.resource.ResourceValue.{ResourceValue}
use Rattle.mes_model_resource.specs.declared.resource.ResourceValue.TheVariants.{Scalar as OfScalar, Ranges as OfRanges, Set as OfSet}
use Rattle.mes_model_resource.specs.declared.resource.Resource.{Resource}

-- the value of a resource, from the value of one of its types
abbrev pub to_resource_value : Scalar ⊎ Ranges ⊎ Set ⊎ ⊥ → ResourceValue
to_resource_value (inl v) = OfScalar v
to_resource_value (inr (inl v)) = OfRanges v
to_resource_value (inr (inr (inl v))) = OfSet v
to_resource_value (inr (inr (inr v))) = absurd v

abbrev pub from_resource_value : ResourceValue → Scalar ⊎ Ranges ⊎ Set ⊎ ⊥
from_resource_value (OfScalar v) = inl v
from_resource_value (OfRanges v) = inr (inl v)
from_resource_value (OfSet v) = inr (inr (inl v))

-- the members of a resource's value; type: required; scalar, ranges or set: required by their type
abbrev pub resource_value_rows : Table ResourceValue
resource_value_rows =
    mapped (typed (
    case (codes "SCALAR") (need (codes "scalar") scalar) (
    case (codes "RANGES") (need (codes "ranges") ranges) (
    case (codes "SET") (need (codes "set") set) (
    no_other UnknownName
    )
    )
    )
    )) to_resource_value from_resource_value

-- the member names of a resource's value
abbrev pub resource_value_names : List (List ℕ)
resource_value_names = codes "type" ∷ codes "scalar" ∷ codes "ranges" ∷ codes "set" ∷ []

to_from_resource_value : (v : ResourceValue) → to_resource_value (from_resource_value v) ≡ v
to_from_resource_value (OfScalar v) = refl
to_from_resource_value (OfRanges v) = refl
to_from_resource_value (OfSet v) = refl

pub lawful_resource_value_rows : LawfulTable resource_value_rows 4
lawful_resource_value_rows =
    lawful_mapped _ _ (
    lawful_typed (lawful_need lawful_scalar) (lawful_case (lawful_need lawful_ranges) (lawful_case (lawful_need lawful_set) lawful_no_other)) refl
    ) to_from_resource_value

-- the members of a resource; name and those of the value: required; reservations: a list;
-- revocable and shared: flags; others: optional
abbrev pub resource_layout : Layout Resource
resource_layout =
    laid_out (
    needs (codes "name") texts lawful_texts
    ⨾⨾ rows_of resource_value_rows lawful_resource_value_rows
    ⨾⨾ may_have (codes "role") texts lawful_texts
    ⨾⨾ may_have (codes "allocation_info") allocation lawful_allocation
    ⨾⨾ may_have (codes "reservation") reservation lawful_reservation
    ⨾⨾ lists (codes "reservations") reservation lawful_reservation
    ⨾⨾ may_have (codes "disk") objects lawful_objects
    ⨾⨾ flags (codes "revocable")
    ⨾⨾ flags (codes "shared")
    ⨾⨾ may_have (codes "provider_id") id lawful_id
    ⨾⨾ no_more
    ) (λ x. record {
      name = x.0;
      value = x.1.0;
      role = x.1.1.0;
      allocation_info = x.1.1.1.0;
      reservation = x.1.1.1.1.0;
      reservations = x.1.1.1.1.1.0;
      disk = x.1.1.1.1.1.1.0;
      revocable = x.1.1.1.1.1.1.1.0;
      shared = x.1.1.1.1.1.1.1.1.0;
      provider_id = x.1.1.1.1.1.1.1.1.1.0;
    }) (λ v. (v.name, (v.value, (v.role, (v.allocation_info, (v.reservation, (v.reservations, (v.disk, (v.revocable, (v.shared, (v.provider_id, tt))))))))))) (λ v. refl)

unfoldable pub resource : Kind Resource
resource = kind_of resource_layout

pub lawful_resource : Lawful resource resource_layout.rows.steps
unfolding resource
lawful_resource = lawful_kind resource_layout refl

pub resource_back : (v : Resource) → resource_layout.rows.table.Back (resource_layout.from v) → Returns resource v
unfolding resource
resource_back v back = returns_kind resource_layout refl v back
