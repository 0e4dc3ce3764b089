-- An attribute of an agent: its name and its typed value.
use Rattle.std.specs.Prelude.{◌≡◌, ◌⊎◌, ℕ, List, [], ◌∷◌, codes}
use Rattle.std.proofs.Common.{inl, inr, refl}
use Rattle.mes_model_schema.specs.Kinds.{Kind, Lawful, Returns}
use Rattle.mes_model_schema.specs.Leaves.{texts}
use Rattle.mes_model_schema.specs.Rows.{Table, need, mapped}
use Rattle.mes_model_schema.specs.Layouts.{Layout, needs, rows_of, no_more, ◌⨾⨾◌, laid_out, kind_of, lawful_kind, returns_kind}
use Rattle.mes_model_schema.specs.Choices.{no_other, case, typed}
use Rattle.mes_model_schema.specs.KindLaws.{lawful_texts}
use Rattle.mes_model_schema.specs.RowLaws.{LawfulTable, lawful_need}
use Rattle.mes_model_schema.specs.MessageLaws.{lawful_mapped}
use Rattle.mes_model_schema.specs.ChoiceLaws.{lawful_no_other, lawful_case, lawful_typed}
use Rattle.mes_model_schema.specs.declared.field.FieldFaultKind.TheVariants.{UnknownName}
use Rattle.mes_model_resource.specs.Values.{scalar, ranges, set, lawful_scalar, lawful_ranges, lawful_set}
use Rattle.mes_model_offer.specs.TextValues.{text_value, lawful_text_value}
use Rattle.mes_model_resource.specs.declared.value.Scalar.{Scalar}
use Rattle.mes_model_resource.specs.declared.value.Ranges.{Ranges}
use Rattle.mes_model_resource.specs.declared.value.Set.{Set}
use Rattle.mes_model_offer.specs.declared.text_value.TextValue.{TextValue}
use Rattle.mes_model_offer.specs.declared.attribute.AttributeValue.{AttributeValue}
use Rattle.mes_model_offer.specs.declared.attribute.AttributeValue.TheVariants.{Scalar as OfScalar, Ranges as OfRanges, Set as OfSet, Text as OfText}
use Rattle.mes_model_offer.specs.declared.attribute.Attribute.{Attribute}

-- the value of an attribute, from the value of one of its types
abbrev pub to_attribute_value : Scalar ⊎ Ranges ⊎ Set ⊎ TextValue ⊎ ⊥ → AttributeValue
to_attribute_value (inl v) = OfScalar v
to_attribute_value (inr (inl v)) = OfRanges v
to_attribute_value (inr (inr (inl v))) = OfSet v
to_attribute_value (inr (inr (inr (inl v)))) = OfText v
to_attribute_value (inr (inr (inr (inr v)))) = absurd v

abbrev pub from_attribute_value : AttributeValue → Scalar ⊎ Ranges ⊎ Set ⊎ TextValue ⊎ ⊥
from_attribute_value (OfScalar v) = inl v
from_attribute_value (OfRanges v) = inr (inl v)
from_attribute_value (OfSet v) = inr (inr (inl v))
from_attribute_value (OfText v) = inr (inr (inr (inl v)))

-- the members of an attribute's value; type: required; scalar, ranges, set or text: required by
-- their type
abbrev pub attribute_value_rows : Table AttributeValue
attribute_value_rows =
    mapped (typed (
    case (codes "SCALAR") (need (codes "scalar") scalar) (
    case (codes "RANGES") (need (codes "ranges") ranges) (
    case (codes "SET") (need (codes "set") set) (
    case (codes "TEXT") (need (codes "text") text_value) (
    no_other UnknownName
    )
    )
    )
    )
    )) to_attribute_value from_attribute_value

-- the member names of an attribute's value
abbrev pub attribute_value_names : List (List ℕ)
attribute_value_names = codes "type" ∷ codes "scalar" ∷ codes "ranges" ∷ codes "set" ∷ codes "text" ∷ []

to_from_attribute_value : (v : AttributeValue) → to_attribute_value (from_attribute_value v) ≡ v
to_from_attribute_value (OfScalar v) = refl
to_from_attribute_value (OfRanges v) = refl
to_from_attribute_value (OfSet v) = refl
to_from_attribute_value (OfText v) = refl

pub lawful_attribute_value_rows : LawfulTable attribute_value_rows 4
lawful_attribute_value_rows =
    lawful_mapped _ _ (
    lawful_typed (lawful_need lawful_scalar) (
    lawful_case (lawful_need lawful_ranges) (lawful_case (lawful_need lawful_set) (lawful_case (lawful_need lawful_text_value) lawful_no_other))
    ) refl
    ) to_from_attribute_value

-- the members of an attribute; name and those of the value: required
abbrev pub attribute_layout : Layout Attribute
attribute_layout =
    laid_out (
    needs (codes "name") texts lawful_texts
    ⨾⨾ rows_of attribute_value_rows lawful_attribute_value_rows
    ⨾⨾ no_more
    ) (λ x. record { name = x.0; value = x.1.0 }) (λ v. (v.name, (v.value, tt))) (λ v. refl)

unfoldable pub attribute : Kind Attribute
attribute = kind_of attribute_layout

pub lawful_attribute : Lawful attribute attribute_layout.rows.steps
unfolding attribute
lawful_attribute = lawful_kind attribute_layout refl

pub attribute_back : (v : Attribute) → attribute_layout.rows.table.Back (attribute_layout.from v) → Returns attribute v
unfolding attribute
attribute_back v back = returns_kind attribute_layout refl v back
