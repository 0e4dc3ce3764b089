-- The values of resources and attributes.
use Rattle.std.specs.Prelude.{codes}
use Rattle.std.proofs.Common.{refl}
use Rattle.mes_model_schema.specs.Kinds.{Kind, Lawful, Returns}
use Rattle.mes_model_schema.specs.Leaves.{texts}
use Rattle.mes_model_schema.specs.Numbers.{whole, fixed}
use Rattle.mes_model_schema.specs.NumberLaws.{lawful_whole, lawful_fixed}
use Rattle.mes_model_schema.specs.Layouts.{Layout, needs, lists, no_more, ◌⨾⨾◌, laid_out, kind_of, lawful_kind, returns_kind}
use Rattle.mes_model_schema.specs.KindLaws.{lawful_texts}
use Rattle.mes_model_resource.specs.declared.value.Scalar.{Scalar}
use Rattle.mes_model_resource.specs.declared.value.Range.{Range}
use Rattle.mes_model_resource.specs.declared.value.Ranges.{Ranges}
use Rattle.mes_model_resource.specs.declared.value.Set.{Set}

-- the members of a scalar; value: required, rounded to thousandths
abbrev pub scalar_layout : Layout Scalar
scalar_layout =
    laid_out (
    needs (codes "value") (fixed 3) (lawful_fixed 3)
    ⨾⨾ no_more
    ) (λ x. record { value = x.0 }) (λ v. (v.value, tt)) (λ v. refl)

unfoldable pub scalar : Kind Scalar
scalar = kind_of scalar_layout

pub lawful_scalar : Lawful scalar scalar_layout.rows.steps
unfolding scalar
lawful_scalar = lawful_kind scalar_layout refl

pub scalar_back : (v : Scalar) → scalar_layout.rows.table.Back (scalar_layout.from v) → Returns scalar v
unfolding scalar
scalar_back v back = returns_kind scalar_layout refl v back

-- the members of a range; begin, end: required
abbrev pub range_layout : Layout Range
range_layout =
    laid_out (
    needs (codes "begin") whole lawful_whole
    ⨾⨾ needs (codes "end") whole lawful_whole
    ⨾⨾ no_more
    ) (λ x. record { first = x.0; last = x.1.0 }) (λ v. (v.first, (v.last, tt))) (λ v. refl)

unfoldable pub range : Kind Range
range = kind_of range_layout

pub lawful_range : Lawful range range_layout.rows.steps
unfolding range
lawful_range = lawful_kind range_layout refl

pub range_back : (v : Range) → range_layout.rows.table.Back (range_layout.from v) → Returns range v
unfolding range
range_back v back = returns_kind range_layout refl v back

-- the members of ranges; range: a list
abbrev pub ranges_layout : Layout Ranges
ranges_layout =
    laid_out (
    lists (codes "range") range lawful_range
    ⨾⨾ no_more
    ) (λ x. record { range = x.0 }) (λ v. (v.range, tt)) (λ v. refl)

unfoldable pub ranges : Kind Ranges
ranges = kind_of ranges_layout

pub lawful_ranges : Lawful ranges ranges_layout.rows.steps
unfolding ranges
lawful_ranges = lawful_kind ranges_layout refl

pub ranges_back : (v : Ranges) → ranges_layout.rows.table.Back (ranges_layout.from v) → Returns ranges v
unfolding ranges
ranges_back v back = returns_kind ranges_layout refl v back

-- the members of a set; item: a list
abbrev pub set_layout : Layout Set
set_layout =
    laid_out (
    lists (codes "item") texts lawful_texts
    ⨾⨾ no_more
    ) (λ x. record { item = x.0 }) (λ v. (v.item, tt)) (λ v. refl)

unfoldable pub set : Kind Set
set = kind_of set_layout

pub lawful_set : Lawful set set_layout.rows.steps
unfolding set
lawful_set = lawful_kind set_layout refl

pub set_back : (v : Set) → set_layout.rows.table.Back (set_layout.from v) → Returns set v
unfolding set
set_back v back = returns_kind set_layout refl v back
