-- Filters on offers, as in an ACCEPT or a DECLINE.
use Rattle.std.specs.Prelude.{codes}
use Rattle.std.proofs.Common.{refl}
use Rattle.mes_model_schema.specs.Kinds.{Kind, Lawful, Returns}
use Rattle.mes_model_schema.specs.Numbers.{fixed}
use Rattle.mes_model_schema.specs.NumberLaws.{lawful_fixed}
use Rattle.mes_model_schema.specs.Layouts.{Layout, may_have, no_more, ◌⨾⨾◌, laid_out, kind_of, lawful_kind, returns_kind}
use Rattle.mes_model.specs.declared.filters.Filters.{Filters}

-- the members of filters; refuse_seconds: optional, rounded to millionths
abbrev pub filters_layout : Layout Filters
filters_layout =
    laid_out (
    may_have (codes "refuse_seconds") (fixed 6) (lawful_fixed 6)
    ⨾⨾ no_more
    ) (λ x. record { refuse_seconds = x.0 }) (λ v. (v.refuse_seconds, tt)) (λ v. refl)

unfoldable pub filters : Kind Filters
filters = kind_of filters_layout

pub lawful_filters : Lawful filters filters_layout.rows.steps
unfolding filters
lawful_filters = lawful_kind filters_layout refl

pub filters_back : (v : Filters) → filters_layout.rows.table.Back (filters_layout.from v) → Returns filters v
unfolding filters
filters_back v back = returns_kind filters_layout refl v back
