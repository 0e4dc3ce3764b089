-- A point in time.
use Rattle.std.specs.Prelude.{codes}
use Rattle.std.proofs.Common.{refl}
use Rattle.mes_model_schema.specs.Kinds.{Kind, Lawful, Returns}
use Rattle.mes_model_schema.specs.Numbers.{whole}
use Rattle.mes_model_schema.specs.NumberLaws.{lawful_whole}
use Rattle.mes_model_schema.specs.Layouts.{Layout, needs, no_more, ◌⨾⨾◌, laid_out, kind_of, lawful_kind, returns_kind}
use Rattle.mes_model_task.specs.declared.time_info.TimeInfo.{TimeInfo}

-- the members of a point in time; nanoseconds: required
abbrev pub time_info_layout : Layout TimeInfo
time_info_layout =
    laid_out (
    needs (codes "nanoseconds") whole lawful_whole
    ⨾⨾ no_more
    ) (λ x. record { nanoseconds = x.0 }) (λ v. (v.nanoseconds, tt)) (λ v. refl)

unfoldable pub time_info : Kind TimeInfo
time_info = kind_of time_info_layout

pub lawful_time_info : Lawful time_info time_info_layout.rows.steps
unfolding time_info
lawful_time_info = lawful_kind time_info_layout refl

pub time_info_back : (v : TimeInfo) → time_info_layout.rows.table.Back (time_info_layout.from v) → Returns time_info v
unfolding time_info
time_info_back v back = returns_kind time_info_layout refl v back
