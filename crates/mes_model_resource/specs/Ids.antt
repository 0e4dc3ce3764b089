-- Identifiers of offers, frameworks, agents, executors, tasks and resource providers.
use Rattle.std.specs.Prelude.{codes}
use Rattle.std.proofs.Common.{refl}
use Rattle.mes_model_schema.specs.Kinds.{Kind, Lawful, Returns}
use Rattle.mes_model_schema.specs.Leaves.{texts}
use Rattle.mes_model_schema.specs.Layouts.{Layout, needs, no_more, ◌⨾⨾◌, laid_out, kind_of, lawful_kind, returns_kind}
use Rattle.mes_model_schema.specs.KindLaws.{lawful_texts}
use Rattle.mes_model_resource.specs.declared.id.Id.{Id}

-- the members of an identifier; value: required
abbrev pub id_layout : Layout Id
id_layout =
    laid_out (
    needs (codes "value") texts lawful_texts
    ⨾⨾ no_more
    ) (λ x. record { value = x.0 }) (λ v. (v.value, tt)) (λ v. refl)

unfoldable pub id : Kind Id
id = kind_of id_layout

pub lawful_id : Lawful id id_layout.rows.steps
unfolding id
lawful_id = lawful_kind id_layout refl

pub id_back : (v : Id) → id_layout.rows.table.Back (id_layout.from v) → Returns id v
unfolding id
id_back v back = returns_kind id_layout refl v back
