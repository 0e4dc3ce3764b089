-- The description of a framework.
use Rattle.std.specs.Prelude.{codes}
use Rattle.std.proofs.Common.{refl}
use Rattle.mes_model_schema.specs.Kinds.{Kind, Lawful, Returns}
use Rattle.mes_model_schema.specs.Leaves.{texts, booleans}
use Rattle.mes_model_schema.specs.Numbers.{fixed}
use Rattle.mes_model_schema.specs.NumberLaws.{lawful_fixed}
use Rattle.mes_model_schema.specs.Layouts.{Layout, needs, may_have, lists, no_more, ◌⨾⨾◌, laid_out, kind_of, lawful_kind, returns_kind}
use Rattle.mes_model_schema.specs.KindLaws.{lawful_texts, lawful_booleans}
use Rattle.mes_model_resource.specs.Ids.{id, lawful_id}
use Rattle.mes_model.specs.declared.framework_info.Capability.{Capability}
use Rattle.mes_model.specs.declared.framework_info.FrameworkInfo.{FrameworkInfo}

-- the members of a capability; type: optional
abbrev pub capability_layout : Layout Capability
capability_layout =
    laid_out (
    may_have (codes "type") texts lawful_texts
    ⨾⨾ no_more
    ) (λ x. record { kind = x.0 }) (λ v. (v.kind, tt)) (λ v. refl)

unfoldable pub capability : Kind Capability
capability = kind_of capability_layout

pub lawful_capability : Lawful capability capability_layout.rows.steps
unfolding capability
lawful_capability = lawful_kind capability_layout refl

pub capability_back : (v : Capability) → capability_layout.rows.table.Back (capability_layout.from v) → Returns capability v
unfolding capability
capability_back v back = returns_kind capability_layout refl v back

-- the members of a framework; user, name: required; roles, capabilities: lists; others: optional;
-- failover_timeout: rounded to millionths
abbrev pub framework_info_layout : Layout FrameworkInfo
framework_info_layout =
    laid_out (
    needs (codes "user") texts lawful_texts
    ⨾⨾ needs (codes "name") texts lawful_texts
    ⨾⨾ may_have (codes "id") id lawful_id
    ⨾⨾ may_have (codes "failover_timeout") (fixed 6) (lawful_fixed 6)
    ⨾⨾ may_have (codes "checkpoint") booleans lawful_booleans
    ⨾⨾ lists (codes "roles") texts lawful_texts
    ⨾⨾ may_have (codes "hostname") texts lawful_texts
    ⨾⨾ may_have (codes "principal") texts lawful_texts
    ⨾⨾ lists (codes "capabilities") capability lawful_capability
    ⨾⨾ no_more
    ) (λ x. record {
      user = x.0;
      name = x.1.0;
      id = x.1.1.0;
      failover_timeout = x.1.1.1.0;
      checkpoint = x.1.1.1.1.0;
      roles = x.1.1.1.1.1.0;
      hostname = x.1.1.1.1.1.1.0;
      principal = x.1.1.1.1.1.1.1.0;
      capabilities = x.1.1.1.1.1.1.1.1.0;
    }) (λ v. (v.user, (v.name, (v.id, (v.failover_timeout, (v.checkpoint, (v.roles, (v.hostname, (v.principal, (v.capabilities, tt)))))))))) (λ v. refl)

unfoldable pub framework_info : Kind FrameworkInfo
framework_info = kind_of framework_info_layout

pub lawful_framework_info : Lawful framework_info framework_info_layout.rows.steps
unfolding framework_info
lawful_framework_info = lawful_kind framework_info_layout refl

pub framework_info_back : (v : FrameworkInfo) → framework_info_layout.rows.table.Back (framework_info_layout.from v) → Returns framework_info v
unfolding framework_info
framework_info_back v back = returns_kind framework_info_layout refl v back
