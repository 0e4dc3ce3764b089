-- An offer of the resources of an agent to a framework.
use Rattle.std.specs.Prelude.{codes}
use Rattle.std.proofs.Common.{refl}
use Rattle.mes_model_schema.specs.Kinds.{Kind, Lawful, Returns}
use Rattle.mes_model_schema.specs.Leaves.{texts}
use Rattle.mes_model_schema.specs.Layouts.{Layout, needs, may_have, lists, no_more, ◌⨾⨾◌, laid_out, kind_of, lawful_kind, returns_kind}
use Rattle.mes_model_schema.specs.KindLaws.{lawful_texts}
use Rattle.mes_model_resource.specs.Ids.{id, lawful_id}
use Rattle.mes_model_resource.specs.Reservations.{allocation, lawful_allocation}
use Rattle.mes_model_resource.specs.Resources.{resource, lawful_resource}
use Rattle.mes_model_offer.specs.Attributes.{attribute, lawful_attribute}
use Rattle.mes_model_offer.specs.declared.offer.Offer.{Offer}

-- the members of an offer; resources, attributes, executor_ids: lists; allocation_info: optional;
-- others: required
abbrev pub offer_layout : Layout Offer
offer_layout =
    laid_out (
    needs (codes "id") id lawful_id
    ⨾⨾ needs (codes "framework_id") id lawful_id
    ⨾⨾ needs (codes "agent_id") id lawful_id
    ⨾⨾ needs (codes "hostname") texts lawful_texts
    ⨾⨾ lists (codes "resources") resource lawful_resource
    ⨾⨾ lists (codes "attributes") attribute lawful_attribute
    ⨾⨾ lists (codes "executor_ids") id lawful_id
    ⨾⨾ may_have (codes "allocation_info") allocation lawful_allocation
    ⨾⨾ no_more
    ) (λ x. record {
      id = x.0;
      framework_id = x.1.0;
      agent_id = x.1.1.0;
      hostname = x.1.1.1.0;
      resources = x.1.1.1.1.0;
      attributes = x.1.1.1.1.1.0;
      executor_ids = x.1.1.1.1.1.1.0;
      allocation_info = x.1.1.1.1.1.1.1.0;
    }) (λ v. (v.id, (v.framework_id, (v.agent_id, (v.hostname, (v.resources, (v.attributes, (v.executor_ids, (v.allocation_info, tt))))))))) (λ v. refl)

unfoldable pub offer : Kind Offer
offer = kind_of offer_layout

pub lawful_offer : Lawful offer offer_layout.rows.steps
unfolding offer
lawful_offer = lawful_kind offer_layout refl

pub offer_back : (v : Offer) → offer_layout.rows.table.Back (offer_layout.from v) → Returns offer v
unfolding offer
offer_back v back = returns_kind offer_layout refl v back
