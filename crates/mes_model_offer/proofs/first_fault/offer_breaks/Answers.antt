use Rattle.std.specs.Prelude.{codes}
use Rattle.mes_model_schema.specs.Leaves.{texts}
use Rattle.mes_model_schema.specs.KindLaws.{lawful_texts}
use Rattle.mes_model_schema.proofs.FirstRows.{no_rows_have, need_then, maybe_then, list_then, layout_has}
use Rattle.mes_model_resource.specs.Ids.{id, lawful_id}
use Rattle.mes_model_resource.specs.Reservations.{allocation, lawful_allocation}
use Rattle.mes_model_resource.specs.Resources.{resource, lawful_resource}
use Rattle.mes_model_offer.specs.Attributes.{attribute, lawful_attribute}
use Rattle.mes_model_offer.specs.Offers.{offer, offer_layout}
use Rattle.mes_model_offer.proofs.first_fault.offer_breaks.Goals as goal

pub returns : goal.returns
unfolding offer
returns c =
    layout_has offer_layout (
    need_then (codes "id") id lawful_id (
    need_then (codes "framework_id") id lawful_id (
    need_then (codes "agent_id") id lawful_id (
    need_then (codes "hostname") texts lawful_texts (
    list_then (codes "resources") resource lawful_resource (
    list_then (codes "attributes") attribute lawful_attribute (
    list_then (codes "executor_ids") id lawful_id (maybe_then (codes "allocation_info") allocation lawful_allocation no_rows_have)
    )
    )
    )
    )
    )
    )
    )
