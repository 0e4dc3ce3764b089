use Rattle.std.specs.Prelude.{codes}
use Rattle.mes_model_schema.proofs.FirstRows.{no_rows_have, one_need, mapped_have, type_then, any_type, by_type, message_has}
use Rattle.mes_msg_event_body.specs.Bodies.{subscribed, rescind, update, failure, error_body}
use Rattle.mes_msg_event_body.specs.EventNames.{event_names}
use Rattle.mes_msg_event_body.specs.Offers.{offers}
use Rattle.mes_msg_record.specs.Messages.{message_body}
use Rattle.mes_msg_event.specs.Events.{to_event, from_event, event}
use Rattle.mes_msg_event.proofs.first_fault.event_breaks.Goals as goal

pub returns : goal.returns
unfolding event
returns c =
    message_has (
    mapped_have to_event from_event (
    by_type (
    type_then (codes "SUBSCRIBED") (one_need (codes "subscribed") subscribed) (
    type_then (codes "OFFERS") (one_need (codes "offers") offers) (
    type_then (codes "RESCIND") (one_need (codes "rescind") rescind) (
    type_then (codes "UPDATE") (one_need (codes "update") update) (
    type_then (codes "MESSAGE") (one_need (codes "message") message_body) (
    type_then (codes "FAILURE") (one_need (codes "failure") failure) (
    type_then (codes "ERROR") (one_need (codes "error") error_body) (type_then (codes "HEARTBEAT") no_rows_have (any_type event_names))
    )
    )
    )
    )
    )
    )
    )
    )
    )
