-- The first fault of an event, member by member in the order of its table.
use Rattle.std.specs.Prelude.{codes}
use Rattle.mes_model_schema.specs.FirstFaults.{NeedBreaks}
use Rattle.mes_model_schema.specs.FirstRows.{OfRows, NoRows, TypeThen, AnyType, ByType}
use Rattle.mes_msg_event_body.specs.Bodies.{subscribed, rescind, update, failure, error_body}
use Rattle.mes_msg_event_body.specs.Offers.{offers}
use Rattle.mes_msg_record.specs.Messages.{message_body}

-- the first fault of the members; type: required, with the body of that type; an event of another
-- type has no further fault
abbrev pub OfEvent : OfRows
OfEvent =
    ByType (
    TypeThen (codes "SUBSCRIBED") (NeedBreaks subscribed (codes "subscribed")) (
    TypeThen (codes "OFFERS") (NeedBreaks offers (codes "offers")) (
    TypeThen (codes "RESCIND") (NeedBreaks rescind (codes "rescind")) (
    TypeThen (codes "UPDATE") (NeedBreaks update (codes "update")) (
    TypeThen (codes "MESSAGE") (NeedBreaks message_body (codes "message")) (
    TypeThen (codes "FAILURE") (NeedBreaks failure (codes "failure")) (
    TypeThen (codes "ERROR") (NeedBreaks error_body (codes "error")) (
    TypeThen (codes "HEARTBEAT") NoRows (
    AnyType
    )
    )
    )
    )
    )
    )
    )
    )
    )
