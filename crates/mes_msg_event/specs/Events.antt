-- The events of the scheduler API in JSON as a table of members (scheduler.proto, `Event`).
use Rattle.std.specs.Prelude.{◌≡◌, ◌⊎◌, ℕ, List, [], ◌∷◌, codes}
use Rattle.std.proofs.Common.{inl, inr, refl}
use Rattle.mes_model_schema.specs.Kinds.{Kind, Lawful, Returns}
use Rattle.mes_model_schema.specs.Rows.{Table, need, no_rows, mapped, message}
use Rattle.mes_model_schema.specs.Choices.{others, case, typed}
use Rattle.mes_model_schema.specs.RowLaws.{LawfulTable, lawful_need}
use Rattle.mes_model_schema.specs.MessageLaws.{lawful_no_rows, lawful_mapped, lawful_message, message_returns}
use Rattle.mes_model_schema.specs.ChoiceLaws.{lawful_others, lawful_case, lawful_typed}
use Rattle.mes_msg_event_body.specs.Offer.{Offer}
use Rattle.mes_msg_event_body.specs.Bodies.{subscribed, rescind, update, failure, error_body, lawful_subscribed, lawful_rescind, lawful_update, lawful_failure, lawful_error_body}
use Rattle.mes_msg_event_body.specs.Offers.{offers, lawful_offers}
use Rattle.mes_msg_record.specs.Messages.{message_body, lawful_message_body}
use Rattle.mes_msg_event_body.specs.declared.subscribed.Subscribed.{Subscribed}
use Rattle.mes_msg_event_body.specs.declared.rescind.Rescind.{Rescind}
use Rattle.mes_msg_event_body.specs.declared.update.Update.{Update}
use Rattle.mes_msg_record.specs.declared.message.Message.{Message}
use Rattle.mes_msg_event_body.specs.declared.failure.Failure.{Failure}
use Rattle.mes_msg_event_body.specs.declared.error_body.ErrorBody.{ErrorBody}
use Rattle.mes_msg_event.specs.declared.event.Event.{Event}
use Rattle.mes_msg_event.specs.declared.event.Event.TheVariants as of
use Rattle.mes_msg_record.specs.declared.record.RecordFault.{RecordFault}
use Rattle.mes_msg_event_body.specs.EventNames.{event_names}
use Rattle.mes_msg_record.specs.Texts.{IsTextOf, IsFaultOf}

-- the body of an event: one alternative for each type
abbrev pub Body : Type 0
Body = Subscribed ⊎ List Offer ⊎ Rescind ⊎ Update ⊎ Message ⊎ Failure ⊎ ErrorBody ⊎ Unit {0} ⊎ List ℕ

abbrev pub to_event : Body → Event
to_event (inl v) = of.Subscribed v
to_event (inr (inl v)) = of.Offers v
to_event (inr (inr (inl v))) = of.Rescind v
to_event (inr (inr (inr (inl v)))) = of.Update v
to_event (inr (inr (inr (inr (inl v))))) = of.Message v
to_event (inr (inr (inr (inr (inr (inl v)))))) = of.Failure v
to_event (inr (inr (inr (inr (inr (inr (inl v))))))) = of.Error v
to_event (inr (inr (inr (inr (inr (inr (inr (inl v)))))))) = of.Heartbeat
to_event (inr (inr (inr (inr (inr (inr (inr (inr name)))))))) = of.Other name

abbrev pub from_event : Event → Body
from_event (of.Subscribed v) = inl v
from_event (of.Offers v) = inr (inl v)
from_event (of.Rescind v) = inr (inr (inl v))
from_event (of.Update v) = inr (inr (inr (inl v)))
from_event (of.Message v) = inr (inr (inr (inr (inl v))))
from_event (of.Failure v) = inr (inr (inr (inr (inr (inl v)))))
from_event (of.Error v) = inr (inr (inr (inr (inr (inr (inl v))))))
from_event of.Heartbeat = inr (inr (inr (inr (inr (inr (inr (inl tt)))))))
from_event (of.Other name) = inr (inr (inr (inr (inr (inr (inr (inr name)))))))

-- the members of an event; type: required, with the body of that type; of another type only the
-- name is read
abbrev pub event_rows : Table Event
event_rows =
    mapped (typed (
    case (codes "SUBSCRIBED") (need (codes "subscribed") subscribed) (
    case (codes "OFFERS") (need (codes "offers") offers) (
    case (codes "RESCIND") (need (codes "rescind") rescind) (
    case (codes "UPDATE") (need (codes "update") update) (
    case (codes "MESSAGE") (need (codes "message") message_body) (
    case (codes "FAILURE") (need (codes "failure") failure) (
    case (codes "ERROR") (need (codes "error") error_body) (
    case (codes "HEARTBEAT") no_rows (
    others event_names
    )
    )
    )
    )
    )
    )
    )
    )
    )) to_event from_event

-- the names of an event's members
abbrev pub event_members : List (List ℕ)
event_members =
    codes "type" ∷ codes "subscribed" ∷ codes "offers" ∷ codes "rescind" ∷ codes "update" ∷ codes "message" ∷ codes "failure" ∷ codes "error" ∷ []

unfoldable pub event : Kind Event
event = message event_rows

-- ---- the event or the fault of the bytes of a record

-- the bytes are a JSON text of the event
abbrev pub Spells : List ℕ → Event → Type 0
Spells b ev = IsTextOf event b ev

-- the fault of bytes that are not an event; `NoMemory` states nothing about the bytes
abbrev pub IsRecordFault : List ℕ → RecordFault → Type 0
IsRecordFault b f = IsFaultOf event b f

-- ---- the laws of the kind of events

to_from_event : (v : Event) → to_event (from_event v) ≡ v
to_from_event (of.Subscribed v) = refl
to_from_event (of.Offers v) = refl
to_from_event (of.Rescind v) = refl
to_from_event (of.Update v) = refl
to_from_event (of.Message v) = refl
to_from_event (of.Failure v) = refl
to_from_event (of.Error v) = refl
to_from_event of.Heartbeat = refl
to_from_event (of.Other name) = refl

pub lawful_event_rows : LawfulTable event_rows 11
lawful_event_rows =
    lawful_mapped _ _ (
    lawful_typed (lawful_need lawful_subscribed) (
    lawful_case (lawful_need lawful_offers) (
    lawful_case (lawful_need lawful_rescind) (
    lawful_case (lawful_need lawful_update) (
    lawful_case (lawful_need lawful_message_body) (
    lawful_case (lawful_need lawful_failure) (
    lawful_case (lawful_need lawful_error_body) (
    lawful_case lawful_no_rows (lawful_others event_names)
    )
    )
    )
    )
    )
    )
    ) refl
    ) to_from_event

pub lawful_event : Lawful event 11
unfolding event
lawful_event = lawful_message lawful_event_rows refl

pub event_back : (v : Event) → event_rows.Back v → Returns event v
unfolding event
event_back v back = message_returns lawful_event_rows refl v back
