-- The events that a test master sends without a call: the event and the new state, or the refusal.
use Rattle.std.specs.Prelude.{ℕ, if◌then◌else◌, List, [], ◌∷◌, ◌++◌, slice_get, Option, Some, None, is_some, Result, Ok, Err}
use Rattle.indexmap.specs.IndexMap.{insert_entry}
use Rattle.mes_model.specs.Id.{Id}
use Rattle.mes_model.specs.Offer.{Offer}
use Rattle.mes_model.specs.OwedKey.{OwedKey}
use Rattle.mes_model.specs.TaskStatus.{TaskStatus}
use Rattle.mes_model.specs.Owed.{owed_key_of}
use Rattle.mes_msg.specs.Event.{Event}
use Rattle.mes_msg.specs.Event.TheVariants as event
use Rattle.mes_session_state.specs.Held.{with_offers, without_offer}
pub use Rattle.mes_double_master_state.specs.Ids.{offer_ids, is_duplicate}
pub use Rattle.mes_double_master_state.specs.Updates.{waiting}
use Rattle.mes_double_master.specs.declared.refusal.MasterRefusal.{MasterRefusal}
use Rattle.mes_double_master.specs.declared.refusal.MasterRefusal.TheVariants.{NoStream, OfferTwice, NoSuchOffer, UpdateTwice, NoSuchUpdate}
use Rattle.mes_double_master.specs.Masters.{MasterState, same_id, is_there, has_update, update_event}

-- an event and the new state of its master, or a refusal
abbrev pub Sends : Type 0
Sends = Result (Event × MasterState) MasterRefusal

-- an event is sent only if there is a current stream
abbrev pub on_stream : MasterState → Sends → Sends
on_stream m sends = if is_some m.stream then sends else Err NoStream

abbrev pub made : MasterState → List Offer → Event × MasterState
made m offers = (event.Offers offers, record m { offered = m.offered ++ offer_ids offers; outstanding = with_offers m.outstanding offers })

abbrev pub offers_sent : MasterState → List Offer → Sends
offers_sent m offers = on_stream m (if is_duplicate m.offered (offer_ids offers) then Err OfferTwice else Ok (made m offers))

abbrev pub rescind_sent : MasterState → List ℕ → Sends
rescind_sent m name = on_stream m (
    let id : Id = record { value = name } in
    if is_there m.outstanding id
    then Ok (event.Rescind (record { offer_id = id }), record m { outstanding = without_offer name m.outstanding })
    else Err NoSuchOffer
    )

-- the state of a master after `status`, which becomes the last status of its task
abbrev pub reported : MasterState → TaskStatus → MasterState
reported m status = record m { latest = insert_entry same_id m.latest status.task_id status }

abbrev pub reported_unacknowledged : MasterState → OwedKey → TaskStatus → MasterState
reported_unacknowledged m key status = record (reported m status) { owing = m.owing ++ (key, status) ∷ [] }

abbrev pub updated : MasterState → TaskStatus → Option OwedKey → Sends
updated m status None = Ok (update_event status, reported m status)
updated m status (Some key) = if has_update m.owing key then Err UpdateTwice else Ok (update_event status, reported_unacknowledged m key status)

abbrev pub update_sent : MasterState → TaskStatus → Sends
update_sent m status = on_stream m (updated m status (owed_key_of status))

abbrev pub resent : MasterState → Option (OwedKey × TaskStatus) → Sends
resent m None = Err NoSuchUpdate
resent m (Some e) = Ok (update_event e.1, m)

abbrev pub resend_sent : MasterState → ℕ → Sends
resend_sent m i = on_stream m (resent m (slice_get (waiting m.owing m.acked) i))
