-- The events of one stream: which of the given events are sent, and which event may follow others.
use Rattle.std.specs.Prelude.{◌≡◌, ◌⊎◌, Bool, true, false, List, [], ◌∷◌, ◌++◌, Option, Some, None}
use Rattle.std.specs.List.{flat_map, list_any}
use Rattle.mes_model.specs.Id.{Id}
use Rattle.mes_model.specs.OwedKey.{OwedKey}
use Rattle.mes_model.specs.TaskStatus.{TaskStatus}
use Rattle.mes_model.specs.Owed.{owed_key_of}
use Rattle.mes_msg.specs.Event.{Event}
use Rattle.mes_msg.specs.Event.TheVariants as event
use Rattle.mes_double_master.specs.Masters.{MasterState, same_id, has_update, subscribed_event}
use Rattle.mes_double_master.specs.Sending.{offer_ids, is_duplicate}
use Rattle.mesosev_serve.specs.declared.response.Reply.{Reply}
use Rattle.mesosev_serve.specs.declared.response.Reply.TheVariants.{Stream}

-- `part` has some events of `whole` in the same order, each at most once
abbrev pub IsSublist : List Event → List Event → Type 0
IsSublist part [] = part ≡ []
IsSublist part (e ∷ whole) = IsSublist part whole ⊎ ((rest : List Event) × (part ≡ e ∷ rest) × IsSublist rest whole)

-- ---- the offers, rescinded offers and updates of the events of a stream

-- the identifiers of the offers that an event makes
abbrev pub offers_by : Event → List Id
offers_by (event.Offers offers) = offer_ids offers
offers_by _ = []

abbrev pub offered_in : List Event → List Id
offered_in events = flat_map offers_by events

-- the identifier of the offer that an event rescinds
abbrev pub rescinds_by : Event → List Id
rescinds_by (event.Rescind body) = body.offer_id ∷ []
rescinds_by _ = []

abbrev pub rescinded_in : List Event → List Id
rescinded_in events = flat_map rescinds_by events

abbrev pub owing_of : TaskStatus → Option OwedKey → List (OwedKey × TaskStatus)
owing_of status None = []
owing_of status (Some key) = (key, status) ∷ []

-- the update of an event, if it requires an acknowledgement
abbrev pub owing_by : Event → List (OwedKey × TaskStatus)
owing_by (event.Update body) = owing_of body.status (owed_key_of body.status)
owing_by _ = []

abbrev pub owing_in : List Event → List (OwedKey × TaskStatus)
owing_in events = flat_map owing_by events

abbrev pub rescind_of : Id → Event
rescind_of id = event.Rescind (record { offer_id = id })

-- ---- which event may follow the events before it

abbrev pub is_among : Id → List Id → Bool
is_among d ids = list_any (same_id d) ids

-- no update in the list requires the acknowledgement with the given key
abbrev pub IsNewUpdate : List (OwedKey × TaskStatus) → Option OwedKey → Type 0
IsNewUpdate owing None = Unit {0}
IsNewUpdate owing (Some key) = has_update owing key ≡ false

-- The event may follow the events `front` on a stream; m is the state of the master before the
-- stream. There is no second SUBSCRIBED; offers are new; a RESCIND names an offer of this stream
-- that is not rescinded yet; an UPDATE that requires an acknowledgement is new.
abbrev pub MayFollow : MasterState → List Event → Event → Type 0
MayFollow m front (event.Subscribed body) = ⊥
MayFollow m front (event.Offers offers) = is_duplicate (m.offered ++ offered_in front) (offer_ids offers) ≡ false
MayFollow m front (event.Rescind body) = (is_among body.offer_id (offered_in front) ≡ true) × (is_among body.offer_id (rescinded_in front) ≡ false)
MayFollow m front (event.Update body) = IsNewUpdate (m.owing ++ owing_in front) (owed_key_of body.status)
MayFollow m front _ = Unit {0}

-- each of the events may follow `front` and the events before it
abbrev pub AllFollow : MasterState → List Event → List Event → Type 0
AllFollow m front [] = Unit {0}
AllFollow m front (e ∷ events) = MayFollow m front e × AllFollow m (front ++ e ∷ []) events

-- ---- the events of a whole stream

-- The stream is SUBSCRIBED, then some of the given events in order, each at most once, and each may
-- follow those before it.
pub record IsOneStream (m : MasterState) (given events : List Event) : Type 0 where
  pub rest : List Event
  pub begins : events ≡ subscribed_event m.framework m.interval ∷ rest
  pub some : IsSublist rest given
  pub follow : AllFollow m [] rest

-- `IsOneStream` for the stream of a response; true without a stream
abbrev pub IsStreamReply : MasterState → List Event → Reply → Type 0
IsStreamReply m given (Stream id events) = IsOneStream m given events
IsStreamReply m given _ = Unit {0}
