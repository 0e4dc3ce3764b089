-- The state of a test master, and its response to each call.
use Rattle.std.specs.Prelude.{◌≡◌, ℕ, Bool, true, false, ◌||◌, not, if◌then◌else◌, List, [], ◌∷◌, ◌++◌, length, map, filter, Option, Some, None, is_some}
use Rattle.std.specs.List.{list_all}
use Rattle.std.specs.Str.{bytes_eq}
use Rattle.uuid.specs.Text.{hyphenated_text, lower}
use Rattle.mes_model.specs.Id.{Id}
use Rattle.mes_model.specs.Offer.{Offer}
use Rattle.mes_model.specs.OwedKey.{OwedKey}
use Rattle.mes_model.specs.TaskInfo.{TaskInfo}
use Rattle.mes_model.specs.TaskRef.{TaskRef}
use Rattle.mes_model.specs.TaskStatus.{TaskStatus}
use Rattle.mes_msg.specs.Call.{Call}
use Rattle.mes_msg.specs.Call.TheVariants as of
use Rattle.mes_msg.specs.Event.{Event}
use Rattle.mes_session_fit.specs.Launched.{launched, launched_by}
use Rattle.mes_session_state.specs.Held.{offer_in, names, without_offers, with_key}
use Rattle.mes_session_state.specs.Calls.{framework_of}
use Rattle.mes_session_state.specs.Refusals.{ids_of}
pub use Rattle.mes_double_master_state.specs.Ids.{same_id, new_tasks}
pub use Rattle.mes_double_master_state.specs.Events.{usual_interval, subscribed_event, update_event, reconciled_event, last_of, asked_for}
pub use Rattle.mes_double_master_state.specs.Updates.{has_update, key_in}

-- the state of a master
pub record MasterState : Type 0 where
  pub framework : Id
  -- the heartbeat interval that SUBSCRIBED announces, in microseconds
  pub interval : Option ℕ
  -- the UUIDs for the ids of future streams, in order
  pub ids : List (List ℕ)
  -- the id of the current stream
  pub stream : Option (List ℕ)
  -- true if a TEARDOWN was carried out
  pub down : Bool
  -- the identifiers of all offers ever made
  pub offered : List Id
  pub outstanding : List Offer
  -- the last status of each task; the tasks are in the order of their first statuses
  pub latest : List (Id × TaskStatus)
  -- the updates that require an acknowledgement, acknowledged or not, by key
  pub owing : List (OwedKey × TaskStatus)
  pub launched : List Id
  pub acked : List OwedKey

-- the response to a call: status, events, offers taken, tasks launched, and the new state
pub record MasterAnswer : Type 0 where
  pub status : ℕ
  pub events : List Event
  pub took : List Offer
  pub ran : List TaskInfo
  pub master : MasterState

-- a response with only a status, and the master's new state
abbrev pub plain : ℕ → MasterState → MasterAnswer
plain status m = record { status = status; events = []; took = []; ran = []; master = m }

-- ---- SUBSCRIBE

-- the response to a SUBSCRIBE: the next id becomes the stream's, and no offer is outstanding
abbrev pub subscribed : MasterState → List (List ℕ) → MasterAnswer
subscribed m [] = plain 403 m
subscribed m (uuid ∷ uuids) = record {
  status = 200;
  events = subscribed_event m.framework m.interval ∷ [];
  took = [];
  ran = [];
  master = record m { ids = uuids; stream = Some (hyphenated_text lower uuid); outstanding = [] };
}

-- ---- ACCEPT and DECLINE

abbrev pub is_there : List Offer → Id → Bool
is_there offers d = is_some (offer_in offers d.value)

-- true if at least one offer is named, and all named offers are outstanding
abbrev pub all_there : List Offer → List Id → Bool
all_there offers [] = false
all_there offers (d ∷ ds) = list_all (is_there offers) (d ∷ ds)

-- the offers in the list whose identifiers are named
abbrev pub named : List Id → List Offer → List Offer
named ids offers = filter (names ids) offers

-- the tasks that an ACCEPT of these offers launches
abbrev pub launchable : MasterState → List Id → List TaskInfo → List TaskInfo
launchable m ids tasks = if all_there m.outstanding ids then new_tasks m.launched tasks else []

abbrev pub accepted : MasterState → List Id → List TaskInfo → MasterAnswer
accepted m ids tasks =
    let ran = launchable m ids tasks in record {
      status = 202;
      events = [];
      took = named ids m.outstanding;
      ran = ran;
      master = record m { outstanding = without_offers ids m.outstanding; launched = m.launched ++ ids_of ran };
    }

abbrev pub declined : MasterState → List Id → MasterAnswer
declined m ids = record {
  status = 202;
  events = [];
  took = named ids m.outstanding;
  ran = [];
  master = record m { outstanding = without_offers ids m.outstanding };
}

-- ---- ACKNOWLEDGE

abbrev pub acknowledged : MasterState → OwedKey → MasterState
acknowledged m key = record m { acked = if has_update m.owing key then with_key m.acked key else m.acked }

-- ---- RECONCILE

abbrev pub reconciled : MasterState → List TaskRef → MasterAnswer
reconciled m tasks = record { status = 202; events = map reconciled_event (asked_for m.latest tasks); took = []; ran = []; master = m }

-- ---- TEARDOWN

abbrev pub torn_down : MasterState → MasterState
torn_down m = record m { stream = None; down = true; outstanding = [] }

-- ---- a broken stream

-- the state after the current stream was disconnected; unchanged if there is no current stream
abbrev pub stream_broke : MasterState → MasterState
stream_broke m = if is_some m.stream then record m { stream = None; outstanding = [] } else m

-- ---- the response to each call

-- true if a call names this framework or none
abbrev pub agrees : Id → Option Id → Bool
agrees framework None = true
agrees framework (Some other) = same_id framework other

-- the response to a call that is of the framework and names the current stream
abbrev pub carried_out : MasterState → Call → MasterAnswer
carried_out m (of.Accept framework body) = accepted m body.offer_ids (launched launched_by body.operations)
carried_out m (of.Decline framework body) = declined m body.offer_ids
carried_out m (of.Acknowledge framework body) = plain 202 (acknowledged m (key_in body))
carried_out m (of.Reconcile framework body) = reconciled m body.tasks
carried_out m (of.Teardown framework) = plain 202 (torn_down m)
carried_out m _ = plain 202 m

-- true if a call names the current stream
abbrev pub is_named : List ℕ → Option (List ℕ) → Bool
is_named current None = false
is_named current (Some given) = bytes_eq current given

-- the status is 403 without a current stream, and 400 if the call names another stream or none
abbrev pub in_stream : MasterState → Call → Option (List ℕ) → Option (List ℕ) → MasterAnswer
in_stream m call None given = plain 403 m
in_stream m call (Some current) given = if is_named current given then carried_out m call else plain 400 m

abbrev pub is_subscribe : Call → Bool
is_subscribe (of.Subscribe framework body) = true
is_subscribe _ = false

-- the response to a call of the framework; a SUBSCRIBE needs no stream, and may name any
abbrev pub answered : MasterState → Call → Option (List ℕ) → MasterAnswer
answered m call given = if is_subscribe call then subscribed m m.ids else in_stream m call m.stream given

-- the response to a call that names the stream `given`, or none
abbrev pub handled : MasterState → Call → Option (List ℕ) → MasterAnswer
handled m call given = if m.down || not (agrees m.framework (framework_of call)) then plain 403 m else answered m call given

-- the code's status, events and new state are those of the response `answer`
pub record IsAnswer (answer : MasterAnswer) (status : ℕ) (events : List Event) (master : MasterState) : Type 0 where
  pub status_is : status ≡ answer.status
  pub events_are : events ≡ answer.events
  pub master_is : master ≡ answer.master

-- the code's counts are those of the offers that the response takes, and of the tasks it launches
pub record Counts (answer : MasterAnswer) (taken ran : ℕ) : Type 0 where
  pub taken_is : taken ≡ length answer.took
  pub ran_is : ran ≡ length answer.ran
