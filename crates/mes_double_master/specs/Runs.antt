-- Any sequence of calls, events and broken streams of a test master.
use Rattle.std.specs.Prelude.{◌≡◌, ℕ, false, fold, List, [], ◌++◌, Option, None, Ok, Err}
use Rattle.mes_model.specs.Id.{Id}
use Rattle.mes_model.specs.Offer.{Offer}
use Rattle.mes_model.specs.TaskInfo.{TaskInfo}
use Rattle.mes_model.specs.TaskStatus.{TaskStatus}
use Rattle.mes_msg.specs.Call.{Call}
use Rattle.mes_session_state.specs.Refusals.{is_duplicated, ids_of}
use Rattle.mes_double_master.specs.Masters.{MasterState, MasterAnswer, usual_interval, handled, stream_broke}
use Rattle.mes_double_master.specs.Sending.{Sends, offer_ids, offers_sent, rescind_sent, update_sent, resend_sent}

-- a new master of the framework; its SUBSCRIBED announces the interval
abbrev pub master_with : Id → List (List ℕ) → Option ℕ → MasterState
master_with framework ids interval = record {
  framework = framework;
  interval = interval;
  ids = ids;
  stream = None;
  down = false;
  offered = [];
  outstanding = [];
  latest = [];
  owing = [];
  launched = [];
  acked = [];
}

abbrev pub new_master : Id → List (List ℕ) → MasterState
new_master framework ids = master_with framework ids usual_interval

-- a call that a master handles, an event that it sends, or the end of its stream
pub data Deed : Type 0 where
  handles : (call : Call) (stream : Option (List ℕ)) → Deed
  offers : (list : List Offer) → Deed
  rescinds : (name : List ℕ) → Deed
  updates : (status : TaskStatus) → Deed
  resends : (index : ℕ) → Deed
  -- the current stream is disconnected
  breaks : Deed

-- a master, the offers that its calls took, and the tasks that its calls launched so far
pub record Past : Type 0 where
  pub master : MasterState
  pub took : List Offer
  pub ran : List TaskInfo

abbrev pub after_call : Past → MasterAnswer → Past
after_call past answer = record { master = answer.master; took = past.took ++ answer.took; ran = past.ran ++ answer.ran }

-- the master after an event is sent; a refusal changes nothing
abbrev pub after_sending : Past → Sends → Past
after_sending past (Ok sent) = record past { master = sent.1 }
after_sending past (Err why) = past

abbrev pub after : Past → Deed → Past
after past (handles call stream) = after_call past (handled past.master call stream)
after past (offers list) = after_sending past (offers_sent past.master list)
after past (rescinds name) = after_sending past (rescind_sent past.master name)
after past (updates status) = after_sending past (update_sent past.master status)
after past (resends index) = after_sending past (resend_sent past.master index)
after past breaks = record past { master = stream_broke past.master }

-- a new master with this heartbeat interval after these calls, events and broken streams (`deeds`)
abbrev pub past_of : Id → List (List ℕ) → Option ℕ → List Deed → Past
past_of framework ids interval deeds = fold after (record { master = master_with framework ids interval; took = []; ran = [] }) deeds

-- the master's launched tasks are those that its calls launched, and no task was launched twice
pub record LaunchedOnce (past : Past) : Type 0 where
  pub launched : past.master.launched ≡ ids_of past.ran
  pub once : is_duplicated past.master.launched ≡ false

-- no offer was taken twice
abbrev pub TakenOnce : Past → Type 0
TakenOnce past = is_duplicated (offer_ids past.took) ≡ false
