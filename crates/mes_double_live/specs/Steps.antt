-- How the test master, the body of the current stream, the tasks of the cluster, and the events that
-- wait change: by steps. Times are in milliseconds.
use Rattle.std.specs.Prelude.{◌≡◌, ◌⊎◌, ℕ, if◌then◌else◌, List, [], ◌∷◌, ◌++◌, filter, map, slice_get, not, option_map, Option, None, Some, Ok, true, IsErr}
use Rattle.std.specs.List.{AllByRecursion, flat_map}
use Rattle.mes_model.specs.Id.{Id}
use Rattle.mes_model.specs.Offer.{Offer}
use Rattle.mes_model.specs.Owed.{owed_key_of}
use Rattle.mes_model.specs.TaskInfo.{TaskInfo}
use Rattle.mes_model.specs.TaskStatus.{TaskStatus}
use Rattle.mes_msg.specs.Acknowledge.{Acknowledge}
use Rattle.mes_msg.specs.Call.{Call}
use Rattle.mes_msg.specs.Call.TheVariants as of
use Rattle.mes_msg.specs.Event.{Event}
use Rattle.mes_msg.specs.Event.TheVariants.{Failure, Heartbeat, Message, Offers, Other, Rescind, Update}
use Rattle.mes_msg.specs.Events as kinds
use Rattle.mes_stream.specs.Sending.{records_of}
use Rattle.mes_session_state.specs.Calls.{accept_call}
use Rattle.mes_double_cluster.specs.Clusters.{status_of}
use Rattle.mes_double_cluster.specs.Stock.{same_id}
use Rattle.mes_double_cluster.specs.Tasks as task
use Rattle.mes_double_cluster.specs.TaskProgress.{is_last, is_over}
use Rattle.mes_double_cluster.specs.Times.{saturated_sum}
use Rattle.mes_double_cluster.specs.declared.task.Task.{Task}
use Rattle.mes_double_faults.specs.Plans.{Plan, event_fault}
use Rattle.mes_double_faults.specs.declared.fault.Fault.{Fault}
use Rattle.mes_double_master.specs.Masters.{MasterState, handled, is_subscribe, stream_broke, update_event}
use Rattle.mes_double_master.specs.Sending.{offers_sent, rescind_sent, resend_sent, update_sent}
use Rattle.mes_double_live.specs.Bodies.{BodyState, cleared, released, Obeys, Sends, Beats}
use Rattle.mes_double_live.specs.Lives.{LiveState, record_of}
use Rattle.mes_double_live.specs.Moving.{LaunchFits, IsWhole}

pub data Step : Type 0 where
  -- the test master is given a call that names this stream, or none
  handles : (call : Call) (given : Option (List ℕ)) → Step
  -- the current stream of the test master is disconnected
  breaks : Step
  -- an event that did not wait is sent at this time; OFFERS are made by the same step
  sends : (now : ℕ) (event : Event) → Step
  -- an update is sent again
  resends : (now : ℕ) (event : Event) → Step
  -- the first event from outside that waits is sent
  relays : (now : ℕ) (event : Event) → Step
  -- The next status of the task at an index is sent in the update with this number. A task that runs
  -- from then on finishes at the time `finishes`.
  reports : (now index update : ℕ) (finishes : Option ℕ) (status : TaskStatus) → Step
  -- a HEARTBEAT is sent
  beats : Step
  -- what the first event that waits demands by its name is done
  obeys : (name : List ℕ) → Step
  -- an event from outside joins those that wait
  waits : (event : Event) → Step
  -- the first event that waits is dropped, since the test master refuses it
  drops : (event : Event) → Step
  -- the bytes that are held may be written, if their time has come
  releases : (now : ℕ) → Step
  -- these bytes are written
  goes : (bytes : List ℕ) → Step
  -- the stream ends, or is disconnected
  clears : Step
  -- a planned fault is noted
  notes : (fault : Fault) → Step
  -- the planned faults that happened are taken
  takes : Step
  -- tasks are launched, in the launch with this number
  launches : (launch : ℕ) (tasks : List TaskInfo) → Step
  -- an update of a task is acknowledged
  acknowledges : (body : Acknowledge) → Step
  -- a task is killed
  kills : (id : Id) → Step

-- ---- the test master

-- OFFERS are made; any other event leaves the test master as it is
abbrev pub Makes : Event → MasterState → MasterState → Type 0
Makes (Offers list) old new = offers_sent old list ≡ Ok (Offers list, new)
Makes event old new = new ≡ old

-- the event is no OFFERS
abbrev pub IsNoOffers : Event → Type 0
IsNoOffers (Offers list) = ⊥
IsNoOffers event = Unit {0}

-- the test master sends a RESCIND or an UPDATE from outside; any other event leaves it as it is
abbrev pub Admits : Event → MasterState → MasterState → Type 0
Admits (Rescind body) old new = rescind_sent old body.offer_id.value ≡ Ok (Rescind body, new)
Admits (Update body) old new = update_sent old body.status ≡ Ok (Update body, new)
Admits event old new = new ≡ old

-- the test master refuses the RESCIND or the UPDATE
abbrev pub Refuses : Event → MasterState → Type 0
Refuses (Rescind body) m = IsErr (rescind_sent m body.offer_id.value)
Refuses (Update body) m = IsErr (update_sent m body.status)
Refuses event m = ⊥

-- `done` is the ACCEPT with these tasks instead of its own
abbrev pub IsOfTasks : Call → Call → Type 0
IsOfTasks (of.Accept framework body) done = (tasks : List TaskInfo) × (done ≡ accept_call framework body.offer_ids tasks None)
IsOfTasks call done = ⊥

-- The test master handled the call; or the ACCEPT with other tasks, if its own do not all fit the offers
-- that it takes, or are not of their agent. What it launched fits.
pub record Handles (call : Call) (given : Option (List ℕ)) (old new : MasterState) : Type 0 where
  pub done : Call
  pub same : (done ≡ call) ⊎ IsOfTasks call done
  pub fits : LaunchFits old done given
  pub is : new ≡ (handled old done given).master
  pub whole : IsWhole old call given → new ≡ (handled old call given).master

-- the step leads from one state of the test master to another
abbrev pub StepsMaster : Step → MasterState → MasterState → Type 0
StepsMaster (handles call given) old new = Handles call given old new
StepsMaster breaks old new = new ≡ stream_broke old
StepsMaster (sends now event) old new = Makes event old new
StepsMaster (resends now event) old new = (index : ℕ) × (resend_sent old index ≡ Ok (event, new))
StepsMaster (relays now event) old new = Admits event old new
StepsMaster (reports now index update finishes status) old new = update_sent old status ≡ Ok (update_event status, new)
StepsMaster (drops event) old new = Refuses event old × (new ≡ old)
StepsMaster _ old new = new ≡ old

-- the steps lead from one state of the test master to another
abbrev pub LeadsMaster : MasterState → List Step → MasterState → Type 0
LeadsMaster old [] new = new ≡ old
LeadsMaster old (step ∷ steps) new = (next : MasterState) × StepsMaster step old next × LeadsMaster next steps new

-- ---- the body

-- the step leads from one body to another
abbrev pub StepsBody : Step → BodyState → BodyState → Type 0
StepsBody (sends now event) old new = Sends now old (record_of event) new
StepsBody (resends now event) old new = Sends now old (record_of event) new
StepsBody (relays now event) old new = Sends now old (record_of event) new
StepsBody (reports now index update finishes status) old new = Sends now old (record_of (update_event status)) new
StepsBody beats old new = Beats old (record_of Heartbeat) new
StepsBody (obeys name) old new = Obeys name old new true
StepsBody (releases now) old new = new ≡ released now old
StepsBody (goes bytes) old new = (old.pending ≡ bytes ++ new.pending) × (new ≡ record old { pending = new.pending })
StepsBody clears old new = new ≡ cleared old
StepsBody (notes fault) old new = new ≡ record old { happened = old.happened ++ fault ∷ [] }
StepsBody takes old new = new ≡ record old { happened = [] }
StepsBody _ old new = new ≡ old

-- the steps lead from one body to another
abbrev pub LeadsBody : BodyState → List Step → BodyState → Type 0
LeadsBody old [] new = new ≡ old
LeadsBody old (step ∷ steps) new = (next : BodyState) × StepsBody step old next × LeadsBody next steps new

-- ---- the tasks

-- the tasks after an UPDATE from outside: those whose last state it reports are forgotten
abbrev pub overtaken_by : Event → List Task → List Task
overtaken_by (Update body) tasks =
    if is_last body.status.state then filter (λ (t : Task). not (same_id t.id body.status.task_id)) tasks else tasks
overtaken_by event tasks = tasks

-- the step leads from one list of tasks to another; a task is forgotten once its last state is
-- acknowledged
abbrev pub StepsTasks : Step → List Task → List Task → Type 0
StepsTasks (relays now event) old new = new ≡ overtaken_by event old
StepsTasks (reports now index update finishes status) old new =
    (status_of update now (slice_get old index) ≡ Some status) × (new ≡ task.reported_at index status.state update finishes old)
StepsTasks (launches launch tasks) old new = new ≡ old ++ map (task.launched launch) tasks
StepsTasks (acknowledges body) old new = new ≡ filter (λ (t : Task). not (is_over t.progress)) (map (task.acknowledged body) old)
StepsTasks (kills id) old new = new ≡ map (task.killed id) old
StepsTasks _ old new = new ≡ old

-- the steps lead from one list of tasks to another
abbrev pub LeadsTasks : List Task → List Step → List Task → Type 0
LeadsTasks old [] new = new ≡ old
LeadsTasks old (step ∷ steps) new = (next : List Task) × StepsTasks step old next × LeadsTasks next steps new

-- ---- the events that wait

-- the step leads from one list of waiting events to another
abbrev pub StepsWaiting : Step → List Event → List Event → Type 0
StepsWaiting (waits event) old new = new ≡ old ++ event ∷ []
StepsWaiting (relays now event) old new = old ≡ event ∷ new
StepsWaiting (obeys name) old new = old ≡ Other name ∷ new
StepsWaiting (drops event) old new = old ≡ event ∷ new
StepsWaiting _ old new = new ≡ old

-- the steps lead from one list of waiting events to another
abbrev pub LeadsWaiting : List Event → List Step → List Event → Type 0
LeadsWaiting old [] new = new ≡ old
LeadsWaiting old (step ∷ steps) new = (next : List Event) × StepsWaiting step old next × LeadsWaiting next steps new

abbrev pub arrived_by : Step → List Event
arrived_by (waits event) = event ∷ []
arrived_by _ = []

abbrev pub taken_by : Step → List Event
taken_by (relays now event) = event ∷ []
taken_by (obeys name) = Other name ∷ []
taken_by (drops event) = event ∷ []
taken_by _ = []

-- ---- all four

-- the steps lead from the test master, the body, the tasks and the waiting events of one state to
-- those of another
pub record Leads (old : LiveState) (steps : List Step) (new : LiveState) : Type 0 where
  pub master : LeadsMaster old.master steps new.master
  pub body : LeadsBody old.out steps new.out
  pub tasks : LeadsTasks old.cluster.tasks steps new.cluster.tasks
  pub waiting : LeadsWaiting old.waiting steps new.waiting

-- the step leads from one state to another, but for the test master, which is the same
pub record StepsBut (step : Step) (old new : LiveState) : Type 0 where
  pub master : new.master ≡ old.master
  pub body : StepsBody step old.out new.out
  pub tasks : StepsTasks step old.cluster.tasks new.cluster.tasks
  pub waiting : StepsWaiting step old.waiting new.waiting

-- the next status of the task at an index is sent now, in the next update
abbrev pub reporting : ℕ → TaskStatus → LiveState → Step
reporting index status live = reports live.time index live.cluster.updates (option_map (saturated_sum live.time) live.cluster.finish_after) status

-- the offers are made, and are sent in one event; or there are none
abbrev pub MakesAll : List Offer → MasterState → MasterState → Type 0
MakesAll [] old new = new ≡ old
MakesAll (offer ∷ offers) old new = Makes (Offers (offer ∷ offers)) old new

-- one more offer was made, which is the last of the list; or none was
abbrev pub MakesMore : List Offer → MasterState → List Offer → MasterState → Type 0
MakesMore made old more new = ((more ≡ made) × (new ≡ old)) ⊎ ((offer : Offer) × (more ≡ made ++ offer ∷ []) × Makes (Offers (offer ∷ [])) old new)

-- some steps lead from one state to another, and each is allowed
pub record StepsTo (IsAllowed : Step → Type 0) (old new : LiveState) : Type 0 where
  pub steps : List Step
  pub allowed : AllByRecursion IsAllowed steps
  pub leads : Leads old steps new

-- ---- what is allowed

abbrev pub IsOffers : Event → Type 0
IsOffers (Offers list) = Unit {0}
IsOffers _ = ⊥

-- what is due is sent: next states of tasks, HEARTBEATs, and OFFERS
abbrev pub IsSending : Step → Type 0
IsSending (sends now event) = IsOffers event
IsSending (reports now index update finishes status) = Unit {0}
IsSending beats = Unit {0}
IsSending _ = ⊥

-- events that wait are taken too: an event is sent, or what it demands is done, or it is dropped
abbrev pub IsDelivering : Step → Type 0
IsDelivering (relays now event) = Unit {0}
IsDelivering (obeys name) = Unit {0}
IsDelivering (drops event) = Unit {0}
IsDelivering step = IsSending step

-- the stream also ends
abbrev pub IsEnding : Step → Type 0
IsEnding breaks = Unit {0}
IsEnding clears = Unit {0}
IsEnding step = IsDelivering step

-- updates are sent again
abbrev pub IsResending : Step → Type 0
IsResending (resends now event) = Unit {0}
IsResending _ = ⊥

-- a planned fault is noted
abbrev pub IsNoting : Step → Type 0
IsNoting (notes fault) = Unit {0}
IsNoting _ = ⊥

-- OFFERS, MESSAGE, FAILURE, or an UPDATE that requires no acknowledgement
abbrev pub IsReply : Event → Type 0
IsReply (Offers list) = Unit {0}
IsReply (Update body) = owed_key_of body.status ≡ None
IsReply (Message body) = Unit {0}
IsReply (Failure body) = Unit {0}
IsReply _ = ⊥

-- a call also has such events sent
abbrev pub IsReplying : Step → Type 0
IsReplying (sends now event) = IsReply event
IsReplying step = IsSending step

-- ACCEPT also launches tasks
abbrev pub IsLaunching : Step → Type 0
IsLaunching (launches launch tasks) = Unit {0}
IsLaunching step = IsReplying step

abbrev pub IsAccept : Call → Type 0
IsAccept (of.Accept framework body) = Unit {0}
IsAccept _ = ⊥

abbrev pub IsSubscribe : Call → Type 0
IsSubscribe call = is_subscribe call ≡ true

-- only ACCEPT launches tasks, and only SUBSCRIBE takes events that wait
abbrev pub IsOfCall : Call → Step → Type 0
IsOfCall call (relays now event) = IsSubscribe call
IsOfCall call (obeys name) = IsSubscribe call
IsOfCall call (drops event) = IsSubscribe call
IsOfCall call (launches launch tasks) = IsAccept call
IsOfCall call step = IsReplying step

-- the state changes by these steps first, and then only by steps that are allowed
pub record BeginsWith (IsAllowed : Step → Type 0) (steps : List Step) (old new : LiveState) : Type 0 where
  pub rest : List Step
  pub allowed : AllByRecursion IsAllowed rest
  pub leads : Leads old (steps ++ rest) new

-- the time also has updates sent again, and releases bytes that are held
abbrev pub IsOfTime : ℕ → Step → Type 0
IsOfTime time (resends now event) = Unit {0}
IsOfTime time (releases now) = now ≡ time
IsOfTime time step = IsDelivering step

-- bytes, or the faults that happened, are taken
abbrev pub IsTaking : Step → Type 0
IsTaking (goes bytes) = Unit {0}
IsTaking takes = Unit {0}
IsTaking _ = ⊥

-- ---- a stream without faults

-- no fault of an event is planned
abbrev pub IsFaultless : Plan → Type 0
IsFaultless plan = (number : ℕ) → event_fault plan number ≡ None

-- no bytes are pending or held, and nothing is demanded of the stream
abbrev pub IsFresh : BodyState → Type 0
IsFresh body = cleared body ≡ body

-- the step neither does what an event demands nor ends the stream
abbrev pub IsPlain : Step → Type 0
IsPlain (obeys name) = ⊥
IsPlain clears = ⊥
IsPlain _ = Unit {0}

abbrev pub events_by : Step → List Event
events_by (sends now event) = event ∷ []
events_by (resends now event) = event ∷ []
events_by (relays now event) = event ∷ []
events_by (reports now index update finishes status) = update_event status ∷ []
events_by beats = Heartbeat ∷ []
events_by _ = []

abbrev pub bytes_by : Step → List ℕ
bytes_by (goes bytes) = bytes
bytes_by _ = []

-- the bytes that the steps write
abbrev pub bytes_written : List Step → List ℕ
bytes_written steps = flat_map bytes_by steps

-- the records of the events that the steps send, HEARTBEATs among them
abbrev pub sent_records : List Step → List ℕ
sent_records steps = records_of kinds.event (flat_map events_by steps)
