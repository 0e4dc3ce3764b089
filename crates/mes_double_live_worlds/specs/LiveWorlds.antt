-- A session and a live test master: no event is lost on a stream, and calls arrive at any time, more than
-- once, or never. What happens is stated by the contracts of `Live`.
use Rattle.std.specs.Prelude.{◌≡◌, ◌≢◌, ℕ, ◌==◌, Bool, true, false, if◌then◌else◌, List, [], ◌∷◌, ◌++◌, slice_get, Option, Some, None}
use Rattle.std.specs.List.{AllByRecursion, flat_map}
use Rattle.mes_model.specs.declared.framework_info.FrameworkInfo.{FrameworkInfo}
use Rattle.mes_msg.specs.Call.{Call}
use Rattle.mes_msg.specs.Event.{Event}
use Rattle.mes_msg.specs.declared.entry.Entry.TheVariants.{Heard, Said, Broken}
use Rattle.mes_session_state.specs.Held.{Held}
use Rattle.mes_session_state.specs.Refusals.{Answers}
use Rattle.mes_session.specs.History.{at_first, after}
use Rattle.mes_session.specs.Made.{subscribe_call}
use Rattle.mes_double_faults.specs.declared.fault.CallFault.TheVariants.{Gone}
use Rattle.mes_double_master.specs.Masters.{handled, is_subscribe, subscribed_event}
use Rattle.mes_double_live.specs.Arriving.{arriving}
use Rattle.mes_double_live.specs.Calling.{opened_by, responding}
use Rattle.mes_double_live.specs.Lives.{LiveState, call_counted, call_status, reply_fault}
use Rattle.mes_double_live.specs.Opening.{beginning, unacknowledged}
use Rattle.mes_double_live.specs.Steps.{Step, BeginsWith, StepsTo, IsDelivering, IsEnding, IsNoting, IsOfCall, IsOfTime, IsSending, IsTaking, events_by}
use Rattle.mes_double_live.specs.Steps.Step.{obeys}
use Rattle.mes_double.specs.declared.sent.Sent.{Sent}

pub record LiveWorld : Type 0 where
  pub live : LiveState
  pub session : Held
  -- the id of the last stream that was opened, which the session's calls name
  pub stream : Option (List ℕ)
  -- whether the session reads that stream
  pub reads : Bool
  -- the events on that stream that the session has not received, in order
  pub waiting : List Event
  -- the events that the session received, on all streams
  pub heard : List Event
  -- the calls of the session in order, each with the id of the stream that it names
  pub sent : List Sent
  -- the indexes of the calls that arrived and were carried out, in order
  pub carried : List ℕ

-- a new session, and a live test master without a stream
abbrev pub new_live_world : LiveState → LiveWorld
new_live_world live = record { live = live; session = at_first; stream = None; reads = false; waiting = []; heard = []; sent = []; carried = [] }

-- ---- the events of steps

-- no event from outside demands that events be lost, repeated or muted, or that the stream break
abbrev pub IsLossless : Step → Type 0
IsLossless (obeys name) = ⊥
IsLossless step = Unit {0}

-- the events that these steps send
abbrev pub events_of : List Step → List Event
events_of steps = flat_map events_by steps

-- after these steps of the live test master; their events are on the stream, if the session reads it
abbrev pub working : LiveState → List Step → LiveWorld → LiveWorld
working live steps w = record w { live = live; waiting = if w.reads then w.waiting ++ events_of steps else [] }

-- the events with which a stream begins, and those of these steps
abbrev pub opened : LiveState → List Step → List Event
opened live steps =
    events_of (beginning live.time (subscribed_event live.master.framework live.master.interval ∷ []) (unacknowledged live.master) ++ steps)

-- ---- what happens

-- a call of a method of the live test master, or what the session does
pub data Turn : Type 0 where
  -- `Live::told`
  told : (event : Event) → Turn
  -- `Live::passed`
  passed : (time : ℕ) → Turn
  -- `Live::beat`
  beat : Turn
  -- `Live::broken` and `Live::stop`
  stopped : Turn
  -- `Live::wrote` and `Live::take_happened`
  wrote : Turn
  -- `Live::reset`
  reset : Turn
  -- `Live::call`: the call arrives that the session made at this index; its fault is not `gone`
  called : (index : ℕ) → Turn
  -- `Live::call`: the session subscribes, which reads no stream
  subscribed : (info : FrameworkInfo) (given : Option (List ℕ)) → Turn
  -- the session receives the first event that waits
  heard : Turn
  -- the session makes a call other than SUBSCRIBE, and no TEARDOWN was carried out
  said : (call : Call) → Turn
  -- the session notes that its stream was disconnected, and receives none of the events that wait
  left : Turn

-- the live test master makes steps that are allowed
abbrev pub Works : (Step → Type 0) → LiveWorld → LiveWorld → Type 0
Works IsAllowed w v = (live : LiveState) × (all : StepsTo IsAllowed w.live live) × AllByRecursion IsLossless all.steps × (v ≡ working live all.steps w)

-- the first steps of a call of the session
abbrev pub first_steps : LiveWorld → Call → Option (List ℕ) → List Step
first_steps w call given = responding (reply_fault w.live) (call_counted w.live) call given

-- the call at the index, if it is carried out: its response has status 202
abbrev pub carried_by : LiveWorld → ℕ → Sent → List ℕ
carried_by w index p = if call_status w.live p.call (Some p.stream) == 202 then index ∷ [] else []

-- the SUBSCRIBE of the session, which names the framework if the session knows it
abbrev pub subscription : LiveWorld → FrameworkInfo → Call
subscription w info = subscribe_call w.session.framework info

-- after a SUBSCRIBE, whose first steps and further steps are these; with status 200 the session reads the
-- new stream
abbrev pub subscribing : LiveState → Call → Option (List ℕ) → List Step → LiveWorld → LiveWorld
subscribing live call given steps w =
    if call_status w.live call given == 200
    then record w {
      live = live;
      stream = opened_by 200 (handled w.live.master call given).master;
      reads = true;
      waiting = opened (call_counted w.live) steps;
    }
    else working live (first_steps w call given ++ steps) w

-- relates a world and what happens to the world after it
abbrev pub Happens : LiveWorld → Turn → LiveWorld → Type 0
Happens w (told event) v =
    (live : LiveState) × (begins : BeginsWith IsDelivering (arriving event) w.live live) × AllByRecursion IsLossless begins.rest
    × (v ≡ working live (arriving event ++ begins.rest) w)
Happens w (passed time) v = Works (IsOfTime time) w v
Happens w beat v = Works IsSending w v
Happens w stopped v = Works IsEnding w v
Happens w wrote v = Works IsTaking w v
Happens w reset v = Works IsNoting w v
Happens w (called index) v =
    (live : LiveState) × (p : Sent) × (slice_get w.sent index ≡ Some p) × (reply_fault w.live ≢ Some Gone)
    × (begins : BeginsWith (IsOfCall p.call) (first_steps w p.call (Some p.stream)) (call_counted w.live) live)
    × (v ≡ record (working live (first_steps w p.call (Some p.stream) ++ begins.rest) w) { carried = w.carried ++ carried_by w index p })
Happens w (subscribed info given) v =
    (live : LiveState) × (w.reads ≡ false)
    × (begins : BeginsWith (IsOfCall (subscription w info)) (first_steps w (subscription w info) given) (call_counted w.live) live)
    × AllByRecursion IsLossless begins.rest × (v ≡ subscribing live (subscription w info) given begins.rest w)
Happens w heard v =
    (event : Event) × (events : List Event) × (w.waiting ≡ event ∷ events)
    × (v ≡ record w { session = after w.session (Heard event); waiting = events; heard = w.heard ++ event ∷ [] })
Happens w (said call) v =
    (id : List ℕ) × (w.reads ≡ true) × (w.stream ≡ Some id) × (w.live.master.down ≡ false) × (is_subscribe call ≡ false) × Answers w.session call None
    × (v ≡ record w { session = after w.session (Said call); sent = w.sent ++ record { call = call; stream = id } ∷ [] })
Happens w left v = (w.reads ≡ true) × (v ≡ record w { session = after w.session Broken; reads = false; waiting = [] })

-- relates a world to that after all this happened, in order
abbrev pub Runs : LiveWorld → List Turn → LiveWorld → Type 0
Runs w [] v = v ≡ w
Runs w (turn ∷ turns) v = (next : LiveWorld) × Happens w turn next × Runs next turns v
