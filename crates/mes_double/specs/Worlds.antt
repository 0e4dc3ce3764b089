-- A world: a session, a test master, and the messages between them; and the effect of each move.
use Rattle.std.specs.Prelude.{◌≡◌, ℕ, Bool, ◌+◌, ◌<◌, ◌==◌, ◌||◌, if◌then◌else◌, List, [], ◌∷◌, ◌++◌, slice_get, Option, Some, None, Ok, Err, codes}
use Rattle.mes_model.specs.Id.{Id}
use Rattle.mes_model.specs.declared.framework_info.FrameworkInfo.{FrameworkInfo}
use Rattle.mes_msg.specs.Event.{Event}
use Rattle.mes_msg.specs.Call.{Call}
use Rattle.mes_msg.specs.declared.entry.Entry.TheVariants.{Heard, Said, Broken}
use Rattle.mes_session_state.specs.declared.refusal.Refusal.{Refusal}
use Rattle.mes_session_state.specs.Held.{Held}
use Rattle.mes_session_state.specs.Refusals.{Answers}
use Rattle.mes_session.specs.History.{at_first, after}
use Rattle.mes_session.specs.Made.{subscribe_call}
use Rattle.mes_double_master.specs.Masters.{MasterState, MasterAnswer, handled}
use Rattle.mes_double_master.specs.Sending.{Sends, offers_sent, rescind_sent, update_sent, resend_sent}
use Rattle.mes_double_master.specs.Runs.{new_master}
use Rattle.mes_double.specs.declared.moves.Move.{Move}
use Rattle.mes_double.specs.declared.moves.Move.TheVariants as moves
use Rattle.mes_double.specs.declared.sent.Sent.{Sent}

-- the state of a world
pub record WorldState : Type 0 where
  pub master : MasterState
  pub session : Held
  -- the events that were sent and not yet received, in order
  pub waiting : List Event
  -- the calls of the session in order, each with the id of the stream that was then current
  pub sent : List Sent
  -- the number of moves that were impossible or refused
  pub skipped : ℕ

abbrev pub new_world : Id → List (List ℕ) → WorldState
new_world framework ids = record { master = new_master framework ids; session = at_first; waiting = []; sent = []; skipped = 0 }

-- the count of skipped moves is below its maximum, 2^64 - 1
abbrev pub HasRoom : WorldState → Type 0
HasRoom w = w.skipped < 18446744073709551615

-- the effect of a move that is impossible or refused
abbrev pub skip : WorldState → WorldState
skip w = record w { skipped = w.skipped + 1 }

-- ---- moves with events

-- the world after the master sends an event, which is queued; a refused event is skipped
abbrev pub sending : WorldState → Sends → WorldState
sending w (Ok sent) = record w { master = sent.1; waiting = w.waiting ++ sent.0 ∷ [] }
sending w (Err why) = skip w

-- the world after the session receives the first event, if any; the others stay queued
abbrev pub hearing : WorldState → List Event → WorldState
hearing w [] = skip w
hearing w (event ∷ events) = record w { session = after w.session (Heard event); waiting = events }

-- ---- moves with calls

-- the world after a call: sent with the stream's id, or skipped if the session refuses the call
abbrev pub wishing : WorldState → Call → List ℕ → Option Refusal → WorldState
wishing w call stream None = record w { session = after w.session (Said call); sent = w.sent ++ record { call = call; stream = stream } ∷ [] }
wishing w call stream (Some why) = skip w

-- the effect of a call that the session allows or refuses; skipped without a current stream
abbrev pub Wishes : WorldState → Call → Option (List ℕ) → WorldState → Type 0
Wishes w call None later = later ≡ skip w
Wishes w call (Some stream) later = (answer : Option Refusal) × Answers w.session call answer × (later ≡ wishing w call stream answer)

-- true for the statuses 200 and 202 of a call that was carried out
abbrev pub is_done : ℕ → Bool
is_done status = status == 200 || status == 202

-- the master's response to a sent call
abbrev pub answer_to : WorldState → Sent → MasterAnswer
answer_to w p = handled w.master p.call (Some p.stream)

-- the world after a response: its events are queued; a refused call is skipped
abbrev pub answering : WorldState → MasterAnswer → WorldState
answering w answer = if is_done answer.status then record w { master = answer.master; waiting = w.waiting ++ answer.events } else skip w

-- the world after the master receives a sent call, if there is one
abbrev pub arriving : WorldState → Option Sent → WorldState
arriving w None = skip w
arriving w (Some p) = answering w (answer_to w p)

-- ---- streams

-- the description of a world's framework: the user `root` and the name `world`
abbrev pub world_info : FrameworkInfo
world_info = record {
  user = codes "root";
  name = codes "world";
  id = None;
  failover_timeout = None;
  checkpoint = None;
  roles = [];
  hostname = None;
  principal = None;
  capabilities = [];
}

-- the response to a SUBSCRIBE, which names no stream, and the framework if the session knows it
abbrev pub subscribe_answer : WorldState → MasterAnswer
subscribe_answer w = handled w.master (subscribe_call w.session.framework world_info) None

-- after a SUBSCRIBE that was carried out, the session is disconnected and the queue replaced
abbrev pub resubscribing : WorldState → MasterAnswer → WorldState
resubscribing w answer = if is_done answer.status then record w { master = answer.master; session = after w.session Broken; waiting = answer.events } else skip w

-- ---- like `answering` and `resubscribing`, for a world that has the master's new state

abbrev pub taking : WorldState → ℕ → List Event → WorldState
taking w status events = if is_done status then record w { waiting = w.waiting ++ events } else skip w

abbrev pub reopening : WorldState → ℕ → List Event → WorldState
reopening w status events = if is_done status then record w { session = after w.session Broken; waiting = events } else skip w

-- ---- each move

-- relates a world and a move to the world after the move
abbrev pub Happens : WorldState → Move → WorldState → Type 0
Happens w (moves.Offer offers) later = later ≡ sending w (offers_sent w.master offers)
Happens w (moves.Rescind name) later = later ≡ sending w (rescind_sent w.master name)
Happens w (moves.Update status) later = later ≡ sending w (update_sent w.master status)
Happens w (moves.Resend index) later = later ≡ sending w (resend_sent w.master index)
Happens w moves.Hear later = later ≡ hearing w w.waiting
Happens w (moves.Wish call) later = Wishes w call w.master.stream later
Happens w (moves.Arrive index) later = later ≡ arriving w (slice_get w.sent index)
Happens w moves.Resubscribe later = later ≡ resubscribing w (subscribe_answer w)
