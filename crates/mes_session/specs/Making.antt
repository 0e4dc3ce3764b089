-- The result of asking a session for a call.
use Rattle.std.specs.Prelude.{◌≡◌, ◌⊎◌, Some, None}
use Rattle.mes_model.specs.Id.{Id}
use Rattle.mes_msg.specs.Call.{Call}
use Rattle.mes_msg.specs.declared.entry.Entry.{Entry}
use Rattle.mes_msg.specs.declared.entry.Entry.TheVariants.{Heard, Said, Broken}
use Rattle.mes_session_state.specs.declared.refusal.Refusal.{Refusal}
use Rattle.mes_session_state.specs.declared.refusal.Refusal.TheVariants.{NoMemory}
use Rattle.mes_session_state.specs.Held.{Held}
use Rattle.mes_session_state.specs.Refusals.{Answers, IsOwn}
use Rattle.mes_session.specs.History.{after, StandsNext, NeedsMemory}

-- ---- results

-- the call is allowed in the state `before`, and `later` is the state after it
pub record Applied (before : Held) (call : Call) (later : Held) : Type 0 where
  pub accepted : Answers before call None
  pub next : later ≡ after before (Said call)
  pub represents : StandsNext (Said call) before later

-- the call that `make` gives for the known framework is made and applied
pub record Made (make : Id → Call) (before later : Held) (call : Call) : Type 0 where
  pub framework : Id
  pub known : before.framework ≡ Some framework
  pub is : call ≡ make framework
  pub applied : Applied before call later

-- the refusal is the first reason against the call, or out of memory (S8) if no reason applies
abbrev pub IsReported : Held → Call → Refusal → Type 0
IsReported held call refusal = Answers held call (Some refusal) ⊎ ((refusal ≡ NoMemory) × Answers held call None)

-- no call is made for the reason `refusal`, and the state is unchanged
pub record NotMade (make : Id → Call) (before later : Held) (refusal : Refusal) : Type 0 where
  pub reported : (framework : Id) → IsOwn before framework → IsReported before (make framework) refusal
  pub same : later ≡ before

-- ---- entries

-- the entry is accepted: it is an event, a disconnect, or a call that is allowed
abbrev pub Passes : Held → Entry → Type 0
Passes held (Heard event) = Unit {0}
Passes held (Said call) = Answers held call None
Passes held Broken = Unit {0}

-- the entry is refused: it is an event for which an allocation failed, or a call with a fault
abbrev pub IsTurnedAway : Held → Entry → Refusal → Type 0
IsTurnedAway held (Heard event) reported = (reported ≡ NoMemory) × NeedsMemory event
IsTurnedAway held (Said call) reported = Answers held call (Some reported)
IsTurnedAway held Broken reported = ⊥
