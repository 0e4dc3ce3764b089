-- The calls that a session refuses, and the first reason for each refusal.
use Rattle.std.specs.Prelude.{◌≡◌, ◌≢◌, ◌⊎◌, ℕ, ◌<◌, Bool, true, false, not, ◌||◌, List, [], ◌∷◌, map, filter_map, slice_get, Option, Some, None, IfSome}
use Rattle.std.specs.List.{list_any}
use Rattle.std.specs.Str.{bytes_eq}
use Rattle.mes_model.specs.Id.{Id}
use Rattle.mes_model.specs.Offer.{Offer}
use Rattle.mes_model.specs.OwedKey.{OwedKey}
use Rattle.mes_model.specs.TaskInfo.{TaskInfo}
use Rattle.mes_msg.specs.Call.{Call}
use Rattle.mes_msg.specs.Call.TheVariants as of
use Rattle.mes_session_fit.specs.Fits.{BreaksAt}
use Rattle.mes_session_fit.specs.Launched.{as_index}
use Rattle.mes_session_state.specs.declared.refusal.Refusal.{Refusal}
use Rattle.mes_session_state.specs.declared.refusal.Refusal.TheVariants.{NotSubscribed, NamedTwice, NoSuchOffer, TwoAgents, WrongAgent, Exceeds, NotOwed, NoMemory}
use Rattle.mes_session_state.specs.Held.{Held, offer_in, is_owed}
use Rattle.mes_session_state.specs.Calls.{named_by, accepted_by, tasks_of, acknowledged_by}

-- ---- S1 (NotSubscribed)

-- a call of `framework` is refused for S1: the stream is disconnected, or this is not the known
-- framework
abbrev pub IsOtherFramework : Held → Id → Type 0
IsOtherFramework held framework = (held.connected ≡ false) ⊎ (held.framework ≢ Some framework)

-- a SUBSCRIBE is refused for S1: a framework is known, and the SUBSCRIBE names another
abbrev pub IsOtherSubscription : Held → Option Id → Type 0
IsOtherSubscription held framework = (known named : Id) × (held.framework ≡ Some known) × (framework ≡ Some named) × (named ≢ known)

abbrev pub IsForeign : Held → Call → Type 0
IsForeign held (of.Subscribe framework body) = IsOtherSubscription held framework
IsForeign held (of.Accept framework body) = IsOtherFramework held framework
IsForeign held (of.Decline framework body) = IsOtherFramework held framework
IsForeign held (of.Revive framework) = IsOtherFramework held framework
IsForeign held (of.Kill framework body) = IsOtherFramework held framework
IsForeign held (of.Acknowledge framework body) = IsOtherFramework held framework
IsForeign held (of.Reconcile framework body) = IsOtherFramework held framework
IsForeign held (of.Teardown framework) = IsOtherFramework held framework
IsForeign held (of.Suppress framework) = IsOtherFramework held framework
IsForeign held (of.Shutdown framework body) = IsOtherFramework held framework
IsForeign held (of.Message framework body) = IsOtherFramework held framework

-- ---- S2 (NamedTwice)

-- true if and only if the identifier is in the list
abbrev pub is_among : Id → List Id → Bool
is_among x xs = list_any (λ (y : Id). bytes_eq x.value y.value) xs

-- true if and only if an identifier occurs twice in the list
abbrev pub is_duplicated : List Id → Bool
is_duplicated [] = false
is_duplicated (x ∷ xs) = is_among x xs || is_duplicated xs

abbrev pub ids_of : List TaskInfo → List Id
ids_of tasks = map (λ (t : TaskInfo). t.task_id) tasks

-- ---- S4 (TwoAgents) and S5 (WrongAgent)

-- the outstanding offers with these identifiers, in the order of the identifiers
abbrev pub offers_named : List Offer → List Id → List Offer
offers_named hand ids = filter_map (λ (d : Id). offer_in hand d.value) ids

-- the agent of the first offer
abbrev pub agent_of : List Offer → Option Id
agent_of [] = None
agent_of (o ∷ os) = Some o.agent_id

-- true if and only if there is an agent and it is `id`
abbrev pub is_agent : Option Id → Id → Bool
is_agent None id = false
is_agent (Some agent) id = bytes_eq agent.value id.value

-- true if and only if an offer is on another agent than the first offer
abbrev pub has_two_agents : List Offer → Bool
has_two_agents offers = list_any (λ (o : Offer). not (is_agent (agent_of offers) o.agent_id)) offers

-- true if and only if the task is not on the agent of the first offer
abbrev pub is_elsewhere : List Offer → TaskInfo → Bool
is_elsewhere offers task = not (is_agent (agent_of offers) task.agent_id)

-- ---- S1 to S7

-- the parts of a call that S2 to S7 depend on
pub record Asked : Type 0 where
  pub named : List Id
  pub accepted : List Id
  pub tasks : List TaskInfo
  pub acknowledged : Option OwedKey

abbrev pub asked_by : Call → Asked
asked_by call = record { named = named_by call; accepted = accepted_by call; tasks = tasks_of call; acknowledged = acknowledged_by call }

-- the reason (one of S2 to S7) applies to these parts of a call; S8 (out of memory) never does
abbrev pub IsFaultyIn : Held → Asked → Refusal → Type 0
IsFaultyIn held asked NotSubscribed = ⊥
IsFaultyIn held asked NamedTwice = (is_duplicated asked.named ≡ true) ⊎ (is_duplicated (ids_of asked.tasks) ≡ true)
IsFaultyIn held asked (NoSuchOffer index) = (d : Id) × (slice_get asked.named index ≡ Some d) × (offer_in held.hand d.value ≡ None)
IsFaultyIn held asked TwoAgents = has_two_agents (offers_named held.hand asked.accepted) ≡ true
IsFaultyIn held asked (WrongAgent task) = (t : TaskInfo) × (slice_get asked.tasks task ≡ Some t) × (is_elsewhere (offers_named held.hand asked.accepted) t ≡ true)
IsFaultyIn held asked (Exceeds task resource) = BreaksAt (offers_named held.hand asked.accepted) asked.tasks task resource
IsFaultyIn held asked NotOwed = (k : OwedKey) × (asked.acknowledged ≡ Some k) × (is_owed k held.owed ≡ false)
IsFaultyIn held asked NoMemory = ⊥

-- the reason (one of S1 to S7) applies to the call
abbrev pub IsFaulty : Held → Call → Refusal → Type 0
IsFaulty held call NotSubscribed = IsForeign held call
IsFaulty held call NamedTwice = IsFaultyIn held (asked_by call) NamedTwice
IsFaulty held call (NoSuchOffer index) = IsFaultyIn held (asked_by call) (NoSuchOffer index)
IsFaulty held call TwoAgents = IsFaultyIn held (asked_by call) TwoAgents
IsFaulty held call (WrongAgent task) = IsFaultyIn held (asked_by call) (WrongAgent task)
IsFaulty held call (Exceeds task resource) = IsFaultyIn held (asked_by call) (Exceeds task resource)
IsFaulty held call NotOwed = IsFaultyIn held (asked_by call) NotOwed
IsFaulty held call NoMemory = ⊥

-- ---- the order of the reasons: by number, then by task, then by resource

abbrev pub rank : Refusal → ℕ × ℕ × ℕ
rank NotSubscribed = (1, 0, 0)
rank NamedTwice = (2, 0, 0)
rank (NoSuchOffer index) = (3, index, 0)
rank TwoAgents = (4, 0, 0)
rank (WrongAgent task) = (5, task, 0)
rank (Exceeds task resource) = (6, task, resource)
rank NotOwed = (7, 0, 0)
rank NoMemory = (8, 0, 0)

abbrev pub IsLess : ℕ × ℕ × ℕ → ℕ × ℕ × ℕ → Type 0
IsLess p q = (p.0 < q.0) ⊎ ((p.0 ≡ q.0) × ((p.1 < q.1) ⊎ ((p.1 ≡ q.1) × (p.2 < q.2))))

abbrev pub ComesBefore : Refusal → Refusal → Type 0
ComesBefore fault other = IsLess (rank fault) (rank other)

-- `fault` is the first reason that applies, if `faulty` states which reasons apply
pub record IsFirst (faulty : Refusal → Type 0) (fault : Refusal) : Type 0 where
  pub is : faulty fault
  pub first : (other : Refusal) → ComesBefore other fault → faulty other → ⊥

-- the call is refused for `fault`, the first reason that applies to it
abbrev pub IsRefused : Held → Call → Refusal → Type 0
IsRefused held call fault = IsFirst (IsFaulty held call) fault

-- ---- the reported reason, with a task's index of at most 2^64 - 1

abbrev pub as_reported : Refusal → Refusal
as_reported NotSubscribed = NotSubscribed
as_reported NamedTwice = NamedTwice
as_reported (NoSuchOffer index) = NoSuchOffer index
as_reported TwoAgents = TwoAgents
as_reported (WrongAgent task) = WrongAgent (as_index task)
as_reported (Exceeds task resource) = Exceeds (as_index task) resource
as_reported NotOwed = NotOwed
as_reported NoMemory = NoMemory

-- the result is the first reason that applies, or `None` if no reason applies
abbrev pub ReportsFirst : (Refusal → Type 0) → Option Refusal → Type 0
ReportsFirst faulty None = (fault : Refusal) → faulty fault → ⊥
ReportsFirst faulty (Some answer) = (fault : Refusal) × (answer ≡ as_reported fault) × IsFirst faulty fault

-- the result of checking the call: the first reason against it, or `None`
abbrev pub Answers : Held → Call → Option Refusal → Type 0
Answers held call answer = ReportsFirst (IsFaulty held call) answer

-- ---- calls that are not made yet

-- the framework of the calls that a session makes: the known one, or any if none is known
abbrev pub IsOwn : Held → Id → Type 0
IsOwn held framework = IfSome held.framework (λ known. known ≡ framework)

-- a call that is refused only for S1, and is not a SUBSCRIBE
abbrev pub IsPlain : Call → Type 0
IsPlain (of.Subscribe framework body) = ⊥
IsPlain (of.Accept framework body) = ⊥
IsPlain (of.Decline framework body) = ⊥
IsPlain (of.Revive framework) = Unit {0}
IsPlain (of.Kill framework body) = Unit {0}
IsPlain (of.Acknowledge framework body) = ⊥
IsPlain (of.Reconcile framework body) = Unit {0}
IsPlain (of.Teardown framework) = Unit {0}
IsPlain (of.Suppress framework) = Unit {0}
IsPlain (of.Shutdown framework body) = Unit {0}
IsPlain (of.Message framework body) = Unit {0}
