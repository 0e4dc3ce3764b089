-- How steps follow one another, and that each change is a step.
use Rattle.std.proofs.Common.{◌≡◌, ◌∙◌, ℕ, ◌==◌, if◌then◌else◌, List, [], ◌∷◌, ◌++◌, Bool, true, false, Option, Some, None, Ok, Result, take, take-append-drop, refl, sym, ap, subst}
use Rattle.std.specs.List.{AllByRecursion}
use Rattle.mes_frame.proofs.Chunks.{all_append}
use Rattle.std.specs.Result.{OnOk}
use Rattle.std.proofs.lemmas.Result.{on_ok_weaker}
use Rattle.mes_msg.specs.Event.{Event}
use Rattle.mes_double_master.specs.Masters.{MasterState, stream_broke}
use Rattle.mes_double_master.specs.Sending.{offers_sent}
use Rattle.mes_model.specs.Offer.{Offer}
use Rattle.mes_msg.specs.Event.TheVariants as of
use Rattle.mes_double_cluster.specs.declared.task.Task.{Task}
use Rattle.mes_double_faults.specs.declared.fault.CallFault.{CallFault}
use Rattle.mes_double_faults.specs.declared.fault.Fault.TheVariants as planned
use Rattle.mes_double_live.specs.Bodies.{BodyState, cleared, written, Sends}
use Rattle.mes_double_live.specs.Lives.{LiveState, Pushes, planned_fault, next_call, noted_by, noted, call_counted, record_of}
use Rattle.mes_double_live.specs.Steps.{Step, StepsMaster, StepsBody, StepsTasks, StepsWaiting, LeadsMaster, LeadsBody, LeadsTasks, LeadsWaiting, Leads, StepsTo, Makes, IsNoOffers, IsOffers, IsReply, IsSending, IsDelivering, IsReplying, IsResending, IsEnding, IsNoting, IsOfTime, IsTaking}
use Rattle.mes_double_live.specs.Steps.Step.{handles, breaks, sends, resends, relays, reports, beats, obeys, waits, drops, releases, goes, clears, notes, takes, launches, acknowledges, kills}

-- ---- steps that follow one another

pub body-then : (a b c : BodyState) (before steps : List Step) → LeadsBody a before b → LeadsBody b steps c → LeadsBody a (before ++ steps) c
body-then a b c [] steps first next = subst (λ (x : BodyState). LeadsBody x steps c) first next
body-then a b c (step ∷ before) steps (mid, is, rest) next = (mid, is, body-then mid b c before steps rest next)

pub tasks-then : (a b c : List Task) (before steps : List Step) → LeadsTasks a before b → LeadsTasks b steps c → LeadsTasks a (before ++ steps) c
tasks-then a b c [] steps first next = subst (λ (x : List Task). LeadsTasks x steps c) first next
tasks-then a b c (step ∷ before) steps (mid, is, rest) next = (mid, is, tasks-then mid b c before steps rest next)

pub waiting-then : (a b c : List Event) (before steps : List Step) → LeadsWaiting a before b → LeadsWaiting b steps c → LeadsWaiting a (before ++ steps) c
waiting-then a b c [] steps first next = subst (λ (x : List Event). LeadsWaiting x steps c) first next
waiting-then a b c (step ∷ before) steps (mid, is, rest) next = (mid, is, waiting-then mid b c before steps rest next)

pub master-then : (a b c : MasterState) (before steps : List Step) → LeadsMaster a before b → LeadsMaster b steps c → LeadsMaster a (before ++ steps) c
master-then a b c [] steps first next = subst (λ (x : MasterState). LeadsMaster x steps c) first next
master-then a b c (step ∷ before) steps (mid, is, rest) next = (mid, is, master-then mid b c before steps rest next)

pub leads-then : (a b c : LiveState) (before steps : List Step) → Leads a before b → Leads b steps c → Leads a (before ++ steps) c
leads-then a b c before steps first next = record {
  master = master-then a.master b.master c.master before steps first.master next.master;
  body = body-then a.out b.out c.out before steps first.body next.body;
  tasks = tasks-then a.cluster.tasks b.cluster.tasks c.cluster.tasks before steps first.tasks next.tasks;
  waiting = waiting-then a.waiting b.waiting c.waiting before steps first.waiting next.waiting;
}

pub leads-one : (step : Step) (a b : LiveState) → StepsMaster step a.master b.master → StepsBody step a.out b.out → StepsTasks step a.cluster.tasks b.cluster.tasks
    → StepsWaiting step a.waiting b.waiting → Leads a (step ∷ []) b
leads-one step a b master body tasks waiting =
    record { master = (b.master, master, refl); body = (b.out, body, refl); tasks = (b.cluster.tasks, tasks, refl); waiting = (b.waiting, waiting, refl) }

-- two states have the same test master, the same body, the same tasks and the same waiting events
pub record Same (a b : LiveState) : Type 0 where
  pub master : b.master ≡ a.master
  pub body : b.out ≡ a.out
  pub tasks : b.cluster.tasks ≡ a.cluster.tasks
  pub waiting : b.waiting ≡ a.waiting

pub same : (a b : LiveState) → b ≡ a → Same a b
same a b e = record {
  master = ap (λ (x : LiveState). x.master) e;
  body = ap (λ (x : LiveState). x.out) e;
  tasks = ap (λ (x : LiveState). x.cluster.tasks) e;
  waiting = ap (λ (x : LiveState). x.waiting) e;
}

pub same-by : (a b m : LiveState) → b ≡ m → m.master ≡ a.master → m.out ≡ a.out → m.cluster.tasks ≡ a.cluster.tasks → m.waiting ≡ a.waiting → Same a b
same-by a b m e master body tasks waiting =
    let is = same m b e in record { master = is.master ∙ master; body = is.body ∙ body; tasks = is.tasks ∙ tasks; waiting = is.waiting ∙ waiting }

pub same-then : (a b c : LiveState) → Same a b → Same b c → Same a c
same-then a b c first next =
    record { master = next.master ∙ first.master; body = next.body ∙ first.body; tasks = next.tasks ∙ first.tasks; waiting = next.waiting ∙ first.waiting }

-- `m` is the view of the fields of a live test master of the value `a`, or what a call left
pub same-view : (a b m : LiveState) → m ≡ a → Same m b → Same a b
same-view a b m e from = same-then a m b (same a m e) from

pub leads-from : (a b c : LiveState) (steps : List Step) → Same a b → Leads b steps c → Leads a steps c
leads-from a b c steps e all = record {
  master = subst (λ (x : MasterState). LeadsMaster x steps c.master) e.master all.master;
  body = subst (λ (x : BodyState). LeadsBody x steps c.out) e.body all.body;
  tasks = subst (λ (x : List Task). LeadsTasks x steps c.cluster.tasks) e.tasks all.tasks;
  waiting = subst (λ (x : List Event). LeadsWaiting x steps c.waiting) e.waiting all.waiting;
}

pub leads-to : (a b c : LiveState) (steps : List Step) → Same b c → Leads a steps b → Leads a steps c
leads-to a b c steps e all = record {
  master = subst (LeadsMaster a.master steps) (sym e.master) all.master;
  body = subst (LeadsBody a.out steps) (sym e.body) all.body;
  tasks = subst (LeadsTasks a.cluster.tasks steps) (sym e.tasks) all.tasks;
  waiting = subst (LeadsWaiting a.waiting steps) (sym e.waiting) all.waiting;
}

pub leads-none : (a b : LiveState) → Same a b → Leads a [] b
leads-none a b e = record { master = e.master; body = e.body; tasks = e.tasks; waiting = e.waiting }

pub steps-same : {P : Step → Type 0} (a b : LiveState) → Same a b → StepsTo P a b
steps-same a b e = record { steps = []; allowed = tt; leads = leads-none a b e }

pub steps-then : {P : Step → Type 0} (a b c : LiveState) → StepsTo P a b → StepsTo P b c → StepsTo P a c
steps-then {P} a b c first next = record {
  steps = first.steps ++ next.steps;
  allowed = all_append P first.steps next.steps first.allowed next.allowed;
  leads = leads-then a b c first.steps next.steps first.leads next.leads;
}

pub all-wider : {P Q : Step → Type 0} → ((step : Step) → P step → Q step) → (steps : List Step) → AllByRecursion P steps → AllByRecursion Q steps
all-wider up [] all = tt
all-wider up (step ∷ steps) all = (up step all.0, all-wider up steps all.1)

pub steps-wider : {P Q : Step → Type 0} → ((step : Step) → P step → Q step) → (a b : LiveState) → StepsTo P a b → StepsTo Q a b
steps-wider up a b all = record { steps = all.steps; allowed = all-wider up all.steps all.allowed; leads = all.leads }

pub steps-from : {P : Step → Type 0} (a b c : LiveState) → Same a b → StepsTo P b c → StepsTo P a c
steps-from a b c e all = record { steps = all.steps; allowed = all.allowed; leads = leads-from a b c all.steps e all.leads }

pub steps-to : {P : Step → Type 0} (a b c : LiveState) → Same b c → StepsTo P a b → StepsTo P a c
steps-to a b c e all = record { steps = all.steps; allowed = all.allowed; leads = leads-to a b c all.steps e all.leads }

-- steps, and then what a last call does if it succeeds
pub steps-last : {P : Step → Type 0} {T E : Type 0} (result : Result T E) (a b c : LiveState) → StepsTo P a b → OnOk result (StepsTo P b c) → OnOk result (StepsTo P a c)
steps-last result a b c first last = on_ok_weaker result (steps-then a b c first) last

-- the body and the tasks are the same up to `b`, and a last call does this if it succeeds
pub steps-after : (P : Step → Type 0) {T E : Type 0} (result : Result T E) (a b c : LiveState) → Same a b → OnOk result (StepsTo P b c) → OnOk result (StepsTo P a c)
steps-after P result a b c e last = on_ok_weaker result (steps-from a b c e) last

pub steps-one : {P : Step → Type 0} (step : Step) (a b : LiveState) → P step → Leads a (step ∷ []) b → StepsTo P a b
steps-one step a b may leads = record { steps = step ∷ []; allowed = (may, tt); leads = leads }

-- ---- what is allowed

pub wider-last : {P Q : Step → Type 0} → ((step : Step) → P step → Q step) → {T E : Type 0} (result : Result T E) (a b : LiveState) → OnOk result (StepsTo P a b) → OnOk result (StepsTo Q a b)
wider-last up result a b last = on_ok_weaker result (steps-wider up a b) last

pub offers-reply : (event : Event) → IsOffers event → IsReply event
offers-reply (of.Offers list) is = tt
offers-reply (of.Subscribed body) is = absurd is
offers-reply (of.Rescind body) is = absurd is
offers-reply (of.Update body) is = absurd is
offers-reply (of.Message body) is = absurd is
offers-reply (of.Failure body) is = absurd is
offers-reply (of.Error body) is = absurd is
offers-reply of.Heartbeat is = absurd is
offers-reply (of.Other name) is = absurd is

pub sending-of-delivering : (step : Step) → IsSending step → IsDelivering step
sending-of-delivering (handles call given) is = is
sending-of-delivering breaks is = is
sending-of-delivering (sends now event) is = is
sending-of-delivering (resends now event) is = is
sending-of-delivering (relays now event) is = tt
sending-of-delivering (reports now index update finishes status) is = is
sending-of-delivering beats is = is
sending-of-delivering (obeys name) is = tt
sending-of-delivering (waits other) is = is
sending-of-delivering (drops event) is = tt
sending-of-delivering (releases now) is = is
sending-of-delivering (goes bytes) is = is
sending-of-delivering clears is = is
sending-of-delivering (notes fault) is = is
sending-of-delivering takes is = is
sending-of-delivering (launches launch tasks) is = is
sending-of-delivering (acknowledges body) is = is
sending-of-delivering (kills id) is = is

pub sending-of-replying : (step : Step) → IsSending step → IsReplying step
sending-of-replying (handles call given) is = is
sending-of-replying breaks is = is
sending-of-replying (sends now event) is = offers-reply event is
sending-of-replying (resends now event) is = is
sending-of-replying (relays now event) is = is
sending-of-replying (reports now index update finishes status) is = is
sending-of-replying beats is = is
sending-of-replying (obeys name) is = is
sending-of-replying (waits other) is = is
sending-of-replying (drops event) is = is
sending-of-replying (releases now) is = is
sending-of-replying (goes bytes) is = is
sending-of-replying clears is = is
sending-of-replying (notes fault) is = is
sending-of-replying takes is = is
sending-of-replying (launches launch tasks) is = is
sending-of-replying (acknowledges body) is = is
sending-of-replying (kills id) is = is

pub delivering-of-end : (step : Step) → IsDelivering step → IsEnding step
delivering-of-end (handles call given) is = is
delivering-of-end breaks is = tt
delivering-of-end (sends now event) is = is
delivering-of-end (resends now event) is = is
delivering-of-end (relays now event) is = is
delivering-of-end (reports now index update finishes status) is = is
delivering-of-end beats is = is
delivering-of-end (obeys name) is = is
delivering-of-end (waits other) is = is
delivering-of-end (drops event) is = is
delivering-of-end (releases now) is = is
delivering-of-end (goes bytes) is = is
delivering-of-end clears is = tt
delivering-of-end (notes fault) is = is
delivering-of-end takes is = is
delivering-of-end (launches launch tasks) is = is
delivering-of-end (acknowledges body) is = is
delivering-of-end (kills id) is = is

pub delivering-of-time : (time : ℕ) (step : Step) → IsDelivering step → IsOfTime time step
delivering-of-time time (handles call given) is = is
delivering-of-time time breaks is = is
delivering-of-time time (sends now event) is = is
delivering-of-time time (resends now event) is = tt
delivering-of-time time (relays now event) is = is
delivering-of-time time (reports now index update finishes status) is = is
delivering-of-time time beats is = is
delivering-of-time time (obeys name) is = is
delivering-of-time time (waits other) is = is
delivering-of-time time (drops event) is = is
delivering-of-time time (releases now) is = absurd is
delivering-of-time time (goes bytes) is = is
delivering-of-time time clears is = is
delivering-of-time time (notes fault) is = is
delivering-of-time time takes is = is
delivering-of-time time (launches launch tasks) is = is
delivering-of-time time (acknowledges body) is = is
delivering-of-time time (kills id) is = is

pub resending-of-time : (time : ℕ) (step : Step) → IsResending step → IsOfTime time step
resending-of-time time (handles call given) is = absurd is
resending-of-time time breaks is = absurd is
resending-of-time time (sends now event) is = absurd is
resending-of-time time (resends now event) is = tt
resending-of-time time (relays now event) is = absurd is
resending-of-time time (reports now index update finishes status) is = absurd is
resending-of-time time beats is = absurd is
resending-of-time time (obeys name) is = absurd is
resending-of-time time (waits other) is = absurd is
resending-of-time time (drops event) is = absurd is
resending-of-time time (releases now) is = absurd is
resending-of-time time (goes bytes) is = absurd is
resending-of-time time clears is = absurd is
resending-of-time time (notes fault) is = absurd is
resending-of-time time takes is = absurd is
resending-of-time time (launches launch tasks) is = absurd is
resending-of-time time (acknowledges body) is = absurd is
resending-of-time time (kills id) is = absurd is

sending-of-time : (time : ℕ) (step : Step) → IsSending step → IsOfTime time step
sending-of-time time step is = delivering-of-time time step (sending-of-delivering step is)

-- bytes are released, events are sent, updates sent again, and then what a last call sends if it succeeds
pub time-last : {T E : Type 0} (result : Result T E) (time : ℕ) (a b c d e : LiveState) → StepsTo (IsOfTime time) a b → StepsTo IsDelivering b c → StepsTo IsResending c d
    → OnOk result (StepsTo IsSending d e) → OnOk result (StepsTo (IsOfTime time) a e)
time-last result time a b c d e first next again last =
    let sent = steps-then a b c first (steps-wider (delivering-of-time time) b c next) in
    let resent = steps-then a c d sent (steps-wider (resending-of-time time) c d again) in
    on_ok_weaker result (λ (rest : StepsTo IsSending d e). steps-then a d e resent (steps-wider (sending-of-time time) d e rest)) last

-- ---- one step

-- an event is sent by this step
pub pushed-leads : (step : Step) (event : Event) (a b : LiveState) → Pushes event a b → (b.master ≡ a.master → StepsMaster step a.master b.master)
    → (Sends a.time a.out (record_of event) b.out → StepsBody step a.out b.out) → (b.cluster.tasks ≡ a.cluster.tasks → StepsTasks step a.cluster.tasks b.cluster.tasks)
    → (b.waiting ≡ a.waiting → StepsWaiting step a.waiting b.waiting) → Leads a (step ∷ []) b
pushed-leads step event a b pushes master body tasks waiting =
    leads-one step a b (master (ap (λ (x : LiveState). x.master) pushes.rest)) (body pushes.body) (tasks (ap (λ (x : LiveState). x.cluster.tasks) pushes.rest))
    (waiting (ap (λ (x : LiveState). x.waiting) pushes.rest))

-- an event other than OFFERS leaves the test master as it is
pub no-offers-makes : (event : Event) (m n : MasterState) → IsNoOffers event → n ≡ m → Makes event m n
no-offers-makes (of.Offers list) m n other is = absurd other
no-offers-makes (of.Subscribed body) m n other is = is
no-offers-makes (of.Rescind body) m n other is = is
no-offers-makes (of.Update body) m n other is = is
no-offers-makes (of.Message body) m n other is = is
no-offers-makes (of.Failure body) m n other is = is
no-offers-makes (of.Error body) m n other is = is
no-offers-makes of.Heartbeat m n other is = is
no-offers-makes (of.Other name) m n other is = is

pub sent-leads : (event : Event) (a b : LiveState) → IsNoOffers event → Pushes event a b → Leads a (sends a.time event ∷ []) b
sent-leads event a b other pushes = pushed-leads (sends a.time event) event a b pushes (no-offers-makes event a.master b.master other) (λ x. x) (λ x. x) (λ x. x)

pub sent-steps : {P : Step → Type 0} (event : Event) (a b : LiveState) → P (sends a.time event) → IsNoOffers event → Pushes event a b → StepsTo P a b
sent-steps event a b may other pushes = steps-one (sends a.time event) a b may (sent-leads event a b other pushes)

-- OFFERS were made, and were sent
pub offered-steps : (list : List Offer) (a b c : LiveState) → offers_sent a.master list ≡ Ok (of.Offers list, b.master) → b.out ≡ a.out → b.cluster.tasks ≡ a.cluster.tasks → b.waiting ≡ a.waiting
    → b.time ≡ a.time → Pushes (of.Offers list) b c → StepsTo IsSending a c
offered-steps list a b c made body tasks waiting time pushes =
    let master : offers_sent a.master list ≡ Ok (of.Offers list, c.master) =
    subst (λ (m : MasterState). offers_sent a.master list ≡ Ok (of.Offers list, m)) (sym (ap (λ (x : LiveState). x.master) pushes.rest)) made in
    let from : Sends b.time a.out (record_of (of.Offers list)) c.out = subst (λ (o : BodyState). Sends b.time o (record_of (of.Offers list)) c.out) body pushes.body in
    let sent : Sends a.time a.out (record_of (of.Offers list)) c.out = subst (λ (now : ℕ). Sends now a.out (record_of (of.Offers list)) c.out) time from in
    steps-one (sends a.time (of.Offers list)) a c tt
    (leads-one (sends a.time (of.Offers list)) a c master sent (ap (λ (x : LiveState). x.cluster.tasks) pushes.rest ∙ tasks) (ap (λ (x : LiveState). x.waiting) pushes.rest ∙ waiting))

-- steps, and then a last call that sends an event if it succeeds
pub push-last : {P : Step → Type 0} {T E : Type 0} (result : Result T E) (event : Event) (a b c : LiveState) → P (sends b.time event) → IsNoOffers event → StepsTo P a b
    → OnOk result (Pushes event b c) → OnOk result (StepsTo P a c)
push-last {P} result event a b c may other first last = on_ok_weaker result (λ (pushes : Pushes event b c). steps-then a b c first (sent-steps event b c may other pushes)) last

-- the test master, the body, the tasks and the waiting events change by this step
pub body-steps : {P : Step → Type 0} (step : Step) (a b : LiveState) → P step → StepsMaster step a.master b.master → StepsBody step a.out b.out
    → StepsTasks step a.cluster.tasks b.cluster.tasks → StepsWaiting step a.waiting b.waiting → StepsTo P a b
body-steps step a b may master body tasks waiting = steps-one step a b may (leads-one step a b master body tasks waiting)

pub written-steps : (count : ℕ) (a b : LiveState) → b.master ≡ a.master → b.out ≡ written count a.out → b.cluster.tasks ≡ a.cluster.tasks → b.waiting ≡ a.waiting → StepsTo IsTaking a b
written-steps count a b master is tasks waiting =
    let bytes : StepsBody (goes (take count a.out.pending)) a.out (written count a.out) = (sym (take-append-drop count a.out.pending), refl) in
    body-steps (goes (take count a.out.pending)) a b tt master (subst (StepsBody (goes (take count a.out.pending)) a.out) (sym is) bytes) tasks waiting

-- the stream of the test master is disconnected, and ends
pub broken-steps : (a b : LiveState) → b.master ≡ stream_broke a.master → b.out ≡ cleared a.out → b.cluster.tasks ≡ a.cluster.tasks → b.waiting ≡ a.waiting → StepsTo IsEnding a b
broken-steps a b master body tasks waiting = record {
  steps = breaks ∷ clears ∷ [];
  allowed = (tt, (tt, tt));
  leads = record {
    master = (b.master, master, (b.master, refl, refl));
    body = (a.out, refl, (b.out, body, refl));
    tasks = (b.cluster.tasks, tasks, (b.cluster.tasks, refl, refl));
    waiting = (b.waiting, waiting, (b.waiting, refl, refl));
  };
}

-- the stream of the test master is disconnected
pub disconnected-steps : (a b : LiveState) → b.master ≡ stream_broke a.master → b ≡ record a { master = b.master } → StepsTo IsEnding a b
disconnected-steps a b master rest =
    body-steps breaks a b tt master (ap (λ (x : LiveState). x.out) rest) (ap (λ (x : LiveState). x.cluster.tasks) rest) (ap (λ (x : LiveState). x.waiting) rest)

-- ---- the planned faults

noted-steps : (fault : Option CallFault) (number : ℕ) (a b : LiveState) → b.master ≡ a.master → b.out ≡ record a.out { happened = noted_by fault number a.out.happened }
    → b.cluster.tasks ≡ a.cluster.tasks → b.waiting ≡ a.waiting → StepsTo IsNoting a b
noted-steps None number a b master is tasks waiting = steps-same a b (record { master = master; body = is; tasks = tasks; waiting = waiting })
noted-steps (Some fault) number a b master is tasks waiting = body-steps (notes (planned.Call number fault)) a b tt master is tasks waiting

counted-by : (idle : Bool) (a b : LiveState) → b.master ≡ a.master → b.out ≡ (if idle then noted a else a.out) → b.cluster.tasks ≡ a.cluster.tasks → b.waiting ≡ a.waiting
    → StepsTo IsNoting a b
counted-by true a b master is tasks waiting = noted-steps (planned_fault a) (next_call a) a b master is tasks waiting
counted-by false a b master is tasks waiting = steps-same a b (record { master = master; body = is; tasks = tasks; waiting = waiting })

pub counted-steps : (a b : LiveState) → b ≡ call_counted a → StepsTo IsNoting a b
counted-steps a b is =
    counted-by (a.busy == 0) a b (ap (λ (x : LiveState). x.master) is) (ap (λ (x : LiveState). x.out) is) (ap (λ (x : LiveState). x.cluster.tasks) is) (ap (λ (x : LiveState). x.waiting) is)
