-- Which steps the steps of a call may be, and what a call has the test master send.
use Rattle.std.proofs.Common.{◌≡◌, ◌∙◌, ap, subst, sym, if◌then◌else◌, ℕ, ◌==◌, List, [], ◌∷◌, ◌++◌, Bool, true, false, Option, Some, None, refl, map}
use Rattle.std.specs.List.{AllByRecursion}
use Rattle.std.specs.Prelude.{not, ◌||◌}
use Rattle.mes_model.specs.Id.{Id}
use Rattle.mes_model.specs.Owed.{key_by, owed_key_of}
use Rattle.mes_model.specs.TaskStatus.{TaskStatus}
use Rattle.mes_msg.specs.Accept.{Accept}
use Rattle.mes_msg.specs.Call.{Call}
use Rattle.mes_msg.specs.Event.{Event}
use Rattle.mes_msg.specs.Call.TheVariants as of
use Rattle.mes_session_state.specs.Calls.{framework_of}
use Rattle.mes_double_master.specs.Masters.{MasterState, MasterAnswer, agrees, answered, asked_for, carried_out, handled, in_stream, is_named, is_subscribe, plain, reconciled_event, subscribed}
use Rattle.mes_double_live.specs.Lives.{LiveState}
use Rattle.mes_double_live.specs.Calling.{carrying, demanded_by, following, opened_by, removed, removing, sender}
use Rattle.mes_double_live.specs.Opening.{ChangesBy, opening, sending}
use Rattle.mes_double_live.proofs.OpenLemmas.{begins-wider, makes-first}
use Rattle.mes_double_live.proofs.StepLemmas.{leads-one, offers-reply, sending-of-replying}
use Rattle.mes_double_live.specs.Steps.{Step, Handles, IsNoOffers, IsSending, IsDelivering, IsReplying, IsSubscribe, IsLaunching, IsOfCall, BeginsWith, StepsTo}
use Rattle.mes_double_live.specs.Steps.Step.{handles, breaks, sends, resends, relays, reports, beats, obeys, waits, drops, releases, goes, clears, notes, takes, launches, acknowledges, kills}

pub replying-of-call : (call : Call) (step : Step) → IsReplying step → IsOfCall call step
replying-of-call call (handles other given) is = is
replying-of-call call breaks is = is
replying-of-call call (sends now event) is = is
replying-of-call call (resends now event) is = is
replying-of-call call (relays now event) is = absurd is
replying-of-call call (reports now index update finishes status) is = is
replying-of-call call beats is = is
replying-of-call call (obeys name) is = absurd is
replying-of-call call (waits other) is = is
replying-of-call call (drops event) is = absurd is
replying-of-call call (releases now) is = is
replying-of-call call (goes bytes) is = is
replying-of-call call clears is = is
replying-of-call call (notes fault) is = is
replying-of-call call takes is = is
replying-of-call call (launches launch tasks) is = absurd is
replying-of-call call (acknowledges body) is = is
replying-of-call call (kills id) is = is

pub sending-of-call : (call : Call) (step : Step) → IsSending step → IsOfCall call step
sending-of-call call step is = replying-of-call call step (sending-of-replying step is)

-- a SUBSCRIBE takes the events that wait
pub delivering-of-subscribe : (call : Call) → IsSubscribe call → (step : Step) → IsDelivering step → IsOfCall call step
delivering-of-subscribe call on (handles other given) is = is
delivering-of-subscribe call on breaks is = is
delivering-of-subscribe call on (sends now event) is = offers-reply event is
delivering-of-subscribe call on (resends now event) is = is
delivering-of-subscribe call on (relays now event) is = on
delivering-of-subscribe call on (reports now index update finishes status) is = is
delivering-of-subscribe call on beats is = is
delivering-of-subscribe call on (obeys name) is = on
delivering-of-subscribe call on (waits other) is = is
delivering-of-subscribe call on (drops event) is = on
delivering-of-subscribe call on (releases now) is = is
delivering-of-subscribe call on (goes bytes) is = is
delivering-of-subscribe call on clears is = is
delivering-of-subscribe call on (notes fault) is = is
delivering-of-subscribe call on takes is = is
delivering-of-subscribe call on (launches launch tasks) is = absurd is
delivering-of-subscribe call on (acknowledges body) is = is
delivering-of-subscribe call on (kills id) is = is

pub launching-of-call : (framework : Id) (body : Accept) (step : Step) → IsLaunching step → IsOfCall (of.Accept framework body) step
launching-of-call framework accept (handles other given) is = is
launching-of-call framework accept breaks is = is
launching-of-call framework accept (sends now event) is = is
launching-of-call framework accept (resends now event) is = is
launching-of-call framework accept (relays now event) is = absurd is
launching-of-call framework accept (reports now index update finishes status) is = is
launching-of-call framework accept beats is = is
launching-of-call framework accept (obeys name) is = absurd is
launching-of-call framework accept (waits other) is = is
launching-of-call framework accept (drops event) is = absurd is
launching-of-call framework accept (releases now) is = is
launching-of-call framework accept (goes bytes) is = is
launching-of-call framework accept clears is = is
launching-of-call framework accept (notes fault) is = is
launching-of-call framework accept takes is = is
launching-of-call framework accept (launches launch tasks) is = tt
launching-of-call framework accept (acknowledges body) is = is
launching-of-call framework accept (kills id) is = is

pub replying-of-launch : (step : Step) → IsReplying step → IsLaunching step
replying-of-launch (handles other given) is = is
replying-of-launch breaks is = is
replying-of-launch (sends now event) is = is
replying-of-launch (resends now event) is = is
replying-of-launch (relays now event) is = is
replying-of-launch (reports now index update finishes status) is = is
replying-of-launch beats is = is
replying-of-launch (obeys name) is = is
replying-of-launch (waits other) is = is
replying-of-launch (drops event) is = is
replying-of-launch (releases now) is = is
replying-of-launch (goes bytes) is = is
replying-of-launch clears is = is
replying-of-launch (notes fault) is = is
replying-of-launch takes is = is
replying-of-launch (launches launch tasks) is = tt
replying-of-launch (acknowledges body) is = is
replying-of-launch (kills id) is = is

-- a TEARDOWN does nothing that another call may not
pub teardown-of-call : (framework : Id) (call : Call) (step : Step) → IsOfCall (of.Teardown framework) step → IsOfCall call step
teardown-of-call framework call (handles other given) is = is
teardown-of-call framework call breaks is = is
teardown-of-call framework call (sends now event) is = is
teardown-of-call framework call (resends now event) is = is
teardown-of-call framework call (relays now event) is = absurd (cc)
teardown-of-call framework call (reports now index update finishes status) is = is
teardown-of-call framework call beats is = is
teardown-of-call framework call (obeys name) is = absurd (cc)
teardown-of-call framework call (waits other) is = is
teardown-of-call framework call (drops event) is = absurd (cc)
teardown-of-call framework call (releases now) is = is
teardown-of-call framework call (goes bytes) is = is
teardown-of-call framework call clears is = is
teardown-of-call framework call (notes fault) is = is
teardown-of-call framework call takes is = is
teardown-of-call framework call (launches launch tasks) is = absurd is
teardown-of-call framework call (acknowledges body) is = is
teardown-of-call framework call (kills id) is = is

-- ---- the first steps of a call

pub subscribe-follows : (live : LiveState) (call : Call) (answer : MasterAnswer) → is_subscribe call ≡ true → (answer.status == 200) ≡ true → following live call answer ≡ opening live
subscribe-follows live call answer is ok =
    ap (λ (b : Bool). if b then (if answer.status == 200 then opening live else []) else (if answer.status == 202 then sending live.time answer.events ++ demanded_by call else [])) is
    ∙ ap (λ (b : Bool). if b then opening live else []) ok

pub subscribe-refused : (live : LiveState) (call : Call) (answer : MasterAnswer) → is_subscribe call ≡ true → (answer.status == 200) ≡ false → following live call answer ≡ []
subscribe-refused live call answer is off =
    ap (λ (b : Bool). if b then (if answer.status == 200 then opening live else []) else (if answer.status == 202 then sending live.time answer.events ++ demanded_by call else [])) is
    ∙ ap (λ (b : Bool). if b then opening live else []) off

pub other-follows : (live : LiveState) (call : Call) (answer : MasterAnswer) → is_subscribe call ≡ false → (answer.status == 202) ≡ true
    → following live call answer ≡ sending live.time answer.events ++ demanded_by call
other-follows live call answer is ok =
    ap (λ (b : Bool). if b then (if answer.status == 200 then opening live else []) else (if answer.status == 202 then sending live.time answer.events ++ demanded_by call else [])) is
    ∙ ap (λ (b : Bool). if b then sending live.time answer.events ++ demanded_by call else []) ok

pub other-refused : (live : LiveState) (call : Call) (answer : MasterAnswer) → is_subscribe call ≡ false → (answer.status == 202) ≡ false → following live call answer ≡ []
other-refused live call answer is off =
    ap (λ (b : Bool). if b then (if answer.status == 200 then opening live else []) else (if answer.status == 202 then sending live.time answer.events ++ demanded_by call else [])) is
    ∙ ap (λ (b : Bool). if b then sending live.time answer.events ++ demanded_by call else []) off

-- the test master was given the call, and then its first steps follow
pub carried-begins : {P : Step → Type 0} (call : Call) (given : Option (List ℕ)) (steps : List Step) (a mid b : LiveState) → Handles call given a.master mid.master
    → mid ≡ record a { master = mid.master } → following a call (handled a.master call given) ≡ steps → BeginsWith P steps mid b → BeginsWith P (carrying a call given) a b
carried-begins {P} call given steps a mid b by rest is begins =
    let first : ChangesBy (handles call given ∷ []) a mid = record {
      leads =
          leads-one (handles call given) a mid by (ap (λ (x : LiveState). x.out) rest) (ap (λ (x : LiveState). x.cluster.tasks) rest) (ap (λ (x : LiveState). x.waiting) rest);
      time = ap (λ (x : LiveState). x.time) rest;
    } in
    subst (λ (l : List Step). BeginsWith P (handles call given ∷ l) a b) (sym is) (makes-first (handles call given ∷ []) steps a mid b first begins)

-- nothing follows but other steps
pub carried-alone : {P : Step → Type 0} (call : Call) (given : Option (List ℕ)) (a mid b : LiveState) → Handles call given a.master mid.master → mid ≡ record a { master = mid.master }
    → following a call (handled a.master call given) ≡ [] → StepsTo P mid b → BeginsWith P (carrying a call given) a b
carried-alone call given a mid b by rest is all =
    carried-begins call given [] a mid b by rest is (record { rest = all.steps; allowed = all.allowed; leads = all.leads })

-- the events of its response are sent, and then it does what it demands
pub carried-done : {P : Step → Type 0} (call : Call) (given : Option (List ℕ)) (events : List Event) (a mid b : LiveState) → Handles call given a.master mid.master
    → mid ≡ record a { master = mid.master } → is_subscribe call ≡ false → ((handled a.master call given).status == 202) ≡ true → events ≡ (handled a.master call given).events
    → BeginsWith P (sending mid.time events ++ demanded_by call) mid b → BeginsWith P (carrying a call given) a b
carried-done {P} call given events a mid b by rest other ok are begins =
    let time : mid.time ≡ a.time = ap (λ (x : LiveState). x.time) rest in
    let steps : sending mid.time events ++ demanded_by call ≡ sending a.time (handled a.master call given).events ++ demanded_by call =
    ap (λ (now : ℕ). sending now events ++ demanded_by call) time ∙ ap (λ (l : List Event). sending a.time l ++ demanded_by call) are in
    carried-begins call given _ a mid b by rest (other-follows a call (handled a.master call given) other ok) (subst (λ (l : List Step). BeginsWith P l mid b) steps begins)

-- the status says which
pub status-is : (status other : ℕ) (n : ℕ) → status ≡ other → status ≡ n → (n == n) ≡ true → (other == n) ≡ true
status-is status other n same is e = ap (λ (s : ℕ). s == n) (sym same ∙ is) ∙ e

-- ---- the stream that a call opens

pub opens-none : (status : ℕ) (m : MasterState) → (status == 200) ≡ false → None ≡ opened_by status m
opens-none status m off = sym (ap (λ (b : Bool). if b then m.stream else None) off)

pub opens-one : (status : ℕ) (m : MasterState) → status ≡ 200 → m.stream ≡ opened_by status m
opens-one status m is = sym (ap (λ (s : ℕ). opened_by s m) is)

named-status : (named : Bool) (m : MasterState) (call : Call) → ((if named then carried_out m call else plain 400 m).status == 200) ≡ false
named-status false m call = refl
named-status true m (of.Subscribe framework body) = refl
named-status true m (of.Accept framework body) = refl
named-status true m (of.Decline framework body) = refl
named-status true m (of.Revive framework) = refl
named-status true m (of.Kill framework body) = refl
named-status true m (of.Acknowledge framework body) = refl
named-status true m (of.Reconcile framework body) = refl
named-status true m (of.Teardown framework) = refl
named-status true m (of.Suppress framework) = refl
named-status true m (of.Shutdown framework body) = refl
named-status true m (of.Message framework body) = refl

stream-status : (m : MasterState) (call : Call) (stream given : Option (List ℕ)) → ((in_stream m call stream given).status == 200) ≡ false
stream-status m call None given = refl
stream-status m call (Some current) given = named-status (is_named current given) m call

answered-status : (subscribes : Bool) (m : MasterState) (call : Call) (given : Option (List ℕ)) → subscribes ≡ false
    → ((if subscribes then subscribed m m.ids else in_stream m call m.stream given).status == 200) ≡ false
answered-status false m call given is = stream-status m call m.stream given
answered-status true m call given is = absurd (cc)

refused-status : (refused : Bool) (m : MasterState) (call : Call) (given : Option (List ℕ)) → is_subscribe call ≡ false
    → ((if refused then plain 403 m else answered m call given).status == 200) ≡ false
refused-status true m call given is = refl
refused-status false m call given is = answered-status (is_subscribe call) m call given is

-- only a SUBSCRIBE has the status 200
pub other-status : (m : MasterState) (call : Call) (given : Option (List ℕ)) → is_subscribe call ≡ false → ((handled m call given).status == 200) ≡ false
other-status m call given is = refused-status (m.down || not (agrees m.framework (framework_of call))) m call given is

-- ---- the events of a response

needs-no-uuid : (task : Id) (agent : Option Id) → key_by task agent None ≡ None
needs-no-uuid task None = refl
needs-no-uuid task (Some agent) = refl

pub needs-none : (status : TaskStatus) → status.uuid ≡ None → owed_key_of status ≡ None
needs-none status is = ap (key_by status.task_id status.agent_id) is ∙ needs-no-uuid status.task_id status.agent_id

reconciled-no-offers : (statuses : List TaskStatus) → AllByRecursion IsNoOffers (map reconciled_event statuses)
reconciled-no-offers [] = tt
reconciled-no-offers (status ∷ statuses) = (tt, reconciled-no-offers statuses)

carried-no-offers : (m : MasterState) (call : Call) → AllByRecursion IsNoOffers (carried_out m call).events
carried-no-offers m (of.Subscribe framework body) = tt
carried-no-offers m (of.Accept framework body) = tt
carried-no-offers m (of.Decline framework body) = tt
carried-no-offers m (of.Revive framework) = tt
carried-no-offers m (of.Kill framework body) = tt
carried-no-offers m (of.Acknowledge framework body) = tt
carried-no-offers m (of.Reconcile framework body) = reconciled-no-offers (asked_for m.latest body.tasks)
carried-no-offers m (of.Teardown framework) = tt
carried-no-offers m (of.Suppress framework) = tt
carried-no-offers m (of.Shutdown framework body) = tt
carried-no-offers m (of.Message framework body) = tt

named-no-offers : (named : Bool) (m : MasterState) (call : Call) → AllByRecursion IsNoOffers (if named then carried_out m call else plain 400 m).events
named-no-offers true m call = carried-no-offers m call
named-no-offers false m call = tt

stream-no-offers : (m : MasterState) (call : Call) (stream given : Option (List ℕ)) → AllByRecursion IsNoOffers (in_stream m call stream given).events
stream-no-offers m call None given = tt
stream-no-offers m call (Some current) given = named-no-offers (is_named current given) m call

subscribed-no-offers : (m : MasterState) (ids : List (List ℕ)) → AllByRecursion IsNoOffers (subscribed m ids).events
subscribed-no-offers m [] = tt
subscribed-no-offers m (id ∷ ids) = (tt, tt)

answered-no-offers : (subscribes : Bool) (m : MasterState) (call : Call) (given : Option (List ℕ))
    → AllByRecursion IsNoOffers (if subscribes then subscribed m m.ids else in_stream m call m.stream given).events
answered-no-offers true m call given = subscribed-no-offers m m.ids
answered-no-offers false m call given = stream-no-offers m call m.stream given

refused-no-offers : (refused : Bool) (m : MasterState) (call : Call) (given : Option (List ℕ))
    → AllByRecursion IsNoOffers (if refused then plain 403 m else answered m call given).events
refused-no-offers true m call given = tt
refused-no-offers false m call given = answered-no-offers (is_subscribe call) m call given

-- no event of a response is an OFFERS
pub handled-no-offers : (m : MasterState) (call : Call) (given : Option (List ℕ)) → AllByRecursion IsNoOffers (handled m call given).events
handled-no-offers m call given = refused-no-offers (m.down || not (agrees m.framework (framework_of call))) m call given

-- ---- ACCEPT

named-events : (named : Bool) (m : MasterState) (framework : Id) (body : Accept) → (if named then carried_out m (of.Accept framework body) else plain 400 m).events ≡ []
named-events true m framework body = refl
named-events false m framework body = refl

stream-events : (m : MasterState) (framework : Id) (body : Accept) (stream given : Option (List ℕ)) → (in_stream m (of.Accept framework body) stream given).events ≡ []
stream-events m framework body None given = refl
stream-events m framework body (Some current) given = named-events (is_named current given) m framework body

refused-events : (refused : Bool) (m : MasterState) (framework : Id) (body : Accept) (given : Option (List ℕ))
    → (if refused then plain 403 m else in_stream m (of.Accept framework body) m.stream given).events ≡ []
refused-events true m framework body given = refl
refused-events false m framework body given = stream-events m framework body m.stream given

nothing-by : (live : LiveState) (done : Bool) (events : List Event) → events ≡ [] → (if done then sending live.time events ++ [] else []) ≡ []
nothing-by live true events is = ap (λ (l : List Event). sending live.time l ++ []) is
nothing-by live false events is = refl

-- nothing is sent before the statuses of the tasks that are refused
pub accept-follows : (live : LiveState) (framework : Id) (body : Accept) (given : Option (List ℕ))
    → following live (of.Accept framework body) (handled live.master (of.Accept framework body) given) ≡ []
accept-follows live framework body given =
    nothing-by live ((handled live.master (of.Accept framework body) given).status == 202) (handled live.master (of.Accept framework body) given).events
    (refused-events (live.master.down || not (agrees live.master.framework (Some framework))) live.master framework body given)

-- ---- a call that is carried out as a TEARDOWN

-- the steps of the TEARDOWN are those of the call
pub removed-begins : (live : LiveState) (call : Call) (given : Option (List ℕ)) (framework named : Id) (new : LiveState) → Some framework ≡ sender call → named ≡ framework
    → BeginsWith (IsOfCall (of.Teardown named)) (carrying live (of.Teardown named) given) live new → BeginsWith (IsOfCall call) (removing live call given) live new
removed-begins live call given framework named new sent same begins =
    let wider : BeginsWith (IsOfCall call) (carrying live (of.Teardown named) given) live new = begins-wider (teardown-of-call named call) _ live new begins in
    let own : BeginsWith (IsOfCall call) (carrying live (of.Teardown framework) given) live new =
    subst (λ (f : Id). BeginsWith (IsOfCall call) (carrying live (of.Teardown f) given) live new) same wider in
    subst (λ (f : Option Id). BeginsWith (IsOfCall call) (removed live f given) live new) sent own

-- a SUBSCRIBE is not
pub not-removed : (live : LiveState) (call : Call) (given : Option (List ℕ)) → None ≡ sender call → removing live call given ≡ []
not-removed live call given none = ap (λ (f : Option Id). removed live f given) (sym none)
