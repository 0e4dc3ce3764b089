-- How the steps with which a stream begins follow one another.
use Rattle.std.proofs.Common.{◌≡◌, ◌∙◌, ap, subst, sym, ℕ, zero, suc, ◌+◌, ◌<◌, ◌≤◌, Bool, true, false, if◌then◌else◌, List, [], ◌∷◌, ◌++◌, take, length, get_or, map, Option, None, Some, Ok, Err, arith}
use Rattle.std.proofs.lemmas.List.{append-nil, append_assoc, map-append, take_all, take_more}
use Rattle.std.proofs.lemmas.Option.{slice_get-map, slice_get_within, get_or_from_slice_get}
use Rattle.std.specs.List.{AllByRecursion, slice_get}
use Rattle.mes_frame.proofs.Chunks.{all_append}
use Rattle.std.specs.Prelude.{codes, is_some, option_map, not, ◌||◌}
use Rattle.mes_model.specs.OwedKey.{OwedKey}
use Rattle.mes_model.specs.TaskStatus.{TaskStatus}
use Rattle.mes_msg.specs.Call.{Call}
use Rattle.mes_msg.specs.Event.{Event}
use Rattle.mes_double_master.specs.Masters.{MasterState, MasterAnswer, IsAnswer, agrees, answered, handled, in_stream, is_subscribe, plain, subscribed, subscribed_event, update_event}
use Rattle.mes_double_master.specs.Sending.{Sends, resend_sent, resent, waiting}
use Rattle.mes_session_state.specs.Calls.{framework_of}
use Rattle.mes_double_master.specs.declared.refusal.MasterRefusal.TheVariants.{NoStream}
use Rattle.mes_msg.specs.Event.TheVariants.{Error}
use Rattle.mes_double_live.specs.Lives.{LiveState, Pushes}
use Rattle.mes_double_live.specs.Opening.{ChangesBy, Resends, beginning, opening, replacing, resending, sending, unacknowledged}
use Rattle.mes_double_live.specs.Steps.{Step, Leads, BeginsWith, StepsTo, IsDelivering, IsNoOffers, IsResending}
use Rattle.mes_double_live.specs.Steps.Step.{sends, resends, beats, clears}
use Rattle.mes_double_live.proofs.StepLemmas.{Same, all-wider, leads-from, leads-none, leads-to, leads-then, pushed-leads, same, sent-leads, steps-one}

-- ---- steps

pub makes-none : (old new : LiveState) → new ≡ old → ChangesBy [] old new
makes-none old new e = record { leads = leads-none old new (same old new e); time = ap (λ (x : LiveState). x.time) e }

pub makes-then : (s t : List Step) (a b c : LiveState) → ChangesBy s a b → ChangesBy t b c → ChangesBy (s ++ t) a c
makes-then s t a b c first next = record { leads = leads-then a b c s t first.leads next.leads; time = next.time ∙ first.time }

-- the body, the tasks and the time are the same up to `b`
pub makes-from : (steps : List Step) (a b c : LiveState) → Same a b → b.time ≡ a.time → ChangesBy steps b c → ChangesBy steps a c
makes-from steps a b c e time makes = record { leads = leads-from a b c steps e makes.leads; time = makes.time ∙ time }

pub made-steps : {P : Step → Type 0} (step : Step) (a b : LiveState) → P step → ChangesBy (step ∷ []) a b → StepsTo P a b
made-steps step a b may makes = steps-one step a b may makes.leads

pub all-at : {X : Type 0} (P : X → Type 0) (xs : List X) (i : ℕ) (x : X) → i < length xs → x ≡ get_or xs i x → AllByRecursion P xs → P x
all-at P [] i x within is all = absurd (omega (arith, within))
all-at P (y ∷ ys) zero x within is all = subst P (sym is) all.0
all-at P (y ∷ ys) (suc i) x within is all = all-at P ys i x (omega (arith, within)) is all.1

-- these steps, and then events are sent
pub makes-begins : {P : Step → Type 0} (steps : List Step) (a b c : LiveState) → ChangesBy steps a b → StepsTo P b c → BeginsWith P steps a c
makes-begins steps a b c makes after = record { rest = after.steps; allowed = after.allowed; leads = leads-then a b c steps after.steps makes.leads after.leads }

pub begins-only : {P : Step → Type 0} (steps : List Step) (a b : LiveState) → ChangesBy steps a b → BeginsWith P steps a b
begins-only steps a b makes = record { rest = []; allowed = tt; leads = subst (λ (l : List Step). Leads a l b) (sym (append-nil steps)) makes.leads }

-- these are the steps that come first
pub begins-made : {P : Step → Type 0} (steps made : List Step) (a b : LiveState) → steps ≡ made → ChangesBy made a b → BeginsWith P steps a b
begins-made {P} steps made a b is makes = subst (λ (l : List Step). BeginsWith P l a b) (sym is) (begins-only made a b makes)

-- no step comes first
pub begins-sending : {P : Step → Type 0} (steps : List Step) (a b : LiveState) → steps ≡ [] → StepsTo P a b → BeginsWith P steps a b
begins-sending steps a b none all = record { rest = all.steps; allowed = all.allowed; leads = subst (λ (l : List Step). Leads a (l ++ all.steps) b) (sym none) all.leads }

-- an event is sent
pub pushed-makes : (event : Event) (a b : LiveState) → IsNoOffers event → Pushes event a b → ChangesBy (sends a.time event ∷ []) a b
pushed-makes event a b other pushes = record {
  leads = sent-leads event a b other pushes;
  time = ap (λ (x : LiveState). x.time) pushes.rest;
}

-- ---- updates that are sent again

-- the event that is sent, if one is
abbrev event-of : Sends → Option Event
event-of (Ok sent) = Some sent.0
event-of (Err why) = None

sent-again : (b : Bool) (m : MasterState) (entry : Option (OwedKey × TaskStatus)) (event : Event) → b ≡ true
    → (if b then resent m entry else Err NoStream) ≡ Ok (event, m)
    → option_map (λ (e : OwedKey × TaskStatus). update_event e.1) entry ≡ Some event
sent-again false m entry event on e = absurd (cc)
sent-again true m None event on e = absurd (cc)
sent-again true m (Some x) event on e = ap event-of e

pub found-update : (m : MasterState) (i : ℕ) (event : Event) → is_some m.stream ≡ true → resend_sent m i ≡ Ok (event, m) → slice_get (unacknowledged m) i ≡ Some event
found-update m i event on e =
    slice_get-map (λ (x : OwedKey × TaskStatus). update_event x.1) (waiting m.owing m.acked) i
    ∙ sent-again (is_some m.stream) m (slice_get (waiting m.owing m.acked) i) event on e

pub resent-leads : (i : ℕ) (event : Event) (a b : LiveState) → resend_sent a.master i ≡ Ok (event, a.master) → Pushes event a b → Leads a (resends a.time event ∷ []) b
resent-leads i event a b ok pushes =
    pushed-leads (resends a.time event) event a b pushes (λ is. (i, subst (λ (m : MasterState). resend_sent a.master i ≡ Ok (event, m)) (sym is) ok)) (λ x. x) (λ x. x) (λ x. x)

pub resent-steps : (i : ℕ) (event : Event) (a b : LiveState) → resend_sent a.master i ≡ Ok (event, a.master) → Pushes event a b → StepsTo IsResending a b
resent-steps i event a b ok pushes = steps-one (resends a.time event) a b tt (resent-leads i event a b ok pushes)

-- `t` is the view of the fields of a live test master of the value `s`
pub resent-found : (s t mid new : LiveState) (i : ℕ) (event : Event) → t ≡ s → Same t mid → mid.time ≡ t.time
    → resend_sent t.master i ≡ Ok (event, t.master) → Pushes event mid new → is_some s.master.stream ≡ true → Resends i true s new
resent-found s t mid new i event e is time ok pushes on =
    let resent : resend_sent mid.master i ≡ Ok (event, mid.master) = subst (λ (m : MasterState). resend_sent m i ≡ Ok (event, m)) (sym is.master) ok in
    let one : ChangesBy (resends mid.time event ∷ []) mid new =
    record { leads = resent-leads i event mid new resent pushes; time = ap (λ (x : LiveState). x.time) pushes.rest } in
    let from : ChangesBy (resends mid.time event ∷ []) t new = makes-from _ t mid new is time one in
    let at : ChangesBy (resends t.time event ∷ []) t new = subst (λ (now : ℕ). ChangesBy (resends now event ∷ []) t new) time from in (
      event,
      found-update s.master i event on (subst (λ (x : LiveState). resend_sent x.master i ≡ Ok (event, x.master)) e ok),
      subst (λ (x : LiveState). ChangesBy (resends x.time event ∷ []) x new) e at,
    )

-- one more of these steps at the same time
pub more-made : (step : ℕ → Event → Step) (xs : List Event) (i : ℕ) (event : Event) (first old new : LiveState) → i < length xs → event ≡ get_or xs i event
    → ChangesBy (map (step first.time) (take i xs)) first old → ChangesBy (step old.time event ∷ []) old new → ChangesBy (map (step first.time) (take (i + 1) xs)) first new
more-made step xs i event first old new within is before one =
    let again : ChangesBy (step first.time event ∷ []) old new = subst (λ (now : ℕ). ChangesBy (step now event ∷ []) old new) before.time one in
    let all = makes-then _ _ _ _ _ before again in
    let more : take (i + 1) xs ≡ take i xs ++ event ∷ [] = take_more xs i event within ∙ ap (λ (x : Event). take i xs ++ x ∷ []) (sym is) in
    let steps : map (step first.time) (take (i + 1) xs) ≡ map (step first.time) (take i xs) ++ step first.time event ∷ [] =
    ap (map (step first.time)) more ∙ map-append (step first.time) (take i xs) (event ∷ []) in
    subst (λ (l : List Step). ChangesBy l first new) (sym steps) all

-- the first events, and one more
pub sends-next : (xs : List Event) (i : ℕ) (event : Event) (first old new : LiveState) → i < length xs → event ≡ get_or xs i event
    → ChangesBy (sending first.time (take i xs)) first old → ChangesBy (sends old.time event ∷ []) old new → ChangesBy (sending first.time (take (i + 1) xs)) first new
sends-next xs i event first old new within is before one = more-made (λ now e. sends now e) xs i event first old new within is before one

-- the update at an index was sent again after those before it
pub resends-next : (i : ℕ) (first old new : LiveState) → old.master ≡ first.master
    → ChangesBy (resending first.time (take i (unacknowledged first.master))) first old → Resends i true old new
    → ChangesBy (resending first.time (take (i + 1) (unacknowledged first.master))) first new
resends-next i first old new same before (event, there, one) =
    let xs = unacknowledged first.master in
    let is : slice_get xs i ≡ Some event = subst (λ (m : MasterState). slice_get (unacknowledged m) i ≡ Some event) same there in
    more-made (λ now e. resends now e) xs i event first old new (slice_get_within xs i event is) (sym (get_or_from_slice_get xs i event event is)) before one

-- the same by whether an update was found
pub resends-on : (found : Bool) (i : ℕ) (first old new : LiveState) → found ≡ true → is_some first.master.stream ≡ true → old.master ≡ first.master
    → ChangesBy (resending first.time (take i (unacknowledged first.master))) first old → (is_some old.master.stream ≡ true → Resends i found old new)
    → ChangesBy (resending first.time (take (i + 1) (unacknowledged first.master))) first new
resends-on true i first old new is on same before again = resends-next i first old new same before (again (ap (λ (m : MasterState). is_some m.stream) same ∙ on))
resends-on false i first old new is on same before again = absurd (cc)

-- all events were sent
pub sends-all : (step : ℕ → Event → Step) (xs : List Event) (i : ℕ) (first new : LiveState) → length xs ≤ i → ChangesBy (map (step first.time) (take i xs)) first new
    → ChangesBy (map (step first.time) xs) first new
sends-all step xs i first new beyond before =
    subst (λ (steps : List Step). ChangesBy steps first new) (ap (map (step first.time)) (take_all i xs beyond)) before

-- ---- the beginning of a stream

-- the stream before was ended by an ERROR
pub replaces : (stream : Option (List ℕ)) (id message : List ℕ) (a b c : LiveState) → stream ≡ Some id → message ≡ codes "Framework failed over"
    → Pushes (Error (record { message = message })) a b → ChangesBy (clears ∷ []) b c → ChangesBy (replacing a.time stream) a c
replaces stream id message a b c is says pushes ends =
    let sent : ChangesBy (sends a.time (Error (record { message = codes "Framework failed over" })) ∷ []) a b =
    subst (λ (m : List ℕ). ChangesBy (sends a.time (Error (record { message = m })) ∷ []) a b) says (pushed-makes _ a b tt pushes) in
    subst (λ (s : Option (List ℕ)). ChangesBy (replacing a.time s) a c) (sym is) (makes-then _ _ a b c sent ends)

-- there was no stream before
pub clears-first : (stream : Option (List ℕ)) (a b : LiveState) → stream ≡ None → ChangesBy (clears ∷ []) a b → ChangesBy (replacing a.time stream) a b
clears-first stream a b is ends = subst (λ (s : Option (List ℕ)). ChangesBy (replacing a.time s) a b) (sym is) ends

pub stream-begins : (stream : Option (List ℕ)) (events : List Event) (s0 s1 s2 s3 s4 s5 : LiveState) → ChangesBy (replacing s0.time stream) s0 s1
    → ChangesBy (sending s1.time events) s1 s2 → ChangesBy (beats ∷ []) s2 s3 → ChangesBy (resending s3.time (unacknowledged s3.master)) s3 s4 → s3.master ≡ s0.master → StepsTo IsDelivering s4 s5
    → BeginsWith IsDelivering (replacing s0.time stream ++ beginning s0.time events (unacknowledged s0.master)) s0 s5
stream-begins stream events s0 s1 s2 s3 s4 s5 ended sent beat again same after =
    let first : ChangesBy (sending s0.time events) s1 s2 = subst (λ (now : ℕ). ChangesBy (sending now events) s1 s2) ended.time sent in
    let time : s3.time ≡ s0.time = beat.time ∙ sent.time ∙ ended.time in
    let last : ChangesBy (resending s0.time (unacknowledged s0.master)) s3 s4 =
    subst (λ (m : MasterState). ChangesBy (resending s0.time (unacknowledged m)) s3 s4) same (subst (λ (now : ℕ). ChangesBy (resending now (unacknowledged s3.master)) s3 s4) time again) in
    let begins : ChangesBy (beginning s0.time events (unacknowledged s0.master)) s1 s4 = makes-then _ _ s1 s2 s4 first (makes-then _ _ s2 s3 s4 beat last) in
    let all = makes-then _ _ s0 s1 s4 ended begins in
    record { rest = after.steps; allowed = after.allowed; leads = leads-then s0 s4 s5 _ after.steps all.leads after.leads }

pub begins-then : {P : Step → Type 0} (steps : List Step) (a b c : LiveState) → BeginsWith P steps a b → StepsTo P b c → BeginsWith P steps a c
begins-then {P} steps a b c begins after = record {
  rest = begins.rest ++ after.steps;
  allowed = all_append P begins.rest after.steps begins.allowed after.allowed;
  leads =
      subst (λ (all : List Step). Leads a all c) (append_assoc steps begins.rest after.steps)
      (leads-then a b c (steps ++ begins.rest) after.steps begins.leads after.leads);
}

pub begins-wider : {P Q : Step → Type 0} → ((step : Step) → P step → Q step) → (steps : List Step) (a b : LiveState) → BeginsWith P steps a b → BeginsWith Q steps a b
begins-wider up steps a b begins = record { rest = begins.rest; allowed = all-wider up begins.rest begins.allowed; leads = begins.leads }

pub begins-to : {P : Step → Type 0} (steps : List Step) (a b c : LiveState) → Same b c → BeginsWith P steps a b → BeginsWith P steps a c
begins-to steps a b c e begins = record { rest = begins.rest; allowed = begins.allowed; leads = leads-to a b c _ e begins.leads }

-- these steps, and then those with which the others begin
pub makes-first : {P : Step → Type 0} (s t : List Step) (a b c : LiveState) → ChangesBy s a b → BeginsWith P t b c → BeginsWith P (s ++ t) a c
makes-first s t a b c makes begins = record {
  rest = begins.rest;
  allowed = begins.allowed;
  leads = subst (λ (all : List Step). Leads a all c) (sym (append_assoc s t begins.rest)) (leads-then a b c s (t ++ begins.rest) makes.leads begins.leads);
}

-- ---- SUBSCRIBE

-- what a SUBSCRIBE with status 200 does to the master
pub record Subscribes (m : MasterState) (events : List Event) (n : MasterState) : Type 0 where
  pub events_are : events ≡ subscribed_event m.framework m.interval ∷ []
  pub on : is_some n.stream ≡ true
  pub same : unacknowledged n ≡ unacknowledged m

subscribed-is : (m n : MasterState) (ids : List (List ℕ)) (events : List Event) → IsAnswer (subscribed m ids) 200 events n → Subscribes m events n
subscribed-is m n [] events answer = absurd (let e : 200 ≡ 403 = answer.status_is in omega (arith, e))
subscribed-is m n (id ∷ ids) events answer = record {
  events_are = answer.events_are;
  on = ap (λ (x : MasterState). is_some x.stream) answer.master_is;
  same = ap unacknowledged answer.master_is;
}

handled-is : (b : Bool) (m n : MasterState) (call : Call) (given : Option (List ℕ)) (events : List Event) → is_subscribe call ≡ true
    → IsAnswer (if b then plain 403 m else answered m call given) 200 events n → Subscribes m events n
handled-is true m n call given events is answer = absurd (let e : 200 ≡ 403 = answer.status_is in omega (arith, e))
handled-is false m n call given events is answer =
    let same : answered m call given ≡ subscribed m m.ids = ap (λ (b : Bool). if b then subscribed m m.ids else in_stream m call m.stream given) is in
    subscribed-is m n m.ids events (subst (λ (a : MasterAnswer). IsAnswer a 200 events n) same answer)

pub subscribes : (m n : MasterState) (call : Call) (given : Option (List ℕ)) (status : ℕ) (events : List Event) → is_subscribe call ≡ true → status ≡ 200
    → IsAnswer (handled m call given) status events n → Subscribes m events n
subscribes m n call given status events is ok answer =
    handled-is (m.down || not (agrees m.framework (framework_of call))) m n call given events is (subst (λ (x : ℕ). IsAnswer (handled m call given) x events n) ok answer)

-- the steps of a new stream are those of `opening`
pub opens-by : {P : Step → Type 0} (old mid new : LiveState) (stream : Option (List ℕ)) (events : List Event) → mid ≡ record old { master = mid.master }
    → stream ≡ old.master.stream → Subscribes old.master events mid.master
    → BeginsWith P (replacing mid.time stream ++ beginning mid.time events (unacknowledged mid.master)) mid new → BeginsWith P (opening old) mid new
opens-by {P} old mid new stream events rest is by begins =
    let time : mid.time ≡ old.time = ap (λ (x : LiveState). x.time) rest in
    let all : replacing mid.time stream ++ beginning mid.time events (unacknowledged mid.master) ≡ opening old =
    ap (λ (s : Option (List ℕ)). replacing mid.time s ++ beginning mid.time events (unacknowledged mid.master)) is
    ∙ ap (λ (now : ℕ). replacing now old.master.stream ++ beginning now events (unacknowledged mid.master)) time
    ∙ ap (λ (l : List Event). replacing old.time old.master.stream ++ beginning old.time l (unacknowledged mid.master)) by.events_are
    ∙ ap (λ (l : List Event). replacing old.time old.master.stream ++ beginning old.time (subscribed_event old.master.framework old.master.interval ∷ []) l) by.same in
    subst (λ (steps : List Step). BeginsWith P steps mid new) all begins
