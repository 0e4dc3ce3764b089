-- The steps that each method of a live test master is allowed are moves, or none.
use Rattle.std.proofs.Common.{◌≡◌, ◌∙◌, ℕ, Bool, true, false, ◌==◌, if◌then◌else◌, List, [], ◌∷◌, ◌++◌, ap}
use Rattle.std.specs.List.{AllByRecursion}
use Rattle.mes_msg.specs.Call.{Call}
use Rattle.mes_msg.specs.Call.TheVariants as of
use Rattle.mes_msg.specs.Event.{Event}
use Rattle.mes_msg.specs.Event.TheVariants as event
use Rattle.mes_double_master.specs.Masters.{MasterAnswer, is_subscribe}
use Rattle.mes_double_live.specs.Arriving.{arriving, is_busy}
use Rattle.mes_double_live.specs.Calling.{demanded_by, following}
use Rattle.mes_double_live.specs.Lives.{LiveState}
use Rattle.mes_double_live.specs.Opening.{opening, resending, sending}
use Rattle.mes_double_live.specs.Steps.{Step, IsDelivering, IsEnding, IsNoting, IsOfCall, IsOfTime, IsOffers, IsReply, IsSending, IsTaking}
use Rattle.mes_double_live.specs.Steps.Step.{handles, breaks, sends, resends, relays, reports, beats, obeys, waits, drops, releases, goes, clears, notes, takes, launches, acknowledges, kills}
use Rattle.mes_double_live_worlds.specs.LiveWorlds.{IsLossless}
use Rattle.mes_double_live_worlds.proofs.CourseLemmas.{IsRelayed, IsWork, all-append}

offers-reply : (e : Event) → IsOffers e → IsReply e
offers-reply (event.Offers list) is = tt
offers-reply (event.Subscribed body) is = absurd is
offers-reply (event.Rescind body) is = absurd is
offers-reply (event.Update body) is = absurd is
offers-reply (event.Message body) is = absurd is
offers-reply (event.Failure body) is = absurd is
offers-reply (event.Error body) is = absurd is
offers-reply event.Heartbeat is = absurd is
offers-reply (event.Other name) is = absurd is

pub work-of-sending : (step : Step) → IsSending step → IsLossless step → IsWork step
work-of-sending (handles other given) is quiet = absurd is
work-of-sending breaks is quiet = tt
work-of-sending (sends now e) is quiet = offers-reply e is
work-of-sending (resends now e) is quiet = tt
work-of-sending (relays now e) is quiet = tt
work-of-sending (reports now index update finishes status) is quiet = tt
work-of-sending beats is quiet = tt
work-of-sending (obeys name) is quiet = absurd quiet
work-of-sending (waits e) is quiet = absurd is
work-of-sending (drops e) is quiet = tt
work-of-sending (releases now) is quiet = tt
work-of-sending (goes bytes) is quiet = tt
work-of-sending clears is quiet = tt
work-of-sending (notes fault) is quiet = tt
work-of-sending takes is quiet = tt
work-of-sending (launches launch tasks) is quiet = tt
work-of-sending (acknowledges body) is quiet = tt
work-of-sending (kills id) is quiet = tt

pub work-of-delivering : (step : Step) → IsDelivering step → IsLossless step → IsWork step
work-of-delivering (handles other given) is quiet = absurd is
work-of-delivering breaks is quiet = tt
work-of-delivering (sends now e) is quiet = offers-reply e is
work-of-delivering (resends now e) is quiet = tt
work-of-delivering (relays now e) is quiet = tt
work-of-delivering (reports now index update finishes status) is quiet = tt
work-of-delivering beats is quiet = tt
work-of-delivering (obeys name) is quiet = absurd quiet
work-of-delivering (waits e) is quiet = absurd is
work-of-delivering (drops e) is quiet = tt
work-of-delivering (releases now) is quiet = tt
work-of-delivering (goes bytes) is quiet = tt
work-of-delivering clears is quiet = tt
work-of-delivering (notes fault) is quiet = tt
work-of-delivering takes is quiet = tt
work-of-delivering (launches launch tasks) is quiet = tt
work-of-delivering (acknowledges body) is quiet = tt
work-of-delivering (kills id) is quiet = tt

pub work-of-ending : (step : Step) → IsEnding step → IsLossless step → IsWork step
work-of-ending (handles other given) is quiet = absurd is
work-of-ending breaks is quiet = tt
work-of-ending (sends now e) is quiet = offers-reply e is
work-of-ending (resends now e) is quiet = tt
work-of-ending (relays now e) is quiet = tt
work-of-ending (reports now index update finishes status) is quiet = tt
work-of-ending beats is quiet = tt
work-of-ending (obeys name) is quiet = absurd quiet
work-of-ending (waits e) is quiet = absurd is
work-of-ending (drops e) is quiet = tt
work-of-ending (releases now) is quiet = tt
work-of-ending (goes bytes) is quiet = tt
work-of-ending clears is quiet = tt
work-of-ending (notes fault) is quiet = tt
work-of-ending takes is quiet = tt
work-of-ending (launches launch tasks) is quiet = tt
work-of-ending (acknowledges body) is quiet = tt
work-of-ending (kills id) is quiet = tt

pub work-of-time : (time : ℕ) (step : Step) → IsOfTime time step → IsLossless step → IsWork step
work-of-time time (handles other given) is quiet = absurd is
work-of-time time breaks is quiet = tt
work-of-time time (sends now e) is quiet = offers-reply e is
work-of-time time (resends now e) is quiet = tt
work-of-time time (relays now e) is quiet = tt
work-of-time time (reports now index update finishes status) is quiet = tt
work-of-time time beats is quiet = tt
work-of-time time (obeys name) is quiet = absurd quiet
work-of-time time (waits e) is quiet = absurd is
work-of-time time (drops e) is quiet = tt
work-of-time time (releases now) is quiet = tt
work-of-time time (goes bytes) is quiet = tt
work-of-time time clears is quiet = tt
work-of-time time (notes fault) is quiet = tt
work-of-time time takes is quiet = tt
work-of-time time (launches launch tasks) is quiet = tt
work-of-time time (acknowledges body) is quiet = tt
work-of-time time (kills id) is quiet = tt

pub work-of-taking : (step : Step) → IsTaking step → IsLossless step → IsWork step
work-of-taking (handles other given) is quiet = absurd is
work-of-taking breaks is quiet = tt
work-of-taking (sends now e) is quiet = absurd is
work-of-taking (resends now e) is quiet = tt
work-of-taking (relays now e) is quiet = tt
work-of-taking (reports now index update finishes status) is quiet = tt
work-of-taking beats is quiet = tt
work-of-taking (obeys name) is quiet = absurd quiet
work-of-taking (waits e) is quiet = absurd is
work-of-taking (drops e) is quiet = tt
work-of-taking (releases now) is quiet = tt
work-of-taking (goes bytes) is quiet = tt
work-of-taking clears is quiet = tt
work-of-taking (notes fault) is quiet = tt
work-of-taking takes is quiet = tt
work-of-taking (launches launch tasks) is quiet = tt
work-of-taking (acknowledges body) is quiet = tt
work-of-taking (kills id) is quiet = tt

pub work-of-noting : (step : Step) → IsNoting step → IsLossless step → IsWork step
work-of-noting (handles other given) is quiet = absurd is
work-of-noting breaks is quiet = tt
work-of-noting (sends now e) is quiet = absurd is
work-of-noting (resends now e) is quiet = tt
work-of-noting (relays now e) is quiet = tt
work-of-noting (reports now index update finishes status) is quiet = tt
work-of-noting beats is quiet = tt
work-of-noting (obeys name) is quiet = absurd quiet
work-of-noting (waits e) is quiet = absurd is
work-of-noting (drops e) is quiet = tt
work-of-noting (releases now) is quiet = tt
work-of-noting (goes bytes) is quiet = tt
work-of-noting clears is quiet = tt
work-of-noting (notes fault) is quiet = tt
work-of-noting takes is quiet = tt
work-of-noting (launches launch tasks) is quiet = tt
work-of-noting (acknowledges body) is quiet = tt
work-of-noting (kills id) is quiet = tt

pub work-of-call : (call : Call) (step : Step) → IsOfCall call step → IsLossless step → IsWork step
work-of-call call (handles other given) is quiet = absurd is
work-of-call call breaks is quiet = tt
work-of-call call (sends now e) is quiet = is
work-of-call call (resends now e) is quiet = tt
work-of-call call (relays now e) is quiet = tt
work-of-call call (reports now index update finishes status) is quiet = tt
work-of-call call beats is quiet = tt
work-of-call call (obeys name) is quiet = absurd quiet
work-of-call call (waits e) is quiet = absurd is
work-of-call call (drops e) is quiet = tt
work-of-call call (releases now) is quiet = tt
work-of-call call (goes bytes) is quiet = tt
work-of-call call clears is quiet = tt
work-of-call call (notes fault) is quiet = tt
work-of-call call takes is quiet = tt
work-of-call call (launches launch tasks) is quiet = tt
work-of-call call (acknowledges body) is quiet = tt
work-of-call call (kills id) is quiet = tt

-- a call other than SUBSCRIBE takes no event that waits
lossless-of-call : (call : Call) → is_subscribe call ≡ false → (step : Step) → IsOfCall call step → IsLossless step
lossless-of-call call other (handles next given) is = tt
lossless-of-call call other breaks is = tt
lossless-of-call call other (sends now e) is = tt
lossless-of-call call other (resends now e) is = tt
lossless-of-call call other (relays now e) is = tt
lossless-of-call call other (reports now index update finishes status) is = tt
lossless-of-call call other beats is = tt
lossless-of-call call other (obeys name) is = absurd (cc)
lossless-of-call call other (waits e) is = tt
lossless-of-call call other (drops e) is = tt
lossless-of-call call other (releases now) is = tt
lossless-of-call call other (goes bytes) is = tt
lossless-of-call call other clears is = tt
lossless-of-call call other (notes fault) is = tt
lossless-of-call call other takes is = tt
lossless-of-call call other (launches launch tasks) is = tt
lossless-of-call call other (acknowledges body) is = tt
lossless-of-call call other (kills id) is = tt

pub all-lossless : (call : Call) → is_subscribe call ≡ false → (steps : List Step) → AllByRecursion (IsOfCall call) steps → AllByRecursion IsLossless steps
all-lossless call other [] all = tt
all-lossless call other (step ∷ steps) all = (lossless-of-call call other step all.0, all-lossless call other steps all.1)

pub all-work : {P : Step → Type 0} → ((step : Step) → P step → IsLossless step → IsWork step) → (steps : List Step) → AllByRecursion P steps → AllByRecursion IsLossless steps
    → AllByRecursion IsWork steps
all-work work [] all quiet = tt
all-work work (step ∷ steps) all quiet = (work step all.0 quiet.0, all-work work steps all.1 quiet.1)

-- ---- an event from outside

waits-by : (busy : Bool) (e : Event) → IsRelayed e → AllByRecursion IsWork (if busy then [] else waits e ∷ [])
waits-by true e may = tt
waits-by false e may = (may, tt)

pub arriving-work : (e : Event) → AllByRecursion IsWork (arriving e)
arriving-work (event.Subscribed body) = tt
arriving-work (event.Offers list) = tt
arriving-work (event.Rescind body) = waits-by (is_busy (event.Rescind body)) (event.Rescind body) tt
arriving-work (event.Update body) = waits-by (is_busy (event.Update body)) (event.Update body) tt
arriving-work (event.Message body) = waits-by (is_busy (event.Message body)) (event.Message body) tt
arriving-work (event.Failure body) = waits-by (is_busy (event.Failure body)) (event.Failure body) tt
arriving-work (event.Error body) = waits-by (is_busy (event.Error body)) (event.Error body) tt
arriving-work event.Heartbeat = waits-by (is_busy event.Heartbeat) event.Heartbeat tt
arriving-work (event.Other name) = waits-by (is_busy (event.Other name)) (event.Other name) tt

-- ---- the first steps of a call

sending-work : (now : ℕ) (events : List Event) → AllByRecursion IsReply events → AllByRecursion IsWork (sending now events)
sending-work now [] all = tt
sending-work now (e ∷ events) all = (all.0, sending-work now events all.1)

demanded-work : (call : Call) → AllByRecursion IsWork (demanded_by call)
demanded-work (of.Acknowledge framework body) = (tt, tt)
demanded-work (of.Kill framework body) = (tt, tt)
demanded-work (of.Subscribe framework body) = tt
demanded-work (of.Accept framework body) = tt
demanded-work (of.Decline framework body) = tt
demanded-work (of.Revive framework) = tt
demanded-work (of.Reconcile framework body) = tt
demanded-work (of.Teardown framework) = (tt, tt)
demanded-work (of.Suppress framework) = tt
demanded-work (of.Shutdown framework body) = tt
demanded-work (of.Message framework body) = tt

following-by : (live : LiveState) (call : Call) (answer : MasterAnswer) (subscribes done : Bool) → subscribes ≡ false → AllByRecursion IsReply answer.events
    → AllByRecursion IsWork (if subscribes then (if answer.status == 200 then opening live else []) else (if done then sending live.time answer.events ++ demanded_by call else []))
following-by live call answer true done other all = absurd (cc)
following-by live call answer false true other all = all-append IsWork (sending live.time answer.events) (demanded_by call) (sending-work live.time answer.events all) (demanded-work call)
following-by live call answer false false other all = tt

-- what follows a call other than SUBSCRIBE
pub following-work : (live : LiveState) (call : Call) (answer : MasterAnswer) → is_subscribe call ≡ false → AllByRecursion IsReply answer.events
    → AllByRecursion IsWork (following live call answer)
following-work live call answer other all = following-by live call answer (is_subscribe call) (answer.status == 202) other all

pub resending-work : (now : ℕ) (updates : List Event) → AllByRecursion IsWork (resending now updates)
resending-work now [] = tt
resending-work now (update ∷ updates) = (tt, resending-work now updates)

-- a SUBSCRIBE with status 200 opens a stream, and no other does
pub follows-opened : (live : LiveState) (call : Call) (answer : MasterAnswer) → is_subscribe call ≡ true → (answer.status == 200) ≡ true → following live call answer ≡ opening live
follows-opened live call answer is ok =
    ap (λ (b : Bool). if b then (if answer.status == 200 then opening live else []) else (if answer.status == 202 then sending live.time answer.events ++ demanded_by call else [])) is
    ∙ ap (λ (b : Bool). if b then opening live else []) ok

pub follows-nothing : (live : LiveState) (call : Call) (answer : MasterAnswer) → is_subscribe call ≡ true → (answer.status == 200) ≡ false → following live call answer ≡ []
follows-nothing live call answer is off =
    ap (λ (b : Bool). if b then (if answer.status == 200 then opening live else []) else (if answer.status == 202 then sending live.time answer.events ++ demanded_by call else [])) is
    ∙ ap (λ (b : Bool). if b then opening live else []) off
