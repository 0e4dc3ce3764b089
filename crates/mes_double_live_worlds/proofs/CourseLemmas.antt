-- What a course has done after some moves, and that each step of a live test master is a move or none.
use Rattle.std.proofs.Common.{◌≡◌, ◌∙◌, inl, ℕ, true, false, List, [], ◌∷◌, ◌++◌, Ok, refl, sym, ap, subst}
use Rattle.std.specs.List.{AllByRecursion}
use Rattle.std.specs.Prelude.{is_some}
use Rattle.std.proofs.lemmas.List.{append-nil, append_assoc}
use Rattle.std.proofs.lemmas.List.Elements.{filter-append}
use Rattle.mes_model.specs.Offer.{Offer}
use Rattle.mes_model.specs.TaskStatus.{TaskStatus}
use Rattle.mes_msg.specs.Event.{Event}
use Rattle.mes_msg.specs.Event.TheVariants as event
use Rattle.mes_double_master.specs.Masters.{MasterState, update_event}
use Rattle.mes_double_master.specs.Sending.{Sends, offers_sent, rescind_sent, resend_sent, update_sent}
use Rattle.mes_double_live.specs.Steps.{Step, StepsMaster, StepsWaiting, LeadsMaster, LeadsWaiting, IsReply, events_by}
use Rattle.mes_double_live.specs.Steps.Step.{handles, breaks, sends, resends, relays, reports, beats, obeys, waits, drops, releases, goes, clears, notes, takes, launches, acknowledges, kills}
use Rattle.mes_double.specs.declared.moves.Move.{Move}
use Rattle.mes_double.specs.declared.moves.Move.TheVariants as moves
use Rattle.mes_double.specs.Worlds.{sending}
use Rattle.mes_double.specs.Courses.{Course, Follows}
use Rattle.mes_double.specs.Courses as course
use Rattle.mes_double_live_worlds.specs.LiveWorlds.{events_of}
use Rattle.mes_double_live_worlds.specs.Shows.{IsOf, carried_in, is_noted, noted}
use Rattle.mes_double_live_worlds.proofs.MasterLemmas.{KeepsStream, Stays, idle, keeps-offers, keeps-rescind, keeps-resend, keeps-sent, keeps-update, of-broke, of-same, of-stream, sent-on}

-- ---- steps that are moves, or none

-- any event but SUBSCRIBED and OFFERS, which the test master makes itself
abbrev pub IsRelayed : Event → Type 0
IsRelayed (event.Subscribed body) = ⊥
IsRelayed (event.Offers list) = ⊥
IsRelayed e = Unit {0}

-- a step in which the test master is given no call, and no event demands a fault
abbrev pub IsWork : Step → Type 0
IsWork (handles call given) = ⊥
IsWork (sends now e) = IsReply e
IsWork (obeys name) = ⊥
IsWork (waits e) = IsRelayed e
IsWork step = Unit {0}

-- ---- moves that follow one another

pub course-then : (c d e : Course) (first next : List Move) → course.Leads c first d → course.Leads d next e → course.Leads c (first ++ next) e
course-then c d e [] next a b = subst (λ (x : Course). course.Leads x next e) a b
course-then c d e (move ∷ first) next (mid, follows, rest) b = (mid, follows, course-then mid d e first next rest b)

pub course-one : (c d : Course) (move : Move) → Follows c move d → course.Leads c (move ∷ []) d
course-one c d move follows = (d, follows, refl)

pub all-append : {X : Type 0} (P : X → Type 0) (xs ys : List X) → AllByRecursion P xs → AllByRecursion P ys → AllByRecursion P (xs ++ ys)
all-append P [] ys first second = second
all-append P (x ∷ xs) ys first second = (first.0, all-append P xs ys first.1 second)

pub noted-append : (front back : List Event) → noted (front ++ back) ≡ noted front ++ noted back
noted-append front back = filter-append is_noted front back

-- ---- moves in which the session takes no part

-- Moves lead to a course whose test master is that of `live`: the session received nothing and made no
-- call, and these events were sent.
pub record Projects (c : Course) (events : List Event) (done : List ℕ) (live : MasterState) : Type 0 where
  pub moves : List Move
  pub to : Course
  pub leads : course.Leads c moves to
  pub master : IsOf to.world.master live
  pub session : to.world.session ≡ c.world.session
  pub waiting : noted to.world.waiting ≡ noted (c.world.waiting ++ events)
  pub heard : to.heard ≡ c.heard
  pub sent : to.world.sent ≡ c.world.sent
  pub carried : carried_in to.arrivals ≡ carried_in c.arrivals ++ done
  pub stays : to.world.master.down ≡ false → Stays c.world.master to.world.master

-- no move
pub projects-none : (c : Course) (events : List Event) (live : MasterState) → IsOf c.world.master live → noted events ≡ [] → Projects c events [] live
projects-none c events live is none = record {
  moves = [];
  to = c;
  leads = refl;
  master = is;
  session = refl;
  waiting = sym (noted-append c.world.waiting events ∙ ap (λ (l : List Event). noted c.world.waiting ++ l) none ∙ append-nil (noted c.world.waiting));
  heard = refl;
  sent = refl;
  carried = sym (append-nil (carried_in c.arrivals));
  stays = λ up. record { stream = refl; down = refl };
}

stays-then : (a b c : MasterState) → (b.down ≡ false → Stays a b) → Stays b c → c.down ≡ false → Stays a c
stays-then a b c first next up =
    let before = first (sym next.down ∙ up) in record { stream = next.stream ∙ before.stream; down = next.down ∙ before.down }

pub projects-then : (c : Course) (first next : List Event) (done more : List ℕ) (l m : MasterState) (a : Projects c first done l) → Projects a.to next more m → Projects c (first ++ next) (done ++ more) m
projects-then c first next done more l m a b = record {
  moves = a.moves ++ b.moves;
  to = b.to;
  leads = course-then c a.to b.to a.moves b.moves a.leads b.leads;
  master = b.master;
  session = b.session ∙ a.session;
  waiting =
      b.waiting
      ∙ noted-append a.to.world.waiting next
      ∙ ap (λ (x : List Event). x ++ noted next) a.waiting
      ∙ sym (noted-append (c.world.waiting ++ first) next)
      ∙ ap noted (append_assoc c.world.waiting first next);
  heard = b.heard ∙ a.heard;
  sent = b.sent ∙ a.sent;
  carried = b.carried ∙ ap (λ (l : List ℕ). l ++ more) a.carried ∙ append_assoc (carried_in c.arrivals) done more;
  stays = λ up. stays-then c.world.master a.to.world.master b.to.world.master a.stays (b.stays up) up;
}

-- ---- an event that the test master sends

module _ (c : Course) (move : Move) (made : Sends) (follows : (d : Course) → d.world ≡ sending c.world made → d.heard ≡ c.heard ++ [] → d.arrivals ≡ c.arrivals ++ [] → Follows c move d) where
  pub projects-sent : (event : Event) (live : MasterState) → made ≡ Ok (event, live) → KeepsStream c.world.master made → Projects c (event ∷ []) [] live
  projects-sent event live is keeps =
      let d : Course = record { world = record c.world { master = live; waiting = c.world.waiting ++ event ∷ [] }; heard = c.heard ++ []; arrivals = c.arrivals ++ [] } in
      let world : d.world ≡ sending c.world made = sym (ap (sending c.world) is) in
      record {
        moves = move ∷ [];
        to = d;
        leads = course-one c d move (follows d world refl refl);
        master = inl refl;
        session = refl;
        waiting = refl;
        heard = append-nil c.heard;
        sent = refl;
        carried = ap carried_in (append-nil c.arrivals) ∙ sym (append-nil (carried_in c.arrivals));
        stays = λ up. keeps-sent c.world.master made (event, live) is keeps;
      }

-- `old` is the state of the live test master before: it has a stream, so it is that of the world
world-of : (c : Course) (old : MasterState) (sent : MasterState → Sends) (made : Event × MasterState) → IsOf c.world.master old → sent old ≡ Ok made → is_some old.stream ≡ true
    → sent c.world.master ≡ Ok made
world-of c old sent made is ok on = ap sent (sym (of-stream c.world.master old is on)) ∙ ok

offers-project : (c : Course) (old new : MasterState) (list : List Offer) → IsOf c.world.master old → offers_sent old list ≡ Ok (event.Offers list, new) → Projects c (event.Offers list ∷ []) [] new
offers-project c old new list is ok =
    projects-sent c (moves.Offer list) (offers_sent c.world.master list) (λ d w h a. record { world = w; heard = h; arrivals = a }) (event.Offers list) new
    (world-of c old (λ (m : MasterState). offers_sent m list) (event.Offers list, new) is ok (sent-on old _ _ ok)) (keeps-offers c.world.master list)

rescind-project : (c : Course) (old new : MasterState) (name : List ℕ) (e : Event) → IsOf c.world.master old → rescind_sent old name ≡ Ok (e, new) → Projects c (e ∷ []) [] new
rescind-project c old new name e is ok =
    projects-sent c (moves.Rescind name) (rescind_sent c.world.master name) (λ d w h a. record { world = w; heard = h; arrivals = a }) e new
    (world-of c old (λ (m : MasterState). rescind_sent m name) (e, new) is ok (sent-on old _ _ ok)) (keeps-rescind c.world.master name)

update-project : (c : Course) (old new : MasterState) (status : TaskStatus) (e : Event) → IsOf c.world.master old → update_sent old status ≡ Ok (e, new) → Projects c (e ∷ []) [] new
update-project c old new status e is ok =
    projects-sent c (moves.Update status) (update_sent c.world.master status) (λ d w h a. record { world = w; heard = h; arrivals = a }) e new
    (world-of c old (λ (m : MasterState). update_sent m status) (e, new) is ok (sent-on old _ _ ok)) (keeps-update c.world.master status)

resend-project : (c : Course) (old new : MasterState) (index : ℕ) (e : Event) → IsOf c.world.master old → resend_sent old index ≡ Ok (e, new) → Projects c (e ∷ []) [] new
resend-project c old new index e is ok =
    projects-sent c (moves.Resend index) (resend_sent c.world.master index) (λ d w h a. record { world = w; heard = h; arrivals = a }) e new
    (world-of c old (λ (m : MasterState). resend_sent m index) (e, new) is ok (sent-on old _ _ ok)) (keeps-resend c.world.master index)

-- ---- a step

-- an event that changes no session, and leaves the test master as it is
idle-project : (c : Course) (old new : MasterState) (e : Event) → IsOf c.world.master old → new ≡ old → is_noted e ≡ false → Projects c (e ∷ []) [] new
idle-project c old new e is same off = projects-none c (e ∷ []) new (of-same c.world.master old new is same) (idle e [] off)

quiet-project : (c : Course) (old new : MasterState) → IsOf c.world.master old → new ≡ old → Projects c [] [] new
quiet-project c old new is same = projects-none c [] new (of-same c.world.master old new is same) refl

reply-project : (c : Course) (old new : MasterState) (now : ℕ) (e : Event) → IsOf c.world.master old → StepsMaster (sends now e) old new → IsReply e → Projects c (e ∷ []) [] new
reply-project c old new now (event.Offers list) is step work = offers-project c old new list is step
reply-project c old new now (event.Update body) is step work = idle-project c old new (event.Update body) is step (ap is_some work)
reply-project c old new now (event.Message body) is step work = idle-project c old new (event.Message body) is step refl
reply-project c old new now (event.Failure body) is step work = idle-project c old new (event.Failure body) is step refl
reply-project c old new now (event.Subscribed body) is step work = absurd work
reply-project c old new now (event.Rescind body) is step work = absurd work
reply-project c old new now (event.Error body) is step work = absurd work
reply-project c old new now event.Heartbeat is step work = absurd work
reply-project c old new now (event.Other name) is step work = absurd work

relay-project : (c : Course) (old new : MasterState) (now : ℕ) (e : Event) → IsOf c.world.master old → StepsMaster (relays now e) old new → IsRelayed e → Projects c (e ∷ []) [] new
relay-project c old new now (event.Rescind body) is step may = rescind-project c old new body.offer_id.value (event.Rescind body) is step
relay-project c old new now (event.Update body) is step may = update-project c old new body.status (event.Update body) is step
relay-project c old new now (event.Message body) is step may = idle-project c old new (event.Message body) is step refl
relay-project c old new now (event.Failure body) is step may = idle-project c old new (event.Failure body) is step refl
relay-project c old new now (event.Error body) is step may = idle-project c old new (event.Error body) is step refl
relay-project c old new now event.Heartbeat is step may = idle-project c old new event.Heartbeat is step refl
relay-project c old new now (event.Other name) is step may = idle-project c old new (event.Other name) is step refl
relay-project c old new now (event.Subscribed body) is step may = absurd may
relay-project c old new now (event.Offers list) is step may = absurd may

-- the events that wait may be sent
abbrev pub AllRelayed : List Event → Type 0
AllRelayed events = AllByRecursion IsRelayed events

-- a step, and what becomes of the events that wait
record Stepped (c : Course) (step : Step) (live : MasterState) (waiting : List Event) : Type 0 where
  project : Projects c (events_by step) [] live
  relayed : AllRelayed waiting

same-relayed : (old new : List Event) → AllRelayed old → new ≡ old → AllRelayed new
same-relayed old new all e = subst AllRelayed (sym e) all

step-project : (c : Course) (step : Step) (old new : MasterState) (from to : List Event) → IsOf c.world.master old → StepsMaster step old new → StepsWaiting step from to → IsWork step → AllRelayed from
    → Stepped c step new to
step-project c (handles call given) old new from to is step wait work all = absurd work
step-project c breaks old new from to is step wait work all = record { project = projects-none c [] new (of-broke c.world.master old new is step) refl; relayed = same-relayed from to all wait }
step-project c (sends now e) old new from to is step wait work all = record { project = reply-project c old new now e is step work; relayed = same-relayed from to all wait }
step-project c (resends now e) old new from to is step wait work all = record { project = resend-project c old new step.0 e is step.1; relayed = same-relayed from to all wait }
step-project c (relays now e) old new from to is step wait work all =
    let first : AllRelayed (e ∷ to) = subst AllRelayed wait all in record { project = relay-project c old new now e is step first.0; relayed = first.1 }
step-project c (reports now index update finishes status) old new from to is step wait work all = record { project = update-project c old new status (update_event status) is step; relayed = same-relayed from to all wait }
step-project c beats old new from to is step wait work all = record { project = idle-project c old new event.Heartbeat is step refl; relayed = same-relayed from to all wait }
step-project c (obeys name) old new from to is step wait work all = absurd work
step-project c (waits e) old new from to is step wait work all =
    record { project = quiet-project c old new is step; relayed = subst AllRelayed (sym wait) (all-append IsRelayed from (e ∷ []) all (work, tt)) }
step-project c (drops e) old new from to is step wait work all =
    let first : AllRelayed (e ∷ to) = subst AllRelayed wait all in record { project = quiet-project c old new is step.1; relayed = first.1 }
step-project c (releases now) old new from to is step wait work all = record { project = quiet-project c old new is step; relayed = same-relayed from to all wait }
step-project c (goes bytes) old new from to is step wait work all = record { project = quiet-project c old new is step; relayed = same-relayed from to all wait }
step-project c clears old new from to is step wait work all = record { project = quiet-project c old new is step; relayed = same-relayed from to all wait }
step-project c (notes fault) old new from to is step wait work all = record { project = quiet-project c old new is step; relayed = same-relayed from to all wait }
step-project c takes old new from to is step wait work all = record { project = quiet-project c old new is step; relayed = same-relayed from to all wait }
step-project c (launches launch tasks) old new from to is step wait work all = record { project = quiet-project c old new is step; relayed = same-relayed from to all wait }
step-project c (acknowledges body) old new from to is step wait work all = record { project = quiet-project c old new is step; relayed = same-relayed from to all wait }
step-project c (kills id) old new from to is step wait work all = record { project = quiet-project c old new is step; relayed = same-relayed from to all wait }

-- ---- steps

pub record Worked (c : Course) (events : List Event) (done : List ℕ) (live : MasterState) (waiting : List Event) : Type 0 where
  pub project : Projects c events done live
  pub relayed : AllRelayed waiting

pub worked-then : (c : Course) (first next : List Event) (done more : List ℕ) (l m : MasterState) (waiting : List Event) (a : Projects c first done l) → Worked a.to next more m waiting → Worked c (first ++ next) (done ++ more) m waiting
worked-then c first next done more l m waiting a b = record { project = projects-then c first next done more l m a b.project; relayed = b.relayed }

-- the steps of a live test master are moves of a world
pub steps-project : (c : Course) (steps : List Step) (old new : MasterState) (from to : List Event) → IsOf c.world.master old → LeadsMaster old steps new → LeadsWaiting from steps to
    → AllByRecursion IsWork steps → AllRelayed from → Worked c (events_of steps) [] new to
steps-project c [] old new from to is leads queue work all = record { project = quiet-project c old new is leads; relayed = same-relayed from to all queue }
steps-project c (step ∷ steps) old new from to is (mid, first, rest) (left, taken, more) work all =
    let one : Stepped c step mid left = step-project c step old mid from left is first taken work.0 all in
    worked-then c (events_by step) (events_of steps) [] [] mid new to one.project
    (steps-project one.project.to steps mid new left to one.project.master rest more work.1 one.relayed)
