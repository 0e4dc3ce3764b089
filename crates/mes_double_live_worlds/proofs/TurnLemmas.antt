-- All that happens between a session and a live test master is on the course of a world.
use Rattle.std.proofs.Common.{◌≡◌, ◌≢◌, ◌∙◌, ◌==◌, ◌||◌, inl, ℕ, zero, suc, Bool, true, false, if◌then◌else◌, List, [], ◌∷◌, ◌++◌, Option, Some, None, refl, sym, ap, subst}
use Rattle.std.specs.List.{AllByRecursion}
use Rattle.std.specs.Prelude.{slice_get}
use Rattle.std.specs.Option.{option_or}
use Rattle.std.proofs.lemmas.List.{append-nil}
use Rattle.mes_model.specs.Id.{Id}
use Rattle.mes_model.specs.declared.framework_info.FrameworkInfo.{FrameworkInfo}
use Rattle.mes_msg.specs.Call.{Call}
use Rattle.mes_msg.specs.Event.{Event}
use Rattle.mes_msg.specs.declared.entry.Entry.TheVariants.{Heard, Said, Broken}
use Rattle.mes_session_state.specs.Held.{Held}
use Rattle.mes_session_state.specs.Refusals.{Answers}
use Rattle.mes_session.specs.History.{after}
use Rattle.mes_double_master.specs.Masters.{MasterState, MasterAnswer, handled, is_subscribe, subscribed_event}
use Rattle.mes_double_master.specs.Runs.{new_master}
use Rattle.mes_double_live.specs.Bodies.{BodyState}
use Rattle.mes_double_faults.specs.declared.fault.CallFault.{CallFault}
use Rattle.mes_double_faults.specs.declared.fault.CallFault.TheVariants.{Busy, Unanswered, Slow, Gone, Reset}
use Rattle.mes_double_live.specs.Arriving.{arriving}
use Rattle.mes_double_live.specs.Calling.{carrying, following, opened_by, responding}
use Rattle.mes_double_live.specs.Lives.{LiveState, call_counted, new_live, reply_fault, status_by}
use Rattle.mes_double_live.specs.Opening.{opening, replacing, resending, unacknowledged}
use Rattle.mes_double_live.specs.Steps.{Step, BeginsWith, Handles, IsDelivering, IsOfCall, StepsMaster, Leads, LeadsMaster, LeadsWaiting}
use Rattle.mes_double_live.specs.Steps.Step.{handles, sends, beats}
use Rattle.mes_double.specs.declared.moves.Move.{Move}
use Rattle.mes_double.specs.declared.moves.Move.TheVariants as moves
use Rattle.mes_double.specs.declared.sent.Sent.{Sent}
use Rattle.mes_double.specs.Worlds.{Wishes, resubscribing, skip, subscribe_answer, wishing}
use Rattle.mes_double.specs.Courses.{Course, Follows, IsCourse, begun}
use Rattle.mes_double_live_worlds.specs.LiveWorlds.{LiveWorld, Turn, Happens, carried_by, IsLossless, Runs, Works, events_of, first_steps, new_live_world, opened, subscribing, subscription, working}
use Rattle.mes_double_live_worlds.specs.LiveWorlds.Turn.{told, passed, beat, stopped, wrote, reset, called, subscribed, heard, said, left}
use Rattle.mes_double_live_worlds.specs.Shows.{IsOf, SessionIs, Shows, is_noted, noted, carried_in}
use Rattle.mes_double_live_worlds.proofs.CourseLemmas.{AllRelayed, IsWork, Projects, Worked, all-append, course-one, course-then, noted-append, steps-project, worked-then}
use Rattle.mes_double_live_worlds.proofs.WorkLemmas.{all-lossless, all-work, arriving-work, following-work, follows-nothing, follows-opened, resending-work, work-of-call, work-of-delivering, work-of-ending, work-of-noting, work-of-sending, work-of-taking, work-of-time}
use Rattle.mes_double_live_worlds.proofs.MasterLemmas.{Opening, SameOpening, idle, known-agrees, marked, named-alike, of-down, of-same, opening as opens, other-answer, resubscribed, same-opening, whole-none}
use Rattle.mes_double_live_worlds.proofs.RunLemmas.{Laws, call-projects, carried_if}
use Rattle.mes_double_live_worlds.proofs.SessionLemmas.{Hears, hears-noted, unnoted}

abbrev IsOther : Sent → Type 0
IsOther p = is_subscribe p.call ≡ false

-- a course shows the world, and what else is needed to go on
pub record Rel (framework : Id) (ids : List (List ℕ)) (c : Course) (w : LiveWorld) : Type 0 where
  pub list : List Move
  pub reached : IsCourse framework ids list c
  pub shows : Shows c w
  pub names : w.live.master.down ≡ false → w.stream ≡ c.world.master.stream
  pub alone : w.reads ≡ false → w.waiting ≡ []
  pub calls : AllByRecursion IsOther w.sent
  pub waits : AllRelayed w.live.waiting

abbrev pub Next : Id → List (List ℕ) → LiveWorld → Type 0
Next framework ids w = (c : Course) × Rel framework ids c w

all-get : {X : Type 0} (P : X → Type 0) (xs : List X) (i : ℕ) (x : X) → AllByRecursion P xs → slice_get xs i ≡ Some x → P x
all-get P [] i x all at = absurd (cc)
all-get P (y ∷ ys) zero x all at = subst P (let same : y ≡ x = cc in same) all.0
all-get P (y ∷ ys) (suc i) x all at = all-get P ys i x all.1 at

if-true : {X : Type 0} (b : Bool) (x y : X) → b ≡ true → (if b then x else y) ≡ x
if-true true x y e = refl
if-true false x y e = absurd (cc)

if-false : {X : Type 0} (b : Bool) (x y : X) → b ≡ false → (if b then x else y) ≡ y
if-false false x y e = refl
if-false true x y e = absurd (cc)

module _ (framework : Id) (ids : List (List ℕ)) (laws : Laws framework ids) where
  module _ (c : Course) (w : LiveWorld) (r : Rel framework ids c w) where
    -- ---- steps

    -- the live test master made steps, and the session did nothing
    worked : (live : LiveState) (steps : List Step) (done : List ℕ) → Worked c (events_of steps) done live.master live.waiting
        → Next framework ids (record (working live steps w) { carried = w.carried ++ done })
    worked live steps done work =
        let p = work.project in (
          p.to,
          record {
            list = r.list ++ p.moves;
            reached = course-then _ c p.to r.list p.moves r.reached p.leads;
            shows = record {
              master = p.master;
              session = subst (SessionIs w.reads w.session) (sym p.session) r.shows.session;
              heard = r.shows.heard ∙ ap noted (sym p.heard);
              waiting = λ on.
                  ap noted (if-true w.reads (w.waiting ++ events_of steps) [] on)
                  ∙ noted-append w.waiting (events_of steps)
                  ∙ ap (λ (l : List Event). l ++ noted (events_of steps)) (r.shows.waiting on)
                  ∙ sym (noted-append c.world.waiting (events_of steps))
                  ∙ sym p.waiting;
              sent = r.shows.sent ∙ sym p.sent;
              carried = ap (λ (l : List ℕ). l ++ done) r.shows.carried ∙ sym p.carried;
            };
            names = λ up.
                (let stays = p.stays (sym (of-down p.to.world.master live.master p.master) ∙ up) in
                let before = of-down c.world.master w.live.master r.shows.master ∙ sym stays.down ∙ sym (of-down p.to.world.master live.master p.master) ∙ up in
                r.names before ∙ sym stays.stream);
            alone = λ off. if-false w.reads (w.waiting ++ events_of steps) [] off;
            calls = r.calls;
            waits = work.relayed;
          },
        )

    -- no call arrived
    quiet-worked : (live : LiveState) (steps : List Step) → Worked c (events_of steps) [] live.master live.waiting → Next framework ids (working live steps w)
    quiet-worked live steps work =
        subst (λ (l : List ℕ). Next framework ids (record (working live steps w) { carried = l })) (append-nil w.carried) (worked live steps [] work)

    -- steps that are all moves or none
    steps-next : (steps : List Step) (live : LiveState) → AllByRecursion IsWork steps → Leads w.live steps live → Next framework ids (working live steps w)
    steps-next steps live work leads =
        quiet-worked live steps (steps-project c steps w.live.master live.master w.live.waiting live.waiting r.shows.master leads.master leads.waiting work r.waits)

    works-next : {P : Step → Type 0} → ((step : Step) → P step → IsLossless step → IsWork step) → (v : LiveWorld) → Works P w v → Next framework ids v
    works-next work v (live, all, quiet, is) = subst (Next framework ids) (sym is) (steps-next all.steps live (all-work work all.steps all.allowed quiet) all.leads)

    told-next : (event : Event) (live : LiveState) (begins : BeginsWith IsDelivering (arriving event) w.live live) → AllByRecursion IsLossless begins.rest
        → Next framework ids (working live (arriving event ++ begins.rest) w)
    told-next event live begins quiet =
        steps-next (arriving event ++ begins.rest) live
        (all-append IsWork (arriving event) begins.rest (arriving-work event) (all-work work-of-delivering begins.rest begins.allowed quiet)) begins.leads

    -- ---- a call arrives

    -- the test master is given a call of the session, and then steps follow
    given-next : (index : ℕ) (p : Sent) (steps : List Step) (live : LiveState) → slice_get w.sent index ≡ Some p → AllByRecursion IsWork steps
        → LeadsMaster w.live.master (handles p.call (Some p.stream) ∷ steps) live.master → LeadsWaiting w.live.waiting (handles p.call (Some p.stream) ∷ steps) live.waiting
        → Next framework ids (record (working live (handles p.call (Some p.stream) ∷ steps) w) { carried = w.carried ++ carried_if ((handled w.live.master p.call (Some p.stream)).status == 202) index })
    given-next index p steps live at work (mid, by, rest) (kept, same, more) =
        let there : slice_get c.world.sent index ≡ Some p = ap (λ (l : List Sent). slice_get l index) (sym r.shows.sent) ∙ at in
        let done = carried_if ((handled w.live.master p.call (Some p.stream)).status == 202) index in
        let a : Projects c [] done mid = call-projects framework ids laws c r.list r.reached index p w.live.master mid r.shows.master there (all-get IsOther w.sent index p r.calls at) by in
        subst (λ (l : List ℕ). Next framework ids (record (working live (handles p.call (Some p.stream) ∷ steps) w) { carried = w.carried ++ l })) (append-nil done)
        (worked live (handles p.call (Some p.stream) ∷ steps) (done ++ [])
        (worked-then c [] (events_of steps) done [] mid live.master live.waiting a
        (steps-project a.to steps mid live.master kept live.waiting a.master rest more work (subst AllRelayed (sym same) r.waits))))

    carried-next : (index : ℕ) (p : Sent) (rest : List Step) (live : LiveState) → slice_get w.sent index ≡ Some p → AllByRecursion IsWork rest
        → LeadsMaster w.live.master (carrying (call_counted w.live) p.call (Some p.stream) ++ rest) live.master
        → LeadsWaiting w.live.waiting (carrying (call_counted w.live) p.call (Some p.stream) ++ rest) live.waiting
        → Next framework ids (record (working live (carrying (call_counted w.live) p.call (Some p.stream) ++ rest) w) { carried = w.carried ++ carried_if ((handled w.live.master p.call (Some p.stream)).status == 202) index })
    carried-next index p rest live at work master waiting =
        let other : is_subscribe p.call ≡ false = all-get IsOther w.sent index p r.calls at in
        let answer = handled w.live.master p.call (Some p.stream) in
        let follows = following (call_counted w.live) p.call answer in
        let known = other-answer w.live.master p.call (Some p.stream) other in
        given-next index p (follows ++ rest) live at
        (all-append IsWork follows rest (following-work (call_counted w.live) p.call answer other known.replies) work) master waiting

    -- by the fault of the call
    called-by : (index : ℕ) (p : Sent) (fault : Option CallFault) (rest : List Step) (live : LiveState) → fault ≢ Some Gone → slice_get w.sent index ≡ Some p → AllByRecursion IsWork rest
        → LeadsMaster w.live.master (responding fault (call_counted w.live) p.call (Some p.stream) ++ rest) live.master
        → LeadsWaiting w.live.waiting (responding fault (call_counted w.live) p.call (Some p.stream) ++ rest) live.waiting
        → Next framework ids (record (working live (responding fault (call_counted w.live) p.call (Some p.stream) ++ rest) w) {
          carried = w.carried ++ carried_if (status_by fault (handled w.live.master p.call (Some p.stream)).status == 202) index;
        })
    called-by index p None rest live kept at work master waiting = carried-next index p rest live at work master waiting
    called-by index p (Some Busy) rest live kept at work master waiting =
        worked live rest [] (steps-project c rest w.live.master live.master w.live.waiting live.waiting r.shows.master master waiting work r.waits)
    called-by index p (Some Unanswered) rest live kept at work master waiting = carried-next index p rest live at work master waiting
    called-by index p (Some (Slow seconds)) rest live kept at work master waiting = carried-next index p rest live at work master waiting
    called-by index p (Some Gone) rest live kept at work master waiting = absurd (kept refl)
    called-by index p (Some Reset) rest live kept at work master waiting =
        worked live rest [] (steps-project c rest w.live.master live.master w.live.waiting live.waiting r.shows.master master waiting work r.waits)

    called-next : (index : ℕ) (live : LiveState) (p : Sent) → slice_get w.sent index ≡ Some p → reply_fault w.live ≢ Some Gone
        → (begins : BeginsWith (IsOfCall p.call) (first_steps w p.call (Some p.stream)) (call_counted w.live) live)
        → Next framework ids (record (working live (first_steps w p.call (Some p.stream) ++ begins.rest) w) { carried = w.carried ++ carried_by w index p })
    called-next index live p at kept begins =
        let other : is_subscribe p.call ≡ false = all-get IsOther w.sent index p r.calls at in
        called-by index p (reply_fault w.live) begins.rest live kept at
        (all-work (work-of-call p.call) begins.rest begins.allowed (all-lossless p.call other begins.rest begins.allowed)) begins.leads.master begins.leads.waiting

    -- ---- the session subscribes

    -- the framework that the SUBSCRIBE names
    abbrev named : FrameworkInfo → Option Id
    named info = option_or w.session.framework info.id

    -- a SUBSCRIBE launches nothing, so it is handled as it is
    handled-is : (info : FrameworkInfo) (given : Option (List ℕ)) (mid : MasterState) → Handles (subscription w info) given w.live.master mid
        → mid ≡ (resubscribed w.live.master (named info)).master
    handled-is info given mid by =
        let known : Opening w.live.master (resubscribed w.live.master (named info)) = opens w.live.master (named info) in
        by.whole (whole-none w.live.master (subscription w info) given (resubscribed w.live.master (named info)) refl known.took known.ran)

    -- a SUBSCRIBE that is refused
    refused-next : (info : FrameworkInfo) (given : Option (List ℕ)) (steps : List Step) (live : LiveState) → ((resubscribed w.live.master (named info)).status == 200) ≡ false
        → AllByRecursion IsWork steps → LeadsMaster w.live.master (handles (subscription w info) given ∷ steps) live.master
        → LeadsWaiting w.live.waiting (handles (subscription w info) given ∷ steps) live.waiting → Next framework ids (working live (handles (subscription w info) given ∷ steps) w)
    refused-next info given steps live off work (mid, by, rest) (kept, same, more) =
        let undone : mid ≡ w.live.master = handled-is info given mid by ∙ (opens w.live.master (named info)).undone off in
        let is : IsOf c.world.master mid = of-same c.world.master w.live.master mid r.shows.master undone in
        quiet-worked live (handles (subscription w info) given ∷ steps) (steps-project c steps mid live.master kept live.waiting is rest more work (subst AllRelayed (sym same) r.waits))

    -- the beginning of a stream up to SUBSCRIBED changes neither the test master nor the events that wait
    begun-at : (now : ℕ) (stream : Option (List ℕ)) (s : Event) (tail steps : List Step) (m n : MasterState) (from to : List Event)
        → ((a b : MasterState) → StepsMaster (sends now s) a b → b ≡ a) → LeadsMaster m ((replacing now stream ++ sends now s ∷ tail) ++ steps) n
        → LeadsWaiting from ((replacing now stream ++ sends now s ∷ tail) ++ steps) to → LeadsMaster m (tail ++ steps) n × LeadsWaiting from (tail ++ steps) to
    begun-at now None s tail steps m n from to quiet (m1, e1, (m2, e2, last)) (w1, f1, (w2, f2, queue)) =
        (subst (λ (x : MasterState). LeadsMaster x (tail ++ steps) n) (quiet m1 m2 e2 ∙ e1) last, subst (λ (x : List Event). LeadsWaiting x (tail ++ steps) to) (f2 ∙ f1) queue)
    begun-at now (Some id) s tail steps m n from to quiet (m0, e0, (m1, e1, (m2, e2, last))) (w0, f0, (w1, f1, (w2, f2, queue))) =
        (subst (λ (x : MasterState). LeadsMaster x (tail ++ steps) n) (quiet m1 m2 e2 ∙ e1 ∙ e0) last, subst (λ (x : List Event). LeadsWaiting x (tail ++ steps) to) (f2 ∙ f1 ∙ f0) queue)

    module _ (info : FrameworkInfo) (given : Option (List ℕ)) (off : w.reads ≡ false) (ok : ((resubscribed w.live.master (named info)).status == 200) ≡ true) where
      left-session : w.session ≡ after c.world.session Broken
      left-session = subst (λ (b : Bool). SessionIs b w.session c.world.session) off r.shows.session

      known : c.world.session.framework ≡ w.session.framework
      known = sym (ap (λ (s : Held). s.framework) left-session)

      same : SameOpening (resubscribed w.live.master (named info)) (resubscribed c.world.master (named info))
      same = same-opening c.world.master w.live.master (named info) r.shows.master

      ok-world : ((resubscribed c.world.master (named info)).status == 200) ≡ true
      ok-world = ap (λ (s : ℕ). s == 200) (sym same.status) ∙ ok

      -- the response in the world is that to the session's SUBSCRIBE
      answer-is : subscribe_answer c.world ≡ resubscribed c.world.master (named info)
      answer-is =
          ap (λ (f : Option Id). resubscribed c.world.master (option_or f None)) known
          ∙ sym (named-alike c.world.master (named info) (option_or w.session.framework None) (known-agrees c.world.master w.session.framework info.id) ok-world)

      abbrev answer : MasterAnswer
      answer = resubscribed c.world.master (named info)

      abbrev begins : Event
      begins = subscribed_event w.live.master.framework w.live.master.interval

      events-are : answer.events ≡ begins ∷ []
      events-are = sym same.events ∙ (opens w.live.master (named info)).events ok

      abbrev opened-course : Course
      opened-course = record {
        world = record c.world { master = answer.master; session = after c.world.session Broken; waiting = answer.events };
        heard = c.heard ++ [];
        arrivals = c.arrivals ++ [];
      }

      opened-follows : Follows c moves.Resubscribe opened-course
      opened-follows = record {
        world =
            sym
            (ap (resubscribing c.world) answer-is
            ∙ ap
            (λ (b : Bool). if b || (answer.status == 202) then record c.world { master = answer.master; session = after c.world.session Broken; waiting = answer.events } else skip c.world)
            ok-world);
        heard = refl;
        arrivals = refl;
      }

      -- the stream was opened, and steps followed
      opened-next : (steps : List Step) (live : LiveState) (work : Worked opened-course (events_of (beats ∷ resending w.live.time (unacknowledged w.live.master) ++ steps)) [] live.master live.waiting)
          → Next framework ids (record w { live = live; stream = opened_by 200 (handled w.live.master (subscription w info) given).master; reads = true; waiting = opened (call_counted w.live) steps })
      opened-next steps live work =
          let p = work.project in (
            p.to,
            record {
              list = r.list ++ moves.Resubscribe ∷ p.moves;
              reached = course-then _ c p.to r.list (moves.Resubscribe ∷ p.moves) r.reached (opened-course, opened-follows, p.leads);
              shows = record {
                master = p.master;
                session = left-session ∙ sym p.session;
                heard = r.shows.heard ∙ ap noted (sym (append-nil c.heard)) ∙ ap noted (sym p.heard);
                waiting = λ on.
                    sym
                    (p.waiting
                    ∙ ap (λ (l : List Event). noted (l ++ events_of (beats ∷ resending w.live.time (unacknowledged w.live.master) ++ steps))) events-are);
                sent = r.shows.sent ∙ sym p.sent;
                carried = r.shows.carried ∙ ap carried_in (sym (append-nil c.arrivals)) ∙ sym (p.carried ∙ append-nil (carried_in opened-course.arrivals));
              };
              names = λ up.
                  (let stays = p.stays (sym (of-down p.to.world.master live.master p.master) ∙ up) in
                  ap (λ (m : MasterState). m.stream) (same.master ok-world) ∙ sym stays.stream);
              alone = λ off. absurd (cc);
              calls = r.calls;
              waits = work.relayed;
            },
          )

      subscribes-next : (steps : List Step) (live : LiveState) → AllByRecursion IsWork steps
          → LeadsMaster w.live.master (handles (subscription w info) given ∷ opening (call_counted w.live) ++ steps) live.master
          → LeadsWaiting w.live.waiting (handles (subscription w info) given ∷ opening (call_counted w.live) ++ steps) live.waiting
          → Next framework ids (record w { live = live; stream = opened_by 200 (handled w.live.master (subscription w info) given).master; reads = true; waiting = opened (call_counted w.live) steps })
      subscribes-next steps live work (mid, by, rest) (kept, same_kept, more) =
          let updates = resending w.live.time (unacknowledged w.live.master) in
          let both = begun-at w.live.time w.live.master.stream begins (beats ∷ updates) steps mid live.master kept live.waiting (λ a b e. e) rest more in
          let is : mid ≡ answer.master = handled-is info given mid by ∙ same.master ok-world in
          opened-next steps live
          (steps-project opened-course ((beats ∷ updates) ++ steps) mid live.master kept live.waiting (inl is) both.0 both.1
          (tt, all-append IsWork updates steps (resending-work w.live.time (unacknowledged w.live.master)) work) (subst AllRelayed (sym same_kept) r.waits))

    -- ---- by the fault of a SUBSCRIBE

    -- by the status of its response
    answered-by : (info : FrameworkInfo) (given : Option (List ℕ)) (rest : List Step) (live : LiveState) (ok : Bool) → w.reads ≡ false
        → ((resubscribed w.live.master (named info)).status == 200) ≡ ok → AllByRecursion IsWork rest
        → LeadsMaster w.live.master (carrying (call_counted w.live) (subscription w info) given ++ rest) live.master
        → LeadsWaiting w.live.waiting (carrying (call_counted w.live) (subscription w info) given ++ rest) live.waiting
        → Next framework ids (if ok then record w {
          live = live;
          stream = opened_by 200 (handled w.live.master (subscription w info) given).master;
          reads = true;
          waiting = opened (call_counted w.live) rest;
        } else working live (carrying (call_counted w.live) (subscription w info) given ++ rest) w)
    answered-by info given rest live true off ok work master waiting =
        let same = follows-opened (call_counted w.live) (subscription w info) (resubscribed w.live.master (named info)) refl ok in
        subscribes-next info given off ok rest live work
        (subst (λ (l : List Step). LeadsMaster w.live.master (handles (subscription w info) given ∷ l ++ rest) live.master) same master)
        (subst (λ (l : List Step). LeadsWaiting w.live.waiting (handles (subscription w info) given ∷ l ++ rest) live.waiting) same waiting)
    answered-by info given rest live false off refused work master waiting =
        let same = follows-nothing (call_counted w.live) (subscription w info) (resubscribed w.live.master (named info)) refl refused in
        subst (λ (l : List Step). Next framework ids (working live (handles (subscription w info) given ∷ l ++ rest) w)) (sym same)
        (refused-next info given rest live refused work
        (subst (λ (l : List Step). LeadsMaster w.live.master (handles (subscription w info) given ∷ l ++ rest) live.master) same master)
        (subst (λ (l : List Step). LeadsWaiting w.live.waiting (handles (subscription w info) given ∷ l ++ rest) live.waiting) same waiting))

    -- the test master was not given the SUBSCRIBE
    idle-next : (rest : List Step) (live : LiveState) → AllByRecursion IsWork rest → LeadsMaster w.live.master rest live.master → LeadsWaiting w.live.waiting rest live.waiting
        → Next framework ids (working live rest w)
    idle-next rest live work master waiting =
        quiet-worked live rest (steps-project c rest w.live.master live.master w.live.waiting live.waiting r.shows.master master waiting work r.waits)

    subscribed-by : (info : FrameworkInfo) (given : Option (List ℕ)) (fault : Option CallFault) (rest : List Step) (live : LiveState) → w.reads ≡ false → AllByRecursion IsWork rest
        → LeadsMaster w.live.master (responding fault (call_counted w.live) (subscription w info) given ++ rest) live.master
        → LeadsWaiting w.live.waiting (responding fault (call_counted w.live) (subscription w info) given ++ rest) live.waiting
        → Next framework ids (if status_by fault (handled w.live.master (subscription w info) given).status == 200 then record w {
          live = live;
          stream = opened_by 200 (handled w.live.master (subscription w info) given).master;
          reads = true;
          waiting = opened (call_counted w.live) rest;
        } else working live (responding fault (call_counted w.live) (subscription w info) given ++ rest) w)
    subscribed-by info given None rest live off work master waiting =
        answered-by info given rest live ((resubscribed w.live.master (named info)).status == 200) off refl work master waiting
    subscribed-by info given (Some Busy) rest live off work master waiting = idle-next rest live work master waiting
    subscribed-by info given (Some Unanswered) rest live off work master waiting =
        answered-by info given rest live ((resubscribed w.live.master (named info)).status == 200) off refl work master waiting
    subscribed-by info given (Some (Slow seconds)) rest live off work master waiting =
        answered-by info given rest live ((resubscribed w.live.master (named info)).status == 200) off refl work master waiting
    subscribed-by info given (Some Gone) rest live off work master waiting = idle-next rest live work master waiting
    subscribed-by info given (Some Reset) rest live off work master waiting = idle-next rest live work master waiting

    subscribed-next : (info : FrameworkInfo) (given : Option (List ℕ)) (live : LiveState) → w.reads ≡ false
        → (begins : BeginsWith (IsOfCall (subscription w info)) (first_steps w (subscription w info) given) (call_counted w.live) live) → AllByRecursion IsLossless begins.rest
        → Next framework ids (subscribing live (subscription w info) given begins.rest w)
    subscribed-next info given live off begins quiet =
        subscribed-by info given (reply_fault w.live) begins.rest live off (all-work (work-of-call (subscription w info)) begins.rest begins.allowed quiet) begins.leads.master
        begins.leads.waiting

    -- ---- the session

    module _ (e : Event) (events : List Event) (is : w.waiting ≡ e ∷ events) where
      abbrev received : LiveWorld
      received = record w { session = after w.session (Heard e); waiting = events; heard = w.heard ++ e ∷ [] }

      heard-noted : w.reads ≡ true → is_noted e ≡ true → Next framework ids received
      heard-noted on marks =
          let first : noted c.world.waiting ≡ e ∷ noted events = sym (r.shows.waiting on) ∙ ap noted is ∙ marked e events marks in
          let h : Hears c e (noted events) = hears-noted c e (noted events) first in (
            h.to,
            record {
              list = r.list ++ h.moves;
              reached = course-then _ c h.to r.list h.moves r.reached h.leads;
              shows = record {
                master = subst (λ (m : MasterState). IsOf m w.live.master) (sym h.master) r.shows.master;
                session = subst (λ (b : Bool). SessionIs b (after w.session (Heard e)) h.to.world.session) (sym on)
                    (ap (λ (s : Held). after s (Heard e)) (subst (λ (b : Bool). SessionIs b w.session c.world.session) on r.shows.session) ∙ sym h.session);
                heard = noted-append w.heard (e ∷ []) ∙ ap (λ (l : List Event). l ++ noted (e ∷ [])) r.shows.heard ∙ ap (λ (l : List Event). noted c.heard ++ l) (marked e [] marks) ∙ sym h.heard;
                waiting = λ on. sym h.waiting;
                sent = r.shows.sent ∙ sym h.sent;
                carried = r.shows.carried ∙ sym h.carried;
              };
              names = λ up. r.names up ∙ ap (λ (m : MasterState). m.stream) (sym h.master);
              alone = λ off. absurd (cc);
              calls = r.calls;
              waits = r.waits;
            },
          )

      heard-idle : w.reads ≡ true → is_noted e ≡ false → Next framework ids received
      heard-idle on off = (
        c,
        record {
          list = r.list;
          reached = r.reached;
          shows = record {
            master = r.shows.master;
            session = subst (λ (s : Held). SessionIs w.reads s c.world.session) (sym (unnoted w.session e off)) r.shows.session;
            heard = noted-append w.heard (e ∷ []) ∙ ap (λ (l : List Event). noted w.heard ++ l) (idle e [] off) ∙ append-nil (noted w.heard) ∙ r.shows.heard;
            waiting = λ on. sym (idle e events off) ∙ ap noted (sym is) ∙ r.shows.waiting on;
            sent = r.shows.sent;
            carried = r.shows.carried;
          };
          names = r.names;
          alone = λ off. absurd (cc);
          calls = r.calls;
          waits = r.waits;
        },
      )

      hears-by : (on marks : Bool) → w.reads ≡ on → is_noted e ≡ marks → Next framework ids received
      hears-by true true on marks = heard-noted on marks
      hears-by true false on off = heard-idle on off
      hears-by false marks off is_marked = absurd (let none : [] ≡ e ∷ events = sym (r.alone off) ∙ is in cc)

      hears-next : Next framework ids received
      hears-next = hears-by w.reads (is_noted e) refl refl

    says-next : (call : Call) (id : List ℕ) → w.reads ≡ true → w.stream ≡ Some id → w.live.master.down ≡ false → is_subscribe call ≡ false → Answers w.session call None
        → Next framework ids (record w { session = after w.session (Said call); sent = w.sent ++ record { call = call; stream = id } ∷ [] })
    says-next call id on at up other allowed =
        let same : w.session ≡ c.world.session = subst (λ (b : Bool). SessionIs b w.session c.world.session) on r.shows.session in
        let stream : c.world.master.stream ≡ Some id = sym (r.names up) ∙ at in
        let d : Course = record { world = wishing c.world call id None; heard = c.heard ++ []; arrivals = c.arrivals ++ [] } in
        let follows : Follows c (moves.Wish call) d = record {
          world = subst (λ (s : Option (List ℕ)). Wishes c.world call s d.world) (sym stream) (None, subst (λ (s : Held). Answers s call None) same allowed, refl);
          heard = refl;
          arrivals = refl;
        } in (
          d,
          record {
            list = r.list ++ moves.Wish call ∷ [];
            reached = course-then _ c d r.list (moves.Wish call ∷ []) r.reached (course-one c d (moves.Wish call) follows);
            shows = record {
              master = r.shows.master;
              session = subst (λ (b : Bool). SessionIs b (after w.session (Said call)) d.world.session) (sym on) (ap (λ (s : Held). after s (Said call)) same);
              heard = r.shows.heard ∙ ap noted (sym (append-nil c.heard));
              waiting = r.shows.waiting;
              sent = ap (λ (l : List Sent). l ++ record { call = call; stream = id } ∷ []) r.shows.sent;
              carried = r.shows.carried ∙ ap carried_in (sym (append-nil c.arrivals));
            };
            names = r.names;
            alone = r.alone;
            calls = all-append IsOther w.sent (record { call = call; stream = id } ∷ []) r.calls (other, tt);
            waits = r.waits;
          },
        )

    leaves-next : w.reads ≡ true → Next framework ids (record w { session = after w.session Broken; reads = false; waiting = [] })
    leaves-next on = (
      c,
      record {
        list = r.list;
        reached = r.reached;
        shows = record {
          master = r.shows.master;
          session = ap (λ (s : Held). after s Broken) (subst (λ (b : Bool). SessionIs b w.session c.world.session) on r.shows.session);
          heard = r.shows.heard;
          waiting = λ off. absurd (cc);
          sent = r.shows.sent;
          carried = r.shows.carried;
        };
        names = r.names;
        alone = λ off. refl;
        calls = r.calls;
        waits = r.waits;
      },
    )

  -- ---- all of it

  happens-next : (c : Course) (w v : LiveWorld) (turn : Turn) → Rel framework ids c w → Happens w turn v → Next framework ids v
  happens-next c w v (told event) r (live, begins, quiet, is) = subst (Next framework ids) (sym is) (told-next c w r event live begins quiet)
  happens-next c w v (passed time) r works = works-next c w r (work-of-time time) v works
  happens-next c w v beat r works = works-next c w r work-of-sending v works
  happens-next c w v stopped r works = works-next c w r work-of-ending v works
  happens-next c w v wrote r works = works-next c w r work-of-taking v works
  happens-next c w v reset r works = works-next c w r work-of-noting v works
  happens-next c w v (called index) r (live, p, at, kept, begins, is) = subst (Next framework ids) (sym is) (called-next c w r index live p at kept begins)
  happens-next c w v (subscribed info given) r (live, off, begins, quiet, is) = subst (Next framework ids) (sym is) (subscribed-next c w r info given live off begins quiet)
  happens-next c w v heard r (e, events, first, is) = subst (Next framework ids) (sym is) (hears-next c w r e events first)
  happens-next c w v (said call) r (id, on, at, up, other, allowed, is) = subst (Next framework ids) (sym is) (says-next c w r call id on at up other allowed)
  happens-next c w v left r (on, is) = subst (Next framework ids) (sym is) (leaves-next c w r on)

  runs-next : (turns : List Turn) (c : Course) (w v : LiveWorld) → Rel framework ids c w → Runs w turns v → Next framework ids v
  runs-next [] c w v r is = subst (Next framework ids) (sym is) (c, r)
  runs-next (turn ∷ turns) c w v r (mid, one, rest) = (let next = happens-next c w mid turn r one in runs-next turns next.0 mid v next.1 rest)

  begun-rel : (finish_after : Option ℕ) (out : BodyState) → Rel framework ids (begun framework ids) (new_live_world (new_live (new_master framework ids) finish_after out))
  begun-rel finish_after out = record {
    list = [];
    reached = refl;
    shows = record { master = inl refl; session = refl; heard = refl; waiting = λ on. absurd (cc); sent = refl; carried = refl };
    names = λ up. refl;
    alone = λ off. refl;
    calls = tt;
    waits = tt;
  }

  -- a run of a session and a live test master is on the course of a world
  pub run-shown : (finish_after : Option ℕ) (out : BodyState) (turns : List Turn) (w : LiveWorld) → Runs (new_live_world (new_live (new_master framework ids) finish_after out)) turns w
      → (list : List Move) × (c : Course) × IsCourse framework ids list c × Shows c w
  run-shown finish_after out turns w runs =
      let (c, r) = runs-next turns (begun framework ids) (new_live_world (new_live (new_master framework ids) finish_after out)) w (begun-rel finish_after out) runs in
      (r.list, c, r.reached, r.shows)
