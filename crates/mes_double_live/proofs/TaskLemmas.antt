-- What the changes of a cluster do to its tasks, as steps.
use Rattle.std.proofs.Common.{◌≡◌, ◌∙◌, ℕ, Bool, true, false, if◌then◌else◌, filter, List, Option, Some, None, Ok, Err, Result, option_map, refl, sym, ap, subst}
use Rattle.mes_model.specs.Id.{Id}
use Rattle.mes_model.specs.Offer.{Offer}
use Rattle.mes_model.specs.TaskStatus.{TaskStatus}
use Rattle.mes_model_task.specs.declared.task_state.TaskState.{TaskState}
use Rattle.mes_msg.specs.Event.{Event}
use Rattle.mes_msg.specs.Event.TheVariants as of
use Rattle.std.specs.Result.{OnOk}
use Rattle.std.proofs.lemmas.Result.{on_ok_weaker}
use Rattle.std.specs.Prelude.{is_some, not, ◌||◌, slice_get}
use Rattle.mes_double_cluster.specs.Clusters.{ClusterState, offer_at, offered_at, with_made, with_offer_at, after_report, after_task_of, overtaken, reported_at, running_launch, status_at, without_task}
use Rattle.mes_double_cluster.specs.Stock.{is_due_at, made, renamed_at, same_id}
use Rattle.mes_double_cluster.specs.Tasks as task
use Rattle.mes_double_cluster.specs.TaskProgress.{is_last}
use Rattle.mes_double_cluster.specs.Times.{saturated_sum}
use Rattle.mes_double_cluster.specs.declared.stocked_offer.StockedOffer.{StockedOffer}
use Rattle.mes_double_cluster.specs.declared.task.Task.{Task}
use Rattle.mes_double_master.specs.Masters.{MasterState, has_update, update_event}
use Rattle.mes_model.specs.OwedKey.{OwedKey}
use Rattle.mes_model.specs.Owed.{owed_key_of}
use Rattle.mes_double_master.specs.Sending.{Sends as Sent, reported_unacknowledged, update_sent, updated}
use Rattle.mes_double_master.specs.declared.refusal.MasterRefusal.TheVariants.{NoStream, UpdateTwice}
use Rattle.mes_double_live.specs.Bodies.{BodyState, Sends}
use Rattle.mes_double_live.specs.Lives.{LiveState, Pushes, record_of}
use Rattle.mes_double_live.specs.Steps.{Step, StepsBody, StepsBut, StepsTasks, StepsTo, StepsWaiting, IsSending, overtaken_by, reporting}
use Rattle.mes_double_live.proofs.StepLemmas.{body-steps}

-- ---- offers

made-tasks : (index now : ℕ) (refuses : Bool) (made : Option Offer × List StockedOffer) (c : ClusterState)
    → (if refuses then (None, c) else with_made made c).1.tasks ≡ c.tasks
made-tasks index now true made c = refl
made-tasks index now false made c = refl

pub offer-tasks : (index now : ℕ) (c d : ClusterState) (offer : Option Offer) → (offer, d) ≡ offer_at index now c → d.tasks ≡ c.tasks
offer-tasks index now c d offer e =
    ap (λ (x : Option Offer × ClusterState). x.1.tasks) e ∙ made-tasks index now (c.suppressed || not (is_due_at index now c.stock)) (renamed_at index c.stock) c

changed-tasks : (index : ℕ) (found : Option StockedOffer) (c : ClusterState) → (with_offer_at index found made c).tasks ≡ c.tasks
changed-tasks index None c = refl
changed-tasks index (Some s) c = refl

pub offered-tasks : (index : ℕ) (c : ClusterState) → (offered_at index c).tasks ≡ c.tasks
offered-tasks index c = changed-tasks index (slice_get c.stock index) c

-- ---- reports

counted-tasks : (launch : Option ℕ) (s : TaskState) (now : ℕ) (c : ClusterState) → (after_report launch s now c).tasks ≡ c.tasks
counted-tasks None s now c = refl
counted-tasks (Some launch) s now c = refl

reported-tasks : (index : ℕ) (s : TaskState) (now : ℕ) (c : ClusterState)
    → (reported_at index s now c).tasks ≡ task.reported_at index s c.updates (option_map (saturated_sum now) c.finish_after) c.tasks
reported-tasks index s now c = counted-tasks (task.launch_at index c.tasks) s now _

-- the status that is due is sent in an update, and noted
pub reported-but : (index : ℕ) (status : TaskStatus) (event : Event) (a b c : LiveState) → status_at index a.time a.cluster ≡ Some status → event ≡ update_event status → b.master ≡ a.master
    → b.out ≡ a.out → b.time ≡ a.time → b.waiting ≡ a.waiting → b.cluster.tasks ≡ (reported_at index status.state a.time a.cluster).tasks → Pushes event b c
    → StepsBut (reporting index status a) a c
reported-but index status event a b c due is master body time waiting tasks pushes =
    let sent : Sends b.time b.out (record_of (update_event status)) c.out = subst (λ (e : Event). Sends b.time b.out (record_of e) c.out) is pushes.body in
    let from : Sends b.time a.out (record_of (update_event status)) c.out = subst (λ (o : BodyState). Sends b.time o (record_of (update_event status)) c.out) body sent in
    let at : Sends a.time a.out (record_of (update_event status)) c.out = subst (λ (now : ℕ). Sends now a.out (record_of (update_event status)) c.out) time from in
    let noted = ap (λ (x : LiveState). x.cluster.tasks) pushes.rest ∙ tasks ∙ reported-tasks index status.state a.time a.cluster in
    record { master = ap (λ (x : LiveState). x.master) pushes.rest ∙ master; body = at; tasks = (due, noted); waiting = ap (λ (x : LiveState). x.waiting) pushes.rest ∙ waiting }

abbrev event-or : Event → Sent → Event
event-or e (Ok sent) = sent.0
event-or e (Err why) = e

owing-event : (n : MasterState) (event : Event) (twice : Bool) (made : Event × MasterState) → (if twice then Err UpdateTwice else Ok made) ≡ Ok (event, n) → made.0 ≡ event
owing-event n event true made e = absurd (cc)
owing-event n event false made e = ap (event-or event) e

updated-event : (m n : MasterState) (status : TaskStatus) (event : Event) (key : Option OwedKey) → updated m status key ≡ Ok (event, n) → update_event status ≡ event
updated-event m n status event None e = ap (event-or event) e
updated-event m n status event (Some key) e = owing-event n event (has_update m.owing key) (update_event status, reported_unacknowledged m key status) e

stream-event : (m n : MasterState) (status : TaskStatus) (event : Event) (on : Bool) → (if on then updated m status (owed_key_of status) else Err NoStream) ≡ Ok (event, n)
    → update_event status ≡ event
stream-event m n status event true e = updated-event m n status event (owed_key_of status) e
stream-event m n status event false e = absurd (cc)

-- the event that the test master sends is the UPDATE of the status
pub update-is : (m n : MasterState) (status : TaskStatus) (event : Event) → update_sent m status ≡ Ok (event, n) → update_sent m status ≡ Ok (update_event status, n)
update-is m n status event e = e ∙ ap (λ (x : Event). Ok (x, n)) (sym (stream-event m n status event (is_some m.stream) e))

-- the test master recorded the status, and then it was sent and noted
reported-one : (index : ℕ) (status : TaskStatus) (a b c : LiveState) → update_sent a.master status ≡ Ok (update_event status, b.master) → b.out ≡ a.out → b.time ≡ a.time
    → b.cluster ≡ a.cluster → b.waiting ≡ a.waiting → StepsBut (reporting index status b) b c → StepsTo IsSending a c
reported-one index status a b c ok body time cluster waiting but =
    let step : Step = reporting index status b in
    let master : update_sent a.master status ≡ Ok (update_event status, c.master) =
    subst (λ (m : MasterState). update_sent a.master status ≡ Ok (update_event status, m)) (sym but.master) ok in
    body-steps step a c tt master (subst (λ (o : BodyState). StepsBody step o c.out) body but.body)
    (subst (λ (k : ClusterState). StepsTasks step k.tasks c.cluster.tasks) cluster but.tasks) (subst (λ (l : List Event). StepsWaiting step l c.waiting) waiting but.waiting)

-- the same if a last call sends it and succeeds
pub reported-last : {T E : Type 0} (result : Result T E) (index : ℕ) (status : TaskStatus) (a b c : LiveState) → update_sent a.master status ≡ Ok (update_event status, b.master)
    → b ≡ record a { master = b.master } → OnOk result (StepsBut (reporting index status b) b c) → OnOk result (StepsTo IsSending a c)
reported-last result index status a b c ok rest last =
    on_ok_weaker result
    (reported-one index status a b c ok (ap (λ (x : LiveState). x.out) rest) (ap (λ (x : LiveState). x.time) rest) (ap (λ (x : LiveState). x.cluster) rest)
    (ap (λ (x : LiveState). x.waiting) rest)) last

-- ---- tasks that others reported

ended-tasks : (launch : Option ℕ) (now : ℕ) (c : ClusterState) → (after_task_of launch now c).tasks ≡ c.tasks
ended-tasks None now c = refl
ended-tasks (Some launch) now c = refl

overtaken-by : (id : Id) (last : Bool) (now : ℕ) (c d : ClusterState) → d ≡ (if last then after_task_of (running_launch id c.tasks) now (without_task id c) else c)
    → d.tasks ≡ (if last then filter (λ (t : Task). not (same_id t.id id)) c.tasks else c.tasks)
overtaken-by id true now c d is = ap (λ (x : ClusterState). x.tasks) is ∙ ended-tasks (running_launch id c.tasks) now (without_task id c)
overtaken-by id false now c d is = ap (λ (x : ClusterState). x.tasks) is

pub overtaken-tasks : (status : TaskStatus) (now : ℕ) (c d : ClusterState) → d ≡ overtaken status.task_id status.state now c
    → d.tasks ≡ overtaken_by (of.Update (record { status = status })) c.tasks
overtaken-tasks status now c d is = overtaken-by status.task_id (is_last status.state) now c d is
