-- What the steps of a run report of each task.
use Rattle.std.proofs.Common.{◌≡◌, ◌∙◌, ℕ, zero, suc, Bool, true, false, if◌then◌else◌, cond, fold, List, [], ◌∷◌, ◌++◌, map, filter, Option, Some, None, option_map, is_some, refl, sym, ap, subst}
use Rattle.std.specs.Prelude.{slice_get, slice_set, not}
use Rattle.std.specs.List.{AllByRecursion}
use Rattle.std.proofs.lemmas.List.{map-append, map-set}
use Rattle.std.proofs.lemmas.List.Sums.{fold-append}
use Rattle.std.proofs.lemmas.Option.{slice_get-map}
use Rattle.mes_frame.proofs.Chunks.{all_append}
use Rattle.mes_model.specs.Id.{Id}
use Rattle.mes_model.specs.TaskInfo.{TaskInfo}
use Rattle.mes_model.specs.TaskStatus.{TaskStatus}
use Rattle.mes_model_task.specs.declared.task_state.TaskState.{TaskState}
use Rattle.mes_double_cluster.specs.Clusters.{status_due, status_of}
use Rattle.mes_double_cluster.specs.Stock.{same_id}
use Rattle.mes_double_cluster.specs.Tasks as task
use Rattle.mes_double_cluster.specs.TaskProgress as progress
use Rattle.mes_double_cluster.specs.TaskRuns as run
use Rattle.mes_double_cluster.specs.TaskRuns.{TaskDeed, TaskPast, past_of, told_until}
use Rattle.mes_double_cluster.specs.TaskRuns.TaskDeed.{reports as deed-reports, acknowledges as deed-acknowledges, kills as deed-kills}
use Rattle.mes_double_cluster.specs.declared.task.Task.{Task}
use Rattle.mes_double_cluster.proofs.TaskLemmas.{none_due, told as told_in}
use Rattle.mes_msg.specs.Event.{Event}
use Rattle.mes_msg.specs.Event.TheVariants as of
use Rattle.mes_double_cluster.specs.TaskProgress.{is_last}
use Rattle.mes_double_live.specs.Steps.{Step, StepsTasks, LeadsTasks, overtaken_by}
use Rattle.mes_double_live.specs.Steps.Step.{handles, breaks, sends, resends, relays, reports, beats, obeys, waits, drops, releases, goes, clears, notes, takes, launches, acknowledges, kills}
use Rattle.mes_double_live.specs.Reports.{Reported, with_task, new_task, told, told_of, not_overtaken, after_step, reported}

-- ---- lists of tasks

abbrev tasks-of : List Reported → List Task
tasks-of all = map (λ (r : Reported). r.task) all

new-tasks : (launch : ℕ) (infos : List TaskInfo) → tasks-of (map (new_task launch) infos) ≡ map (task.launched launch) infos
new-tasks launch [] = refl
new-tasks launch (info ∷ infos) = ap (λ (l : List Task). task.launched launch info ∷ l) (new-tasks launch infos)

changed-tasks : (change : Task → Task) (all : List Reported) → tasks-of (map (with_task change) all) ≡ map change (tasks-of all)
changed-tasks change [] = refl
changed-tasks change (r ∷ all) = ap (λ (l : List Task). change r.task ∷ l) (changed-tasks change all)

kept-by : (keeps : Bool) (r : Reported) (xs : List Reported) (ys : List Task) → tasks-of xs ≡ ys → tasks-of (cond keeps (r ∷ xs) xs) ≡ cond keeps (r.task ∷ ys) ys
kept-by true r xs ys e = ap (λ (l : List Task). r.task ∷ l) e
kept-by false r xs ys e = e

kept-tasks : (test : Task → Bool) (all : List Reported) → tasks-of (filter (λ (r : Reported). test r.task) all) ≡ filter test (tasks-of all)
kept-tasks test [] = refl
kept-tasks test (r ∷ all) = kept-by (test r.task) r (filter (λ (x : Reported). test x.task) all) (filter test (tasks-of all)) (kept-tasks test all)

told-tasks : (index update : ℕ) (finishes : Option ℕ) (status : TaskStatus) (all : List Reported) (r : Option Reported)
    → tasks-of (told_of index update finishes status all r) ≡ task.reported_of index status.state update finishes (tasks-of all) (option_map (λ (x : Reported). x.task) r)
told-tasks index update finishes status all None = refl
told-tasks index update finishes status all (Some r) = map-set (λ (x : Reported). x.task) all index (told update finishes status r)

-- ---- each task is where its deeds lead, and what was reported of it is what they report

abbrev IsPast : Reported → Type 0
IsPast r = (deeds : List TaskDeed) × (past_of deeds ≡ record { progress = r.task.progress; told = r.told })

abbrev past-at : Reported → TaskPast
past-at r = record { progress = r.task.progress; told = r.told }

past-more : (r : Reported) (one : TaskDeed) (new : Reported) → past-at new ≡ run.after (past-at r) one → IsPast r → IsPast new
past-more r one new e (deeds, is) = (
  deeds ++ one ∷ [],
  fold-append run.after (record { progress = progress.staging; told = [] }) deeds (one ∷ []) ∙ ap (λ (p : TaskPast). run.after p one) is ∙ sym e,
)

past-told : (now update : ℕ) (finishes : Option ℕ) (status : TaskStatus) (r : Reported) (s : Option TaskState) → progress.due now r.task.progress ≡ s
    → option_map (λ (x : TaskState). task.status_of x update r.task) s ≡ Some status → IsPast r → IsPast (told update finishes status r)
past-told now update finishes status r None is e past = absurd (cc)
past-told now update finishes status r (Some s) is e past =
    let state : s ≡ status.state = ap (λ (x : Option TaskStatus). state-of s x) e in
    let due : run.after (past-at r) (deed-reports now update finishes) ≡ run.after_report (past-at r) update finishes (Some s) = ap (run.after_report (past-at r) update finishes) is in
    past-more r (deed-reports now update finishes) (told update finishes status r)
    (ap (λ (x : TaskState). record { progress = progress.reported x update finishes r.task.progress; told = r.told ++ x ∷ [] }) (sym state) ∙ sym due) past
  where
    state-of : TaskState → Option TaskStatus → TaskState
    state-of s None = s
    state-of s (Some status) = status.state

acknowledged-by : (awaits : Bool) (r : Reported) → IsPast r → IsPast (record { task = if awaits then task.with_progress (progress.acknowledged r.task.progress) r.task else r.task; told = r.told })
acknowledged-by true r past = past-more r deed-acknowledges (record { task = task.with_progress (progress.acknowledged r.task.progress) r.task; told = r.told }) refl past
acknowledged-by false r past = past

killed-by : (is : Bool) (r : Reported) → IsPast r → IsPast (record { task = if is then task.with_progress (progress.killed r.task.progress) r.task else r.task; told = r.told })
killed-by true r past = past-more r deed-kills (record { task = task.with_progress (progress.killed r.task.progress) r.task; told = r.told }) refl past
killed-by false r past = past

-- ---- of all tasks

new-past : (launch : ℕ) (infos : List TaskInfo) → AllByRecursion IsPast (map (new_task launch) infos)
new-past launch [] = tt
new-past launch (info ∷ infos) = (([], refl), new-past launch infos)

changed-past : (change : Task → Task) → ((r : Reported) → IsPast r → IsPast (with_task change r)) → (all : List Reported) → AllByRecursion IsPast all
    → AllByRecursion IsPast (map (with_task change) all)
changed-past change one [] past = tt
changed-past change one (r ∷ all) past = (one r past.0, changed-past change one all past.1)

kept-one : (keeps : Bool) (r : Reported) (all : List Reported) → IsPast r → AllByRecursion IsPast all → AllByRecursion IsPast (cond keeps (r ∷ all) all)
kept-one true r all first past = (first, past)
kept-one false r all first past = past

kept-past : (test : Reported → Bool) (all : List Reported) → AllByRecursion IsPast all → AllByRecursion IsPast (filter test all)
kept-past test [] past = tt
kept-past test (r ∷ all) past = kept-one (test r) r (filter test all) past.0 (kept-past test all past.1)

set-past : (all : List Reported) (index : ℕ) (new : Reported) → IsPast new → AllByRecursion IsPast all → AllByRecursion IsPast (slice_set all index new)
set-past [] index new is past = tt
set-past (r ∷ all) zero new is past = (is, past.1)
set-past (r ∷ all) (suc index) new is past = (past.0, set-past all index new is past.1)

past-of : (all : List Reported) (index : ℕ) (r : Reported) → slice_get all index ≡ Some r → AllByRecursion IsPast all → IsPast r
past-of [] index r e past = absurd (cc)
past-of (x ∷ all) zero r e past = subst IsPast (some-is x r e) past.0
  where
    or : Reported → Option Reported → Reported
    or d None = d
    or d (Some y) = y

    some-is : (x r : Reported) → Some x ≡ Some r → x ≡ r
    some-is x r e = ap (or x) e
past-of (x ∷ all) (suc index) r e past = past-of all index r e past.1

told-past : (now index update : ℕ) (finishes : Option ℕ) (status : TaskStatus) (all : List Reported) (found : Option Reported) → slice_get all index ≡ found
    → status_of update now (option_map (λ (r : Reported). r.task) found) ≡ Some status → AllByRecursion IsPast all → AllByRecursion IsPast (told_of index update finishes status all found)
told-past now index update finishes status all None is due past = past
told-past now index update finishes status all (Some r) is due past =
    set-past all index (told update finishes status r) (past-told now update finishes status r (progress.due now r.task.progress) refl due (past-of all index r is past)) past

-- ---- of each step

-- the tasks are those of the list, each where its deeds lead
record Are (all : List Reported) (tasks : List Task) : Type 0 where
  are : tasks-of all ≡ tasks
  past : AllByRecursion IsPast all

-- after an UPDATE from outside
left-are : (last : Bool) (id : Id) (all : List Reported) (old new : List Task) → Are all old
    → new ≡ (if last then filter (λ (t : Task). not (same_id t.id id)) old else old)
    → Are (if last then filter (λ (r : Reported). not (same_id r.task.id id)) all else all) new
left-are true id all old new has is = record {
  are = kept-tasks (λ (t : Task). not (same_id t.id id)) all ∙ ap (filter (λ (t : Task). not (same_id t.id id))) has.are ∙ sym is;
  past = kept-past (λ (r : Reported). not (same_id r.task.id id)) all has.past;
}
left-are false id all old new has is = record { are = has.are ∙ sym is; past = has.past }

relays-are : (event : Event) (all : List Reported) (old new : List Task) → Are all old → new ≡ overtaken_by event old → Are (not_overtaken event all) new
relays-are (of.Update body) all old new has is = left-are (is_last body.status.state) body.status.task_id all old new has is
relays-are (of.Subscribed body) all old new has is = record { are = has.are ∙ sym is; past = has.past }
relays-are (of.Offers list) all old new has is = record { are = has.are ∙ sym is; past = has.past }
relays-are (of.Rescind body) all old new has is = record { are = has.are ∙ sym is; past = has.past }
relays-are (of.Message body) all old new has is = record { are = has.are ∙ sym is; past = has.past }
relays-are (of.Failure body) all old new has is = record { are = has.are ∙ sym is; past = has.past }
relays-are (of.Error body) all old new has is = record { are = has.are ∙ sym is; past = has.past }
relays-are of.Heartbeat all old new has is = record { are = has.are ∙ sym is; past = has.past }
relays-are (of.Other name) all old new has is = record { are = has.are ∙ sym is; past = has.past }

step-are : (step : Step) (all : List Reported) (old new : List Task) → Are all old → StepsTasks step old new → Are (after_step all step) new
step-are (handles call given) all old new has is = record { are = has.are ∙ sym is; past = has.past }
step-are breaks all old new has is = record { are = has.are ∙ sym is; past = has.past }
step-are (sends now event) all old new has is = record { are = has.are ∙ sym is; past = has.past }
step-are (resends now event) all old new has is = record { are = has.are ∙ sym is; past = has.past }
step-are (relays now event) all old new has is = relays-are event all old new has is
step-are (reports now index update finishes status) all old new has is =
    let found : slice_get old index ≡ option_map (λ (r : Reported). r.task) (slice_get all index) =
    ap (λ (l : List Task). slice_get l index) (sym has.are) ∙ slice_get-map (λ (r : Reported). r.task) all index in
    record {
      are =
          told-tasks index update finishes status all (slice_get all index)
          ∙ ap (task.reported_of index status.state update finishes (tasks-of all)) (sym found)
          ∙ ap (λ (l : List Task). task.reported_of index status.state update finishes l (slice_get old index)) has.are
          ∙ sym is.1;
      past = told-past now index update finishes status all (slice_get all index) refl (ap (status_of update now) (sym found) ∙ is.0) has.past;
    }
step-are beats all old new has is = record { are = has.are ∙ sym is; past = has.past }
step-are (obeys name) all old new has is = record { are = has.are ∙ sym is; past = has.past }
step-are (waits event) all old new has is = record { are = has.are ∙ sym is; past = has.past }
step-are (drops event) all old new has is = record { are = has.are ∙ sym is; past = has.past }
step-are (releases now) all old new has is = record { are = has.are ∙ sym is; past = has.past }
step-are (goes bytes) all old new has is = record { are = has.are ∙ sym is; past = has.past }
step-are clears all old new has is = record { are = has.are ∙ sym is; past = has.past }
step-are (notes fault) all old new has is = record { are = has.are ∙ sym is; past = has.past }
step-are takes all old new has is = record { are = has.are ∙ sym is; past = has.past }
step-are (launches launch infos) all old new has is = record {
  are =
      map-append (λ (r : Reported). r.task) all (map (new_task launch) infos)
      ∙ ap (λ (l : List Task). l ++ tasks-of (map (new_task launch) infos)) has.are
      ∙ ap (λ (l : List Task). old ++ l) (new-tasks launch infos)
      ∙ sym is;
  past = all_append IsPast all (map (new_task launch) infos) has.past (new-past launch infos);
}
step-are (acknowledges body) all old new has is = record {
  are =
      kept-tasks (λ (t : Task). not (progress.is_over t.progress)) (map (with_task (task.acknowledged body)) all)
      ∙ ap (filter (λ (t : Task). not (progress.is_over t.progress))) (changed-tasks (task.acknowledged body) all ∙ ap (map (task.acknowledged body)) has.are)
      ∙ sym is;
  past =
      kept-past (λ (r : Reported). not (progress.is_over r.task.progress)) (map (with_task (task.acknowledged body)) all)
      (changed-past (task.acknowledged body) (λ r past. acknowledged-by (task.awaits body r.task) r past) all has.past);
}
step-are (kills id) all old new has is = record {
  are = changed-tasks (task.killed id) all ∙ ap (map (task.killed id)) has.are ∙ sym is;
  past = changed-past (task.killed id) (λ r past. killed-by (same_id r.task.id id) r past) all has.past;
}

steps-are : (steps : List Step) (all : List Reported) (old new : List Task) → Are all old → LeadsTasks old steps new → Are (fold after_step all steps) new
steps-are [] all old new has leads = record { are = has.are ∙ sym leads; past = has.past }
steps-are (step ∷ steps) all old new has (next, is, rest) = steps-are steps (after_step all step) next new (step-are step all old next has is) rest

run-are : (steps : List Step) (tasks : List Task) → LeadsTasks [] steps tasks → Are (reported steps) tasks
run-are steps tasks leads = steps-are steps [] [] tasks (record { are = refl; past = tt }) leads

-- ---- of a run

pub reported-are : (steps : List Step) (tasks : List Task) → LeadsTasks [] steps tasks → map (λ (r : Reported). r.task) (reported steps) ≡ tasks
reported-are steps tasks leads = (run-are steps tasks leads).are

pub reported-course : (steps : List Step) (tasks : List Task) (i : ℕ) (r : Reported) → LeadsTasks [] steps tasks → slice_get (reported steps) i ≡ Some r
    → r.told ≡ told_until r.task.progress.state
reported-course steps tasks i r leads there =
    let (deeds, is) = past-of (reported steps) i r there (run-are steps tasks leads).past in
    ap (λ (p : TaskPast). p.told) (sym is) ∙ told_in deeds ∙ ap (λ (p : TaskPast). told_until p.progress.state) is

-- ---- one report

due-waits : (now update : ℕ) (t : Task) (status : TaskStatus) (waiting : Option ℕ) → t.progress.waiting ≡ waiting → status_due update now t ≡ Some status → t.progress.waiting ≡ None
due-waits now update t status None is due = is
due-waits now update t status (Some number) is due =
    absurd (
    let none : status_due update now t ≡ None = ap (option_map (λ (s : TaskState). task.status_of s update t)) (none_due now t.progress (ap (λ (w : Option ℕ). is_some w) is)) in
    cc
    )

-- a status that is reported is that of the task, which waits for no acknowledgement
pub report-waits : (now index update : ℕ) (finishes : Option ℕ) (status : TaskStatus) (old new : List Task) (t : Task)
    → StepsTasks (reports now index update finishes status) old new → slice_get old index ≡ Some t → t.progress.waiting ≡ None
report-waits now index update finishes status old new t is there =
    due-waits now update t status t.progress.waiting refl (ap (status_of update now) (sym there) ∙ is.0)
