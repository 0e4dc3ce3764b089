-- Lemmas about the states that are reported of a task.
use Rattle.std.proofs.Common.{◌≡◌, ℕ, Bool, true, false, if◌then◌else◌, fold, List, [], ◌∷◌, ◌++◌, Option, Some, None, is_some, refl, sym, ap, subst, ◌∙◌, nat_le}
use Rattle.std.specs.Prelude.{◌≢◌}
use Rattle.std.proofs.Math.Dec.{leb-zero}
use Rattle.mes_model_task.specs.declared.task_state.TaskState.{TaskState}
use Rattle.mes_model_task.specs.declared.task_state.TaskState.TheVariants as task
use Rattle.mes_double_cluster.specs.declared.progress.Progress.{Progress}
use Rattle.mes_double_cluster.specs.declared.progress.NextState.{NextState}
use Rattle.mes_double_cluster.specs.TaskProgress.{next_state, following, last_state, due, due_at, killed}
use Rattle.mes_double_cluster.specs.TaskRuns.TaskDeed.{reports, acknowledges, kills}
use Rattle.mes_double_cluster.specs.TaskRuns.{TaskDeed, TaskPast, after, after_report, past_of, told_until}

pub none_due : (now : ℕ) (p : Progress) → is_some p.waiting ≡ true → due now p ≡ None
none_due now p waits = ap (λ b. due_at now (if b then None else following p p.state)) waits

pub killed_due : (now : ℕ) (p : Progress) → p.state ≡ task.Running → p.waiting ≡ None → due now (killed p) ≡ Some task.Killed
killed_due now p runs waits =
    (λ i. due_at now (if is_some (waits i) then None else following (killed p) (runs i)))
    ∙ ap (λ b. if b then Some task.Killed else None) (leb-zero now)

-- ---- a killed task is not FINISHED

abbrev pub IsOther : Option NextState → Type 0
IsOther None = Unit {0}
IsOther (Some next) = next.state ≢ task.Finished

last_other : (finishes : Option ℕ) → IsOther (last_state true finishes)
last_other finishes = λ e. absurd (cc)

state_other : (p : Progress) (state : TaskState) → p.killed ≡ true → IsOther (following p state)
state_other p task.Staging was_killed = λ e. absurd (cc)
state_other p task.Starting was_killed = λ e. absurd (cc)
state_other p task.Running was_killed = subst (λ b. IsOther (last_state b p.finishes)) (sym was_killed) (last_other p.finishes)
state_other p _ was_killed = tt

next_other : (p : Progress) → p.killed ≡ true → IsOther (next_state p)
next_other p was_killed = by (is_some p.waiting)
  where
    by : (b : Bool) → IsOther (if b then None else following p p.state)
    by true = tt
    by false = state_other p p.state was_killed

other_due : (now : ℕ) (next : Option NextState) → IsOther next → due_at now next ≢ Some task.Finished
other_due now None other = λ e. absurd (cc)
other_due now (Some next) other = by (nat_le next.from now)
  where
    by : (b : Bool) → (if b then Some next.state else None) ≢ Some task.Finished
    by true = λ e. other (cc)
    by false = λ e. absurd (cc)

pub not_finished : (now : ℕ) (p : Progress) → p.killed ≡ true → due now p ≢ Some task.Finished
not_finished now p was_killed = other_due now (next_state p) (next_other p was_killed)

-- ---- the states that are reported, in order

-- what was reported of a task, followed by its next state, is what is reported until that state
abbrev pub Follows : TaskState → Option NextState → Type 0
Follows state None = Unit {0}
Follows state (Some next) = told_until state ++ next.state ∷ [] ≡ told_until next.state

last_follows : (killed : Bool) (finishes : Option ℕ) → Follows task.Running (last_state killed finishes)
last_follows true finishes = refl
last_follows false None = tt
last_follows false (Some time) = refl

state_follows : (p : Progress) (state : TaskState) → Follows state (following p state)
state_follows p task.Staging = refl
state_follows p task.Starting = refl
state_follows p task.Running = last_follows p.killed p.finishes
state_follows p _ = tt

next_follows : (p : Progress) → Follows p.state (next_state p)
next_follows p = by (is_some p.waiting)
  where
    by : (b : Bool) → Follows p.state (if b then None else following p p.state)
    by true = tt
    by false = state_follows p p.state

abbrev pub IsTold : TaskPast → Type 0
IsTold past = past.told ≡ told_until past.progress.state

report_told : (past : TaskPast) (now update : ℕ) (finishes : Option ℕ) (next : Option NextState) → Follows past.progress.state next → IsTold past
    → IsTold (after_report past update finishes (due_at now next))
report_told past now update finishes None follows told = told
report_told past now update finishes (Some next) follows told = by (nat_le next.from now)
  where
    by : (b : Bool) → IsTold (after_report past update finishes (if b then Some next.state else None))
    by true = ap (λ (l : List TaskState). l ++ next.state ∷ []) told ∙ follows
    by false = told

after_told : (past : TaskPast) (deed : TaskDeed) → IsTold past → IsTold (after past deed)
after_told past (reports now update finishes) told = report_told past now update finishes (next_state past.progress) (next_follows past.progress) told
after_told past acknowledges told = told
after_told past kills told = told

all_told : (past : TaskPast) (deeds : List TaskDeed) → IsTold past → IsTold (fold after past deeds)
all_told past [] told = told
all_told past (deed ∷ deeds) told = all_told (after past deed) deeds (after_told past deed told)

pub told : (deeds : List TaskDeed) → IsTold (past_of deeds)
told deeds = all_told _ deeds refl
