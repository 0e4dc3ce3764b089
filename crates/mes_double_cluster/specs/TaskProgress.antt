-- How far a task is. Its state goes from STAGING to STARTING, RUNNING and one last state. The next
-- state is reported only after the report of the current one is acknowledged.
use Rattle.std.specs.Prelude.{ℕ, ◌&&◌, not, nat_le, Bool, true, false, if◌then◌else◌, Option, Some, None, is_some, option_map}
use Rattle.mes_model_task.specs.declared.task_state.TaskState.{TaskState}
use Rattle.mes_model_task.specs.declared.task_state.TaskState.TheVariants as task
use Rattle.mes_double_cluster.specs.declared.progress.Progress.{Progress}
use Rattle.mes_double_cluster.specs.declared.progress.NextState.{NextState}

-- a task that was just launched
abbrev pub staging : Progress
staging = record { state = task.Staging; waiting = None; killed = false; finishes = None }

-- ---- the next state

abbrev pub at_once : TaskState → Option NextState
at_once state = Some (record { state = state; from = 0 })

-- the last state of a running task: KILLED after a KILL, else FINISHED at its time, if it has one
abbrev pub last_state : Bool → Option ℕ → Option NextState
last_state true finishes = at_once task.Killed
last_state false (Some time) = Some (record { state = task.Finished; from = time })
last_state false None = None

-- the state after this one
abbrev pub following : Progress → TaskState → Option NextState
following p task.Staging = at_once task.Starting
following p task.Starting = at_once task.Running
following p task.Running = last_state p.killed p.finishes
following p _ = None

-- the state that is reported next; none while an update waits for its acknowledgement
abbrev pub next_state : Progress → Option NextState
next_state p = if is_some p.waiting then None else following p p.state

-- the first time at which the next state is reported
abbrev pub next_time : Progress → Option ℕ
next_time p = option_map (λ (next : NextState). next.from) (next_state p)

abbrev pub due_at : ℕ → Option NextState → Option TaskState
due_at now None = None
due_at now (Some next) = if nat_le next.from now then Some next.state else None

-- the state that is reported at the time `now`, if one is due
abbrev pub due : ℕ → Progress → Option TaskState
due now p = due_at now (next_state p)

-- ---- the progress after an event

-- the time at which a task finishes, after it was reported in this state: a task that runs from now
-- on gets a new time
abbrev pub finishing : TaskState → Option ℕ → Option ℕ → Option ℕ
finishing task.Running new old = new
finishing _ new old = old

-- the state was reported in the update with this number
abbrev pub reported : TaskState → ℕ → Option ℕ → Progress → Progress
reported state update finishes p = record p { state = state; waiting = Some update; finishes = finishing state finishes p.finishes }

abbrev pub acknowledged : Progress → Progress
acknowledged p = record p { waiting = None }

abbrev pub killed : Progress → Progress
killed p = record p { killed = true }

-- ---- the last state

-- true for a terminal state (mesos.proto, `TaskState`)
abbrev pub is_last : TaskState → Bool
is_last task.Finished = true
is_last task.Failed = true
is_last task.Killed = true
is_last task.Error = true
is_last task.Lost = true
is_last task.Dropped = true
is_last task.Gone = true
is_last task.GoneByOperator = true
is_last _ = false

-- the last state was reported and acknowledged
abbrev pub is_over : Progress → Bool
is_over p = is_last p.state && not (is_some p.waiting)
