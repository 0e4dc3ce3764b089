-- The events that a master sends, and the statuses that a RECONCILE asks for.
use Rattle.std.specs.Prelude.{ℕ, List, [], ◌∷◌, filter_map, Option, Some, None, codes}
use Rattle.std.specs.Map.{values_of, lookup}
use Rattle.mes_model.specs.Id.{Id}
use Rattle.mes_model.specs.TaskRef.{TaskRef}
use Rattle.mes_model.specs.TaskStatus.{TaskStatus}
use Rattle.mes_msg.specs.Event.{Event}
use Rattle.mes_msg.specs.Event.TheVariants as event
use Rattle.mes_double_master_state.specs.Ids.{same_id}

-- the heartbeat interval of a master that is given none: 15 seconds, in microseconds
abbrev pub usual_interval : Option ℕ
usual_interval = Some 15000000

-- the SUBSCRIBED with this heartbeat interval in microseconds, or with none
abbrev pub subscribed_event : Id → Option ℕ → Event
subscribed_event framework interval = event.Subscribed (record { framework_id = framework; heartbeat_interval_seconds = interval })

abbrev pub update_event : TaskStatus → Event
update_event status = event.Update (record { status = status })

-- the UPDATE that is sent for a RECONCILE: without a UUID, so it requires no acknowledgement
abbrev pub reconciled_event : TaskStatus → Event
reconciled_event status = update_event (record status { reason = Some (codes "REASON_RECONCILIATION"); uuid = None })

-- the last status of a task, if it has a status
abbrev pub last_of : List (Id × TaskStatus) → TaskRef → Option TaskStatus
last_of latest task = lookup (same_id task.task_id) latest

-- the last statuses of the tasks that a RECONCILE names, in order; of all tasks if it names none
abbrev pub asked_for : List (Id × TaskStatus) → List TaskRef → List TaskStatus
asked_for latest [] = values_of latest
asked_for latest (task ∷ tasks) = filter_map (last_of latest) (task ∷ tasks)
