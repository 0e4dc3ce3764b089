use Rattle.std.proofs.Common.{◌≡◌, ◌++◌, take}
use Rattle.mes_session_state.specs.Refusals.{ids_of}
use Rattle.mes_double_master_state.proofs.ids.push_task_ids.Given as goal

abbrev pub invariant-loop-task : goal.invariant-loop-task
invariant-loop-task l = l.ids.items ≡ l.initial.ids.items ++ ids_of (take l.task-index l.tasks)
