use Rattle.std.proofs.Common.{◌≡◌, map, filter_map, take}
use Rattle.mes_double_master_state.specs.Events.{reconciled_event, last_of}
use Rattle.mes_double_master_state.proofs.events.reconciled_of.Given as goal

abbrev pub invariant-loop-task : goal.invariant-loop-task
invariant-loop-task l = l.events.items ≡ map reconciled_event (filter_map (last_of l.latest.entries) (take l.task-index l.tasks))
