use Rattle.std.proofs.Common.{◌≡◌, map, take}
use Rattle.std.specs.Map.{values_of}
use Rattle.mes_double_master_state.specs.Events.{reconciled_event}
use Rattle.mes_double_master_state.proofs.events.reconciled_all.Given as goal

abbrev pub invariant-loop-index : goal.invariant-loop-index
invariant-loop-index l = l.events.items ≡ map reconciled_event (values_of (take l.index l.latest.entries))
