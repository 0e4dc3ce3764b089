use Rattle.std.proofs.Common.{◌≡◌, drop}
use Rattle.mes_double_faults.specs.Plans.{planned_chunk}
use Rattle.mes_double_faults.proofs.plan.FaultPlan.chunk.Given as goal

abbrev pub invariant-loop-fault : goal.invariant-loop-fault
invariant-loop-fault l = planned_chunk (drop l.fault-index l.fault-items) ≡ planned_chunk l.fault-items
