use Rattle.std.proofs.Common.{◌≡◌, drop}
use Rattle.mes_double_faults.specs.Plans.{planned_call}
use Rattle.mes_double_faults.proofs.plan.FaultPlan.planned_call.Given as goal

abbrev pub invariant-loop-fault : goal.invariant-loop-fault
invariant-loop-fault l = planned_call (drop l.fault-index l.fault-items) l.number ≡ planned_call l.fault-items l.number
