use Rattle.std.proofs.Common.{◌≡◌, drop}
use Rattle.mes_double_faults.specs.Plans.{planned_event}
use Rattle.mes_double_faults.proofs.plan.FaultPlan.planned_event.Given as goal

abbrev pub invariant-loop-fault : goal.invariant-loop-fault
invariant-loop-fault l = planned_event (drop l.fault-index l.fault-items) l.number ≡ planned_event l.fault-items l.number
