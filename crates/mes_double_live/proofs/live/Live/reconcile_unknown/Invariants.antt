use Rattle.std.proofs.Common.{◌≡◌}
use Rattle.mes_double_live.specs.Steps.{StepsTo, IsReplying}
use Rattle.mes_double_live.proofs.live.Live.reconcile_unknown.Given as goal

-- the test master is the same, and the state changed by steps
abbrev pub invariant-loop-task : goal.invariant-loop-task
invariant-loop-task l = record { same : l.self.master ≡ l.fn.self.master; steps : StepsTo IsReplying l.fn.self l.self }
