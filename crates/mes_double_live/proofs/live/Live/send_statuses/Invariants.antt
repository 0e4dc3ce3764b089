use Rattle.std.proofs.Common.{◌≡◌}
use Rattle.mes_double_live.specs.Steps.{StepsTo, IsReplying}
use Rattle.mes_double_live.proofs.live.Live.send_statuses.Given as goal

-- the test master is the same, and the state changed by steps
abbrev pub invariant-loop-status : goal.invariant-loop-status
invariant-loop-status l = record { same : l.self.master ≡ l.fn.self.master; steps : StepsTo IsReplying l.fn.self l.self }
