use Rattle.std.proofs.Common.{◌≡◌}
use Rattle.mes_double_live.specs.Steps.{StepsTo, IsResending}
use Rattle.mes_double_live.proofs.live.Live.resend_due.Given as goal

-- the test master is the same, and the state changed by steps
abbrev pub invariant-loop-index : goal.invariant-loop-index
invariant-loop-index l = record { same : l.self.master ≡ l.fn.self.master; steps : StepsTo IsResending l.fn.self l.self }
