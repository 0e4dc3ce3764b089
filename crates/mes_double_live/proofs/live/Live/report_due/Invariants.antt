use Rattle.mes_double_live.specs.Moving.{Moves}
use Rattle.mes_double_live.specs.Steps.{StepsTo, IsSending}
use Rattle.mes_double_live.proofs.live.Live.report_due.Given as goal

-- the test master moved by deeds, and the state changed by steps
abbrev pub invariant-loop-index : goal.invariant-loop-index
invariant-loop-index l = record { moves : Moves l.fn.self.master l.self.master; steps : StepsTo IsSending l.fn.self l.self }
