use Rattle.mes_double_live.specs.Moving.{Moves}
use Rattle.mes_double_live.specs.Steps.{StepsTo, IsDelivering}
use Rattle.mes_double_live.proofs.live.Live.deliver_waiting.Given as goal

-- the test master moved by deeds, and the state changed by steps
abbrev pub invariant-loop : goal.invariant-loop
invariant-loop l = record { moves : Moves l.fn.self.master l.self.master; steps : StepsTo IsDelivering l.fn.self l.self }
