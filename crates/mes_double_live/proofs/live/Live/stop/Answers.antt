use Rattle.std.proofs.Common.{subst, sym}
use Rattle.mes_double_master.specs.Masters.{MasterState}
use Rattle.mes_double_live.specs.Moving.{Moves}
use Rattle.mes_double_live.proofs.MoveLemmas.{moves-then}
use Rattle.mes_double_live.proofs.StepLemmas.{delivering-of-end, disconnected-steps, steps-then, steps-wider}
use Rattle.mes_double_live.proofs.OpenLemmas.{made-steps}
use Rattle.mes_double_live.specs.Steps.Step.{clears}
use Rattle.mes_double_live.proofs.live.Live.stop.Goals as goal

pub returns-in_err-end_stream-clause-moves : goal.returns-in_err-end_stream-clause-moves
returns-in_err-end_stream-clause-moves c =
    moves-then _ _ _ c.deliver_waiting.ensures.moves
    (subst (λ (m : MasterState). Moves c.deliver_waiting.new.self.master m) (sym c.end_stream.ensures.same) c.break_stream.ensures.moves)

pub returns-clause-moves : goal.returns-clause-moves
returns-clause-moves c =
    moves-then _ _ _ c.deliver_waiting.ensures.moves
    (subst (λ (m : MasterState). Moves c.deliver_waiting.new.self.master m) (sym c.end_stream.ensures.same) c.break_stream.ensures.moves)

pub returns-clause-steps : goal.returns-clause-steps
returns-clause-steps c =
    steps-then _ _ _ (steps-wider delivering-of-end _ _ c.in_ok-deliver_waiting.ensures.steps)
    (steps-then _ _ _ (disconnected-steps _ _ c.break_stream.ensures.broken c.break_stream.ensures.rest) (made-steps clears _ _ tt c.in_ok-end_stream.ensures.ends))
