use Rattle.std.proofs.Common.{ℕ, ◌<◌}
use Rattle.mes_session_fit.specs.Fits.{BreaksAt}
use Rattle.mes_session_fit.specs.Launched.{launched, place}
use Rattle.mes_session_fit.proofs.fit_check.breach_of_task.Given as goal

-- each of the task's resources so far fits
abbrev pub invariant-loop-resource : goal.invariant-loop-resource
invariant-loop-resource g l = (j : ℕ) → j < l.resource → BreaksAt (g.O.OfferList.offers l.offers) (launched g.L.TaskGroup.tasks l.launches) (place g.L.TaskGroup.tasks l.launches l.at l.index) j → ⊥
