use Rattle.std.proofs.Common.{◌≤◌}
use Rattle.mes_session_fit.specs.Fits.{NoneBefore}
use Rattle.mes_session_fit.specs.Launched.{launched, place}
use Rattle.mes_session_fit.specs.Batches.{IsBatch}
use Rattle.mes_session_fit.proofs.fit_check.breach_of_group.Given as goal

-- each task so far fits, and the batch does not begin after the current task
abbrev pub invariant-loop-index : goal.invariant-loop-index
invariant-loop-index g l = record {
  none : NoneBefore (g.O.OfferList.offers l.offers) (launched g.L.TaskGroup.tasks l.launches) (place g.L.TaskGroup.tasks l.launches l.at l.index);
  begun : l.batch.first ≤ l.index;
  is : IsBatch g.L.TaskGroup.tasks l.launches l.at l.batch;
}
