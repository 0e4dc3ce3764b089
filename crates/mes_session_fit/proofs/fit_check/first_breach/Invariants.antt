use Rattle.std.proofs.Common.{◌≡◌}
use Rattle.mes_session_fit.specs.Fits.{NoneBefore}
use Rattle.mes_session_fit.specs.Launched.{launched, place, as_index}
use Rattle.mes_session_fit.proofs.fit_check.first_breach.Given as goal

-- `before` counts the tasks of the groups so far, and each of these tasks fits
abbrev pub invariant-loop-at : goal.invariant-loop-at
invariant-loop-at g l = record {
  counted : l.before ≡ as_index (place g.L.TaskGroup.tasks l.launches l.at 0);
  none : NoneBefore (g.O.OfferList.offers l.offers) (launched g.L.TaskGroup.tasks l.launches) (place g.L.TaskGroup.tasks l.launches l.at 0);
}
