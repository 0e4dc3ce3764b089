use Rattle.std.proofs.Common.{◌≡◌, ◌+◌, List, length, ap, sym, ◌∙◌, arith}
use Rattle.mes_model.specs.TaskInfo.{TaskInfo}
use Rattle.mes_session_fit.specs.Launched.{launched, place, as_index}
use Rattle.mes_session_fit.proofs.BreachLemmas.{none-at, all-none, counted}
use Rattle.mes_session_fit.proofs.LaunchedLemmas.{next-place}
use Rattle.mes_session_fit.proofs.fit_check.first_breach.Goals as goal

pub loop-at-preserved : goal.loop-at-preserved
loop-at-preserved g c =
    let os = c.args.launches.now in
    let next : place g.L.TaskGroup.tasks os (c.loop-at.at + 1) 0 ≡ place g.L.TaskGroup.tasks os c.loop-at.at (length c.tasks.result.now) =
    next-place g.L.TaskGroup.tasks os c.loop-at.at c.index-launches-at.result c.loop-at-test.true c.index-launches-at.is
    ∙ ap (λ (ts : List TaskInfo). place g.L.TaskGroup.tasks os c.loop-at.at (length ts)) (sym c.tasks.ensures) in
    record {
      counted = c.saturating_add-before.ensures ∙ counted _ (place g.L.TaskGroup.tasks os c.loop-at.at 0) _ c.loop-at.invariant.counted ∙ ap as_index (omega (arith, next));
      none = c.in_default.ensures.none;
    }

pub returns-clause-none : goal.returns-clause-none
returns-clause-none g c =
    let os = c.args.launches.now in
    let all : c.loop-at.at ≡ length os = omega arith in
    all-none (g.O.OfferList.offers c.args.offers.now) g.L.TaskGroup.tasks os
    (none-at (g.O.OfferList.offers c.args.offers.now) (launched g.L.TaskGroup.tasks os) (place g.L.TaskGroup.tasks os c.loop-at.at 0) (place g.L.TaskGroup.tasks os (length os) 0) (ap (λ n. place g.L.TaskGroup.tasks os n 0) all) c.loop-at.invariant.none)
