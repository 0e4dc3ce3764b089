use Rattle.std.proofs.Common.{arith}
use Rattle.mes_session_fit.specs.Launched.{launched, place}
use Rattle.mes_session_fit.proofs.BreachLemmas.{ahead-of, task-none}
use Rattle.mes_session_fit.proofs.fit_check.breach_of_task.Goals as goal

pub breaks-requires-clause-first : goal.breaks-requires-clause-first
breaks-requires-clause-first g c =
    ahead-of (g.O.OfferList.offers c.args.offers.now) (launched g.L.TaskGroup.tasks c.args.launches.now) (place g.L.TaskGroup.tasks c.args.launches.now c.args.at c.args.index) c.loop-resource.resource c.requires.first c.loop-resource.invariant

pub returns-then-breaks-clause-some : goal.returns-then-breaks-clause-some
returns-then-breaks-clause-some g c = record {
  breach = c.breaks.ensures.0 c.if-breaks.true;
  first = ahead-of (g.O.OfferList.offers c.args.offers.now) (launched g.L.TaskGroup.tasks c.args.launches.now) (place g.L.TaskGroup.tasks c.args.launches.now c.args.at c.args.index) c.loop-resource.resource c.requires.first c.loop-resource.invariant;
}

pub returns-clause-none : goal.returns-clause-none
returns-clause-none g c =
    task-none (g.O.OfferList.offers c.args.offers.now) (launched g.L.TaskGroup.tasks c.args.launches.now) (place g.L.TaskGroup.tasks c.args.launches.now c.args.at c.args.index) c.args.task.now c.requires.is c.requires.first
    (λ l h. c.loop-resource.invariant l (omega (arith, h, c.loop-resource-test.false, c.len-resource-end.ensures)))
