use Rattle.std.proofs.Common.{refl}
use Rattle.mes_session_fit.specs.Fits.Piece.{point}
use Rattle.mes_session_fit.specs.Launched.{launched, place}
use Rattle.mes_session_fit.proofs.BatchLemmas.{resource-free}
use Rattle.mes_session_fit.proofs.BreachLemmas.{known, lacking, answered}
use Rattle.mes_session_fit.proofs.fit_check.breaks.Goals as goal

pub is_unoffered-requires : goal.is_unoffered-requires
is_unoffered-requires g c = λ x.
    known (g.O.OfferList.offers c.args.offers.now) (launched g.L.TaskGroup.tasks c.args.launches.now) (place g.L.TaskGroup.tasks c.args.launches.now c.args.at c.args.index) c.args.resource c.args.task.now
    c.index-resources-resource.result c.as_slice-resources.result.now c.as_slice-resources.ensures c.requires.within c.index-resources-resource.is c.requires.is c.requires.first (point x)

pub returns-then-is_unoffered : goal.returns-then-is_unoffered
returns-then-is_unoffered g c = (
  λ _. lacking (g.O.OfferList.offers c.args.offers.now) (launched g.L.TaskGroup.tasks c.args.launches.now) (place g.L.TaskGroup.tasks c.args.launches.now c.args.at c.args.index) c.args.resource c.args.task.now
      c.index-resources-resource.result c.as_slice-resources.result.now c.as_slice-resources.ensures c.requires.within c.index-resources-resource.is c.requires.is c.requires.first
      c.is_unoffered.result c.if-is_unoffered.true c.is_unoffered.ensures,
  λ _. refl,
)

pub returns : goal.returns
returns g c =
    answered (g.O.OfferList.offers c.args.offers.now) (launched g.L.TaskGroup.tasks c.args.launches.now) (place g.L.TaskGroup.tasks c.args.launches.now c.args.at c.args.index) c.args.resource c.args.task.now
    c.index-resources-resource.result c.as_slice-resources.result.now c.as_slice-resources.ensures c.requires.within c.index-resources-resource.is c.requires.is c.requires.first
    (c.exceeds_first_time.ensures.no c.if-exceeds_first_time.false) c.is_unoffered.result c.if-is_unoffered.false c.is_unoffered.ensures c.meets_another.result c.meets_another.ensures

pub meets_another-requires-clause-free : goal.meets_another-requires-clause-free
meets_another-requires-clause-free g c = λ apart x e.
    c.requires.free apart x
    (resource-free c.args.task.now.resources c.as_slice-resources.result.now c.args.resource c.index-resources-resource.result c.as_slice-resources.ensures c.requires.within c.index-resources-resource.is x e)
