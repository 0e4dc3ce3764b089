use Rattle.std.proofs.Common.{sym, ap, ◌∙◌, get_or, arith}
use Rattle.mes_model.specs.TaskInfo.{TaskInfo}
use Rattle.mes_double_cluster.proofs.FittingLemmas.{first_unfitting}
use Rattle.mes_double_cluster.proofs.fitting.unfitting_resource.Goals as goal

pub returns-clause-some : goal.returns-clause-some
returns-clause-some g c =
    let some = c.in_ok-breach.ensures.some in
    let task = c.index-tasks-breach.result in
    let resource = c.index-resources-breach.result in
    first_unfitting (g.O.OfferList.offers c.args.offers.now) c.args.tasks.now (omega arith) some.0 c.in_ok-breach.breach.task c.in_ok-breach.breach.resource some.1 some.2
    task c.index-tasks-breach.is resource
    (c.index-resources-breach.is ∙ ap (λ rs. get_or rs c.in_ok-breach.breach.resource resource) (c.as_slice-resources.ensures ∙ ap (λ (t : TaskInfo). t.resources) (sym c.index-tasks-breach.is)))
