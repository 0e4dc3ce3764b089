use Rattle.std.proofs.Common.{◌∙◌}
use Rattle.mes_double_cluster.specs.Times.{earlier}
use Rattle.mes_double_cluster.specs.Tasks.{times_of}
use Rattle.mes_double_cluster.specs.Clusters.{offer_times}
use Rattle.mes_double_cluster.proofs.TimeLemmas.{earliest_of_both}
use Rattle.mes_double_cluster.proofs.cluster.Cluster.first_due.Goals as goal

pub returns : goal.returns
returns c =
    c.earlier.ensures
    ∙ (λ i. earlier (c.first_offer_due.ensures i) (c.first_status_due.ensures i))
    ∙ earliest_of_both (offer_times c.args.self.now) (times_of c.args.self.now.tasks)
