use Rattle.std.proofs.Common.{ap, refl}
use Rattle.mes_double_cluster.specs.Clusters.{ClusterState}
use Rattle.mes_double_live.proofs.MoveLemmas.{moved, break-moves}
use Rattle.mes_double_live.proofs.StepLemmas.{broken-steps, same, steps-from}
use Rattle.mes_double_live.proofs.live.Live.broken.Goals as goal

pub returns-clause-moves : goal.returns-clause-moves
returns-clause-moves c = moved _ _ _ _ c.self.view_is refl (break-moves _ _ c.broken.ensures)

pub returns-clause-steps : goal.returns-clause-steps
returns-clause-steps c =
    steps-from _ _ _ (same _ _ c.self.view_is) (broken-steps _ _ c.broken.ensures c.clear.ensures (ap (λ (x : ClusterState). x.tasks) c.disconnected.ensures) refl)
