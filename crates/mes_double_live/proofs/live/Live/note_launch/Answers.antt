use Rattle.std.proofs.Common.{ap, refl}
use Rattle.mes_double_cluster.specs.Clusters.{ClusterState}
use Rattle.mes_double_live.proofs.CallLemmas.{replying-of-launch}
use Rattle.mes_double_live.proofs.StepLemmas.{body-steps, same, steps-from, steps-last, wider-last}
use Rattle.mes_double_live.specs.Steps.Step.{launches}
use Rattle.mes_double_live.proofs.live.Live.note_launch.Goals as goal

pub returns-clause-steps : goal.returns-clause-steps
returns-clause-steps c =
    steps-last _ _ _ _ (steps-from _ _ _ (same _ _ c.self.view_is) (body-steps (launches _ _) _ _ tt refl refl (ap (λ (x : ClusterState). x.tasks) c.in_ok-accepted.ensures) refl)) (wider-last replying-of-launch _ _ _ c.send_statuses.ensures.steps)
