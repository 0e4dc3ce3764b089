use Rattle.std.proofs.Common.{ap, ◌∙◌}
use Rattle.std.proofs.lemmas.Result.{on_ok_weaker}
use Rattle.mes_double_cluster.specs.Clusters.{ClusterState, reported_at}
use Rattle.mes_double_live.specs.Lives.{LiveState}
use Rattle.mes_double_live.proofs.TaskLemmas.{reported-but}
use Rattle.mes_double_live.proofs.live.Live.send_first.Goals as goal

pub returns-clause-sent : goal.returns-clause-sent
returns-clause-sent c =
    let noted = c.in_ok-note_sent.ensures.noted in
    let master = ap (λ (x : LiveState). x.master) noted ∙ ap (λ (x : LiveState). x.master) c.self.view_is in
    let body = ap (λ (x : LiveState). x.out) noted ∙ ap (λ (x : LiveState). x.out) c.self.view_is in
    let time = ap (λ (x : LiveState). x.time) noted ∙ ap (λ (x : LiveState). x.time) c.self.view_is in
    let waiting = ap (λ (x : LiveState). x.waiting) noted ∙ ap (λ (x : LiveState). x.waiting) c.self.view_is in
    let tasks =
    ap (λ (x : LiveState). x.cluster.tasks) noted
    ∙ ap (λ (x : ClusterState). x.tasks) c.reported.ensures
    ∙ ap (λ (x : LiveState). (reported_at c.args.index c.args.status.now.state x.time x.cluster).tasks) c.self.view_is in
    on_ok_weaker _ (reported-but _ _ _ _ _ _ c.requires.due c.requires.update master body time waiting tasks) c.push.ensures.pushed
