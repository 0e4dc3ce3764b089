use Rattle.std.proofs.Common.{◌∙◌, ap}
use Rattle.mes_msg.specs.Event.TheVariants.{Update}
use Rattle.mes_double_live.specs.Lives.{LiveState}
use Rattle.mes_double_live.specs.Steps.{overtaken_by}
use Rattle.mes_double_live.proofs.TaskLemmas.{overtaken-tasks}
use Rattle.mes_double_live.proofs.live.Live.note_outside.Goals as goal

pub returns-clause-tasks : goal.returns-clause-tasks
returns-clause-tasks c =
    overtaken-tasks c.args.status.now _ _ _ c.overtaken.ensures
    ∙ ap (λ (x : LiveState). overtaken_by (Update (record { status = c.args.status.now })) x.cluster.tasks) (c.self.view_is ∙ c.in_ok-note_sent.ensures.noted)
