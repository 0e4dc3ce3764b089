use Rattle.std.proofs.Common.{◌∙◌, sym, ap, ◌++◌, [], ◌∷◌, map, filter_map, List}
use Rattle.mes_msg.specs.Event.{Event}
use Rattle.mes_double_master_state.specs.Events.{reconciled_event, last_of}
use Rattle.mes_double_master_state.proofs.UpdateLemmas.{told-more}
use Rattle.mes_double_master_state.proofs.events.reconciled_of.Goals as goal

pub loop-task-preserved : goal.loop-task-preserved
loop-task-preserved c =
    c.in_ok-push_reconciled.ensures
    ∙ ap (λ (l : List Event). l ++ map reconciled_event (filter_map (last_of c.args.latest.now.entries) (c.task-item.result ∷ []))) c.loop-task.invariant
    ∙ sym (told-more reconciled_event (last_of c.args.latest.now.entries) c.args.tasks.now c.loop-task.task-index c.task-item.result c.loop-task-test.true c.task-item.is)
