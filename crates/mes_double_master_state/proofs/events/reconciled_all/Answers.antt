use Rattle.std.proofs.Common.{◌∙◌, sym, ◌++◌, [], ◌∷◌}
use Rattle.mes_double_master_state.specs.Events.{reconciled_event}
use Rattle.mes_double_master_state.proofs.UpdateLemmas.{value-more}
use Rattle.mes_double_master_state.proofs.events.reconciled_all.Goals as goal

pub loop-index-preserved : goal.loop-index-preserved
loop-index-preserved c =
    c.in_ok-push.ensures.items
    ∙ (λ i. c.loop-index.invariant i ++ c.in_ok-reconciled.ensures i ∷ [])
    ∙ sym (value-more reconciled_event c.args.latest.now.entries c.loop-index.index (c.in-Some.field-0-0.now, c.in-Some.status.now) (sym c.in-Some.ensures.entry))
