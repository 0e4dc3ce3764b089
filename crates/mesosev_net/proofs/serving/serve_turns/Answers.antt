use Rattle.mesosev_net.proofs.TurnLemmas.{none_served, one_served}
use Rattle.mesosev_net.proofs.serving.serve_turns.Goals as goal

pub loop-init : goal.loop-init
loop-init g c = none_served _ _ _

pub loop-preserved : goal.loop-preserved
loop-preserved g c = one_served _ _ _ _ _ _ _ _ _ _ _ _ c.loop.invariant c.in-Ok.is c.serve_next.ensures c.saturating_add-printed.ensures
