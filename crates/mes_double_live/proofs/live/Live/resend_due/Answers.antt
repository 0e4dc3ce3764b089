use Rattle.std.proofs.Common.{◌∙◌}
use Rattle.mes_double_live.proofs.MoveLemmas.{same-master}
use Rattle.mes_double_live.proofs.StepLemmas.{same, steps-then, steps-to}
use Rattle.mes_double_live.proofs.live.Live.resend_due.Goals as goal
use Rattle.mes_double_live.proofs.live.Live.resend_due.Goals.{in-Some-due_from+then-due-self+in_ok-resend, in_default}

pub loop-index-preserved : goal.loop-index-preserved
loop-index-preserved c = elim c.match-due_from.branch [
  | in-Some-due_from+then-due-self+in_ok-resend w ↦ record {
    same = same-master _ _ w.self-is ∙ w.resend.ensures.same ∙ c.loop-index.invariant.same;
    steps = steps-to _ _ _ (same _ _ w.self-is) (steps-then _ _ _ c.loop-index.invariant.steps w.in_ok-resend.ensures.steps);
  }
  | in_default w ↦ record {
    same = same-master _ _ w.self-is ∙ c.loop-index.invariant.same;
    steps = steps-to _ _ _ (same _ _ w.self-is) c.loop-index.invariant.steps;
  }
]
