use Rattle.std.proofs.Common.{refl}
use Rattle.mes_double_live.proofs.MoveLemmas.{moved, update-moves}
use Rattle.mes_double_live.proofs.StepLemmas.{same, steps-after}
use Rattle.mes_double_live.proofs.TaskLemmas.{reported-last, update-is}
use Rattle.mes_double_live.proofs.live.Live.report.Goals as goal

pub returns-in-Ok-clause-moves : goal.returns-in-Ok-clause-moves
returns-in-Ok-clause-moves c = moved _ _ _ _ c.self.view_is c.send_first.ensures.same (update-moves _ _ _ _ c.in-Ok.ensures.ok)

pub returns-in-Ok-clause-steps : goal.returns-in-Ok-clause-steps
returns-in-Ok-clause-steps c = steps-after _ _ _ _ _ (same _ _ c.self.view_is) (reported-last _ _ _ _ _ _ (update-is _ _ _ _ c.in-Ok.ensures.ok) refl c.send_first.ensures.sent)
