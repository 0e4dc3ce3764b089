use Rattle.std.proofs.Common.{refl}
use Rattle.mes_double_live.proofs.StepLemmas.{same, steps-from, written-steps}
use Rattle.mes_double_live.proofs.live.Live.wrote.Goals as goal

pub returns-clause-steps : goal.returns-clause-steps
returns-clause-steps c = steps-from _ _ _ (same _ _ c.self.view_is) (written-steps _ _ _ refl c.wrote.ensures refl refl)
