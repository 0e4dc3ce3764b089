use Rattle.std.proofs.Common.{refl}
use Rattle.mes_double_live.proofs.StepLemmas.{body-steps, same, steps-from}
use Rattle.mes_double_live.specs.Steps.Step.{takes}
use Rattle.mes_double_live.proofs.live.Live.take_happened.Goals as goal

pub returns-clause-steps : goal.returns-clause-steps
returns-clause-steps c = steps-from _ _ _ (same _ _ c.self.view_is) (body-steps takes _ _ tt refl c.take_happened-happened.ensures.rest refl refl)
