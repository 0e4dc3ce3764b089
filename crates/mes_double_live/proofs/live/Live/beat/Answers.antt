use Rattle.std.proofs.Common.{refl}
use Rattle.std.proofs.lemmas.Result.{on_ok_weaker}
use Rattle.mes_double_live.proofs.StepLemmas.{body-steps, same, steps-from}
use Rattle.mes_double_live.specs.Steps.Step.{beats}
use Rattle.mes_double_live.proofs.live.Live.beat.Goals as goal

pub returns-clause-steps : goal.returns-clause-steps
returns-clause-steps c = on_ok_weaker _ (λ is. steps-from _ _ _ (same _ _ c.self.view_is) (body-steps beats _ _ tt refl is refl refl)) c.beat.ensures
