use Rattle.std.proofs.Common.{refl}
use Rattle.mes_double_live.proofs.StepLemmas.{same, steps-same, push-last}
use Rattle.mes_double_live.proofs.live.Live.shut_down.Goals as goal

pub returns-clause-steps : goal.returns-clause-steps
returns-clause-steps c = push-last _ _ _ _ _ tt tt (steps-same _ _ (same _ _ refl)) c.push.ensures.pushed
