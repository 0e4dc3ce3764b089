use Rattle.std.proofs.Common.{refl}
use Rattle.mes_double_live.proofs.OpenLemmas.{begins-to}
use Rattle.mes_double_live.proofs.StepLemmas.{same-by}
use Rattle.mes_double_live.proofs.live.Live.call.Goals as goal

pub returns-clause-steps : goal.returns-clause-steps
returns-clause-steps c = begins-to _ _ _ _ (same-by _ _ _ c.in_ok-log_call.ensures.logged refl refl refl refl) c.in_ok-reply.ensures.steps
