use Rattle.std.proofs.Common.{refl}
use Rattle.mes_double_live.proofs.StepLemmas.{same-view, steps-from}
use Rattle.mes_double_live.proofs.OpenLemmas.{resent-found, resent-steps}
use Rattle.mes_double_live.proofs.live.Live.resend.Goals as goal

pub returns-in_ok-push-in-Ok-clause-steps : goal.returns-in_ok-push-in-Ok-clause-steps
returns-in_ok-push-in-Ok-clause-steps c =
    steps-from _ _ _ (same-view _ _ _ c.self.view_is (record { master = refl; body = refl; tasks = refl; waiting = refl }))
    (resent-steps _ _ _ _ c.in-Ok.ensures.ok c.in_ok-push-in-Ok.ensures.pushed)

pub returns-in_ok-push-in-Ok-clause-again : goal.returns-in_ok-push-in-Ok-clause-again
returns-in_ok-push-in-Ok-clause-again c =
    resent-found _ _ _ _ _ _ c.self.view_is (record { master = refl; body = refl; tasks = refl; waiting = refl }) refl c.in-Ok.ensures.ok c.in_ok-push-in-Ok.ensures.pushed
