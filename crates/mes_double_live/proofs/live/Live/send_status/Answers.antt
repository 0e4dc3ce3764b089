use Rattle.std.proofs.Common.{ap, refl}
use Rattle.mes_model.specs.TaskStatus.{TaskStatus}
use Rattle.mes_double_live.proofs.CallLemmas.{needs-none}
use Rattle.mes_double_live.proofs.StepLemmas.{same, steps-same, push-last}
use Rattle.mes_double_live.proofs.live.Live.send_status.Goals as goal

pub returns-clause-steps : goal.returns-clause-steps
returns-clause-steps c =
    let none = needs-none c.in_ok-status-2.status (ap (λ (s : TaskStatus). s.uuid) c.in_ok-status-2.ensures) in
    push-last _ _ _ _ _ none tt (steps-same _ _ (same _ _ refl)) c.push.ensures.pushed
