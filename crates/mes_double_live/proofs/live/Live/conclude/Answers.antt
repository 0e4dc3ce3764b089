use Rattle.std.proofs.Common.{ap}
use Rattle.mes_double_live.specs.Calling.{demanded_by}
use Rattle.mes_double_live.proofs.CallLemmas.{replying-of-call}
use Rattle.mes_double_live.proofs.OpenLemmas.{begins-made, begins-wider, makes-first}
use Rattle.mes_double_live.proofs.live.Live.conclude.Goals as goal

pub returns-in_ok-end_stream-in-Teardown-Some-clause-steps : goal.returns-in_ok-end_stream-in-Teardown-Some-clause-steps
returns-in_ok-end_stream-in-Teardown-Some-clause-steps c =
    makes-first _ _ _ _ _ c.in_ok-send_all.ensures.sends
    (begins-made _ _ _ _ (ap demanded_by c.in-Teardown-Some.is-0) c.in_ok-end_stream-in-Teardown-Some.ensures.ends)

pub returns-in_ok-follow-in_default-clause-steps : goal.returns-in_ok-follow-in_default-clause-steps
returns-in_ok-follow-in_default-clause-steps c =
    makes-first _ _ _ _ _ c.in_ok-send_all.ensures.sends (begins-wider (replying-of-call _) _ _ _ c.in_ok-follow-in_default.ensures.begins)
