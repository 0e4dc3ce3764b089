use Rattle.mes_double_live.proofs.OpenLemmas.{replaces}
use Rattle.mes_double_live.proofs.live.Live.fail_over.Goals as goal

pub returns-clause-ends : goal.returns-clause-ends
returns-clause-ends c = replaces _ _ _ _ _ _ c.in-Some.is c.in_ok-message.ensures.ok c.in_ok-push.ensures.pushed c.in_ok-end_stream.ensures.ends
