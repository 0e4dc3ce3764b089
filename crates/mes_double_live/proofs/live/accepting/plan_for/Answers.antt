use Rattle.mes_double_live.proofs.LaunchLemmas.{apart-all, apart-fits}
use Rattle.mes_double_live.proofs.live.accepting.plan_for.Goals as goal

pub returns-else-are_of_one_agent-clause-fits : goal.returns-else-are_of_one_agent-clause-fits
returns-else-are_of_one_agent-clause-fits c = apart-fits _ _ _ c.requires

pub returns-else-are_of_one_agent-clause-whole : goal.returns-else-are_of_one_agent-clause-whole
returns-else-are_of_one_agent-clause-whole c = apart-all _ _ _ _ c.requires (c.are_of_one_agent.ensures c.if-are_of_one_agent.false)
