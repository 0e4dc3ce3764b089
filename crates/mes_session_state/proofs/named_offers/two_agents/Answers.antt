use Rattle.std.proofs.Common.{◌∙◌, ap, sym, not}
use Rattle.mes_session_fit.proofs.ListLemmas.{any-at}
use Rattle.mes_session_state.specs.Refusals.{is_agent, agent_of}
use Rattle.mes_session_state.proofs.LookLemmas.{any-more}
use Rattle.mes_session_state.proofs.named_offers.two_agents.Goals as goal

pub returns-then-not-are_on : goal.returns-then-not-are_on
returns-then-not-are_on c =
    sym (any-at (λ o. not (is_agent (agent_of c.args.offers.now) o.agent_id)) c.args.offers.now c.loop-index.index c.get_index.result.now c.get_index.ensures
    (ap not (sym c.are_on.ensures ∙ c.if-not-are_on.true)))

pub loop-index-preserved : goal.loop-index-preserved
loop-index-preserved c =
    any-more (λ o. not (is_agent (agent_of c.args.offers.now) o.agent_id)) c.args.offers.now c.loop-index.index c.get_index.result.now c.get_index.ensures c.loop-index.invariant
    (ap not (sym c.are_on.ensures ∙ c.if-not-are_on.false))
