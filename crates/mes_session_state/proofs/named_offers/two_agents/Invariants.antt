use Rattle.std.proofs.Common.{◌≡◌, false, not, take}
use Rattle.std.specs.List.{list_any}
use Rattle.mes_session_state.specs.Refusals.{is_agent, agent_of}
use Rattle.mes_session_state.proofs.named_offers.two_agents.Given as goal

-- the offers so far are on the agent of the first offer
abbrev pub invariant-loop-index : goal.invariant-loop-index
invariant-loop-index l = list_any (λ o. not (is_agent (agent_of l.offers) o.agent_id)) (take l.index l.offers) ≡ false
