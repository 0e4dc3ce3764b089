use Rattle.std.proofs.Common.{◌≡◌, false, take}
use Rattle.std.specs.List.{list_any}
use Rattle.mes_session_state.specs.Refusals.{is_elsewhere}
use Rattle.mes_session_state.proofs.named_offers.task_on_other_agent.Given as goal

-- the tasks so far are on the agent of the first offer
abbrev pub invariant-loop-index : goal.invariant-loop-index
invariant-loop-index l = list_any (is_elsewhere l.offers) (take l.index l.tasks) ≡ false
