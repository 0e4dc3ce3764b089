use Rattle.std.proofs.Common.{◌≡◌, false, take}
use Rattle.std.specs.List.{list_any}
use Rattle.mes_session_fit.specs.Launched.{launched, place, as_index}
use Rattle.mes_session_state.specs.Refusals.{is_elsewhere}
use Rattle.mes_session_state.proofs.named_offers.on_other_agent.Given as goal

-- `before` counts the tasks of the groups so far, and these tasks are on the agent of the first
-- offer
abbrev pub invariant-loop-at : goal.invariant-loop-at
invariant-loop-at g l = record {
  counted : l.before ≡ as_index (place g.L.TaskGroup.tasks l.launches l.at 0);
  none : list_any (is_elsewhere l.offers) (launched g.L.TaskGroup.tasks (take l.at l.launches)) ≡ false;
}
