use Rattle.std.proofs.Common.{◌≡◌, false, take}
use Rattle.std.specs.List.{list_any}
use Rattle.mes_session_fit.specs.Launched.{launched}
use Rattle.mes_session_state.specs.Looking.{is_task}
use Rattle.mes_session_state.proofs.duplicates.groups_have.Given as goal

-- no group so far has the identifier
abbrev pub invariant-loop-group : goal.invariant-loop-group
invariant-loop-group g l = list_any (is_task l.id) (launched g.L.TaskGroup.tasks (take l.group-index l.launches)) ≡ false
