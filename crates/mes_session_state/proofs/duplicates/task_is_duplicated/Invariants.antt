use Rattle.std.proofs.Common.{◌≡◌, false, take}
use Rattle.mes_session_fit.specs.Launched.{launched}
use Rattle.mes_session_state.specs.Refusals.{is_duplicated, ids_of}
use Rattle.mes_session_state.proofs.duplicates.task_is_duplicated.Given as goal

-- the groups so far have no duplicate identifier
abbrev pub invariant-loop-at : goal.invariant-loop-at
invariant-loop-at g l = is_duplicated (ids_of (launched g.L.TaskGroup.tasks (take l.at l.launches))) ≡ false
