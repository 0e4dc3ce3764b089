use Rattle.std.proofs.Common.{◌≡◌, ◌++◌, false, take}
use Rattle.mes_session_fit.specs.Launched.{launched}
use Rattle.mes_session_state.specs.Refusals.{is_duplicated, ids_of}
use Rattle.mes_session_state.proofs.duplicates.is_repeated.Given as goal

-- the groups and the tasks so far have no duplicate identifier
abbrev pub invariant-loop-index : goal.invariant-loop-index
invariant-loop-index g l = is_duplicated (ids_of (launched g.L.TaskGroup.tasks l.launches ++ take l.index l.tasks)) ≡ false
