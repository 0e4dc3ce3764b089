use Rattle.std.proofs.Common.{◌≡◌, false, take}
use Rattle.std.specs.List.{list_any}
use Rattle.mes_session_fit.specs.Keys.{key_of, is_of}
use Rattle.mes_session_fit.specs.Fits.{asked}
use Rattle.mes_session_fit.specs.Launched.{launched}
use Rattle.mes_session_fit.proofs.other_tasks.groups_have_key.Given as goal

-- no group so far has the key
abbrev pub invariant-loop-group : goal.invariant-loop-group
invariant-loop-group g l = list_any (is_of (key_of l.key)) (asked (launched g.L.TaskGroup.tasks (take l.group-index l.launches))) ≡ false
