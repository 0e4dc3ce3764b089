use Rattle.std.proofs.Common.{◌≡◌, false, take}
use Rattle.std.specs.List.{list_any}
use Rattle.mes_session_fit.specs.Keys.{key_of, is_of}
use Rattle.mes_session_fit.specs.Fits.{asked}
use Rattle.mes_session_fit.proofs.other_tasks.tasks_have_key.Given as goal

-- no task so far has the key
abbrev pub invariant-loop-task : goal.invariant-loop-task
invariant-loop-task l = list_any (is_of (key_of l.key)) (asked (take l.task-index l.tasks)) ≡ false
