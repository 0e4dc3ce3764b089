use Rattle.std.proofs.Common.{take}
use Rattle.mes_session_fit.specs.Fits.{asked}
use Rattle.mes_session_fit.specs.Launched.{launched}
use Rattle.mes_session_fit.specs.Batches.{in_ends, has_point, Apart}
use Rattle.mes_session_fit.proofs.batch.groups_are_apart.Given as goal

-- the groups so far have none of the points of `taken`
abbrev pub invariant-loop-group : goal.invariant-loop-group
invariant-loop-group g l = Apart (λ x. in_ends x l.taken) (λ x. has_point x (asked (launched g.L.TaskGroup.tasks (take l.group-index l.launches))))
