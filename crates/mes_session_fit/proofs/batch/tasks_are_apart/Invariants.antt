use Rattle.std.proofs.Common.{take}
use Rattle.mes_session_fit.specs.Fits.{asked}
use Rattle.mes_session_fit.specs.Batches.{in_ends, has_point, Apart}
use Rattle.mes_session_fit.proofs.batch.tasks_are_apart.Given as goal

-- the tasks so far have none of the points of `taken`
abbrev pub invariant-loop-task : goal.invariant-loop-task
invariant-loop-task l = Apart (λ x. in_ends x l.taken) (λ x. has_point x (asked (take l.task-index l.tasks)))
