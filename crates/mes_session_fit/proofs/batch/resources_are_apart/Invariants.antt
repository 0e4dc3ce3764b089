use Rattle.std.proofs.Common.{take}
use Rattle.mes_session_fit.specs.Batches.{in_ends, has_point, Apart}
use Rattle.mes_session_fit.proofs.batch.resources_are_apart.Given as goal

-- the resources so far have none of the points of `taken`
abbrev pub invariant-loop-resource : goal.invariant-loop-resource
invariant-loop-resource l = Apart (λ x. in_ends x l.taken) (λ x. has_point x (take l.resource-index l.resources))
