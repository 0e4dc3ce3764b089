use Rattle.std.proofs.Common.{take}
use Rattle.mes_session_fit.specs.Keys.{key_of}
use Rattle.mes_session_fit.specs.Fits.{has_piece}
use Rattle.mes_session_fit.specs.Fits.Piece.{point}
use Rattle.mes_session_fit.specs.Looking.{Reaches}
use Rattle.mes_session_fit.proofs.range_walk.resource_reach.Given as goal

-- `reach` is the largest end of the ranges, in the resources so far, that contain `at`
abbrev pub invariant-loop-resource : goal.invariant-loop-resource
invariant-loop-resource l = Reaches (λ x. has_piece (key_of l.key) (point x) (take l.resource-index l.resources)) l.at l.reach
