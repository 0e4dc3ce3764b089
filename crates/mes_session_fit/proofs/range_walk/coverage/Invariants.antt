use Rattle.std.proofs.Common.{take}
use Rattle.mes_session_fit.specs.Keys.{key_of}
use Rattle.mes_session_fit.specs.Fits.{has_piece, offered}
use Rattle.mes_session_fit.specs.Fits.Piece.{point}
use Rattle.mes_session_fit.specs.Looking.{Reaches}
use Rattle.mes_session_fit.proofs.range_walk.coverage.Given as goal

-- `reach` is the largest end of the ranges, in the offers so far, that contain `at`
abbrev pub invariant-loop-index : goal.invariant-loop-index
invariant-loop-index g l = Reaches (λ x. has_piece (key_of l.key) (point x) (offered (take l.index (g.O.OfferList.offers l.offers)))) l.at l.reach
