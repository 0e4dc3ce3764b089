use Rattle.std.proofs.Common.{◌≡◌, ℕ, true, take}
use Rattle.mes_session_fit.specs.Keys.{key_of}
use Rattle.mes_session_fit.specs.Fits.{in_ranges, has_piece, offered}
use Rattle.mes_session_fit.specs.Fits.Piece.{point}
use Rattle.mes_session_fit.proofs.unoffered_pieces.are_ranges_unoffered.Given as goal

-- the points of the ranges so far are offered
abbrev pub invariant-loop-index : goal.invariant-loop-index
invariant-loop-index g l = (x : ℕ) → in_ranges x (take l.index l.ranges) ≡ true → has_piece (key_of l.key) (point x) (offered (g.O.OfferList.offers l.offers)) ≡ true
