use Rattle.std.proofs.Common.{◌≡◌, ℕ, ◌+◌, ◌-◌, ◌≤◌, ◌<◌, true}
use Rattle.mes_session_fit.specs.Keys.{key_of}
use Rattle.mes_session_fit.specs.Fits.{has_piece, offered}
use Rattle.mes_session_fit.specs.Fits.Piece.{point}
use Rattle.mes_session_fit.proofs.unoffered_pieces.is_range_unoffered.Given as goal

-- the points so far are offered
abbrev pub invariant-loop-at : goal.invariant-loop-at
invariant-loop-at g l = (l.range.first ≤ l.at) × ((x : ℕ) → l.range.first ≤ x → x < l.at → has_piece (key_of l.key) (point x) (offered (g.O.OfferList.offers l.offers)) ≡ true)

abbrev pub decreases-loop-at : goal.decreases-loop-at
decreases-loop-at g l = l.range.last + 1 - l.at
