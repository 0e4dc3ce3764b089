use Rattle.std.proofs.Common.{◌≡◌, ℕ, List, true, take}
use Rattle.mes_session_fit.specs.Keys.{key_of}
use Rattle.mes_session_fit.specs.Fits.{in_items, has_piece, offered}
use Rattle.mes_session_fit.specs.Fits.Piece.{item}
use Rattle.mes_session_fit.proofs.unoffered_pieces.are_items_unoffered.Given as goal

-- the items so far are offered
abbrev pub invariant-loop-item : goal.invariant-loop-item
invariant-loop-item g l = (n : List ℕ) → in_items n (take l.item-index l.items) ≡ true → has_piece (key_of l.key) (item n) (offered (g.O.OfferList.offers l.offers)) ≡ true
