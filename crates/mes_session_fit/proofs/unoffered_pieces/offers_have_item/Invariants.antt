use Rattle.std.proofs.Common.{◌≡◌, false, take}
use Rattle.mes_session_fit.specs.Keys.{key_of}
use Rattle.mes_session_fit.specs.Fits.{has_piece, offered}
use Rattle.mes_session_fit.specs.Fits.Piece.{item as item_piece}
use Rattle.mes_session_fit.proofs.unoffered_pieces.offers_have_item.Given as goal

-- no offer so far has the item
abbrev pub invariant-loop-index : goal.invariant-loop-index
invariant-loop-index g l = has_piece (key_of l.key) (item_piece l.item) (offered (take l.index (g.O.OfferList.offers l.offers))) ≡ false
