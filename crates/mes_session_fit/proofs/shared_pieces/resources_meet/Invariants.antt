use Rattle.std.proofs.Common.{◌≡◌, true, false, take}
use Rattle.mes_session_fit.specs.Keys.{key_of}
use Rattle.mes_session_fit.specs.Fits.{Piece, piece_in, has_piece}
use Rattle.mes_session_fit.proofs.shared_pieces.resources_meet.Given as goal

-- none of the other resources so far has a piece of the resource
abbrev pub invariant-loop-other : goal.invariant-loop-other
invariant-loop-other l = (p : Piece) → piece_in p l.resource.value ≡ true → has_piece (key_of l.resource) p (take l.other-index l.others) ≡ false
