use Rattle.std.proofs.Common.{◌≡◌, true, false, take}
use Rattle.mes_session_fit.specs.Keys.{key_of}
use Rattle.mes_session_fit.specs.Fits.{Piece, piece_in, has_piece, asked}
use Rattle.mes_session_fit.specs.Launched.{launched}
use Rattle.mes_session_fit.proofs.shared_pieces.groups_meet.Given as goal

-- none of the groups so far takes a piece of the resource
abbrev pub invariant-loop-group : goal.invariant-loop-group
invariant-loop-group g l = (p : Piece) → piece_in p l.resource.value ≡ true → has_piece (key_of l.resource) p (asked (launched g.L.TaskGroup.tasks (take l.group-index l.launches))) ≡ false
