use Rattle.std.proofs.Common.{◌≡◌, true, false, take}
use Rattle.mes_session_fit.specs.Keys.{key_of}
use Rattle.mes_session_fit.specs.Fits.{Piece, piece_in, has_piece, asked}
use Rattle.mes_session_fit.proofs.shared_pieces.tasks_meet.Given as goal

-- none of the tasks so far takes a piece of the resource
abbrev pub invariant-loop-task : goal.invariant-loop-task
invariant-loop-task l = (p : Piece) → piece_in p l.resource.value ≡ true → has_piece (key_of l.resource) p (asked (take l.task-index l.tasks)) ≡ false
