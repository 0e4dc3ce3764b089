use Rattle.std.proofs.Common.{refl}
use Rattle.mes_double_live.proofs.MoveLemmas.{moved, moves-same, update-moves}
use Rattle.mes_double_live.proofs.live.Live.record.Goals as goal
use Rattle.mes_double_live.proofs.live.Live.record.Goals.{in-Ok, in-Err-NoMemory, in-Err}

pub returns-clause-moves : goal.returns-clause-moves
returns-clause-moves c = elim c.match-note_update.branch [
  | in-Ok w ↦ moved _ _ _ _ c.self.view_is refl (update-moves _ _ _ _ w.in-Ok.ensures.ok)
  | in-Err-NoMemory w ↦ moved _ _ _ _ c.self.view_is refl (moves-same _ _ w.in-Err-NoMemory.ensures.err.0)
  | in-Err w ↦ moved _ _ _ _ c.self.view_is refl (moves-same _ _ w.in-Err.ensures.err.0)
]
