use Rattle.mes_double_live.proofs.MoveLemmas.{moved, same-master, moves-same, rescind-moves}
use Rattle.mes_double_live.proofs.live.Live.note_rescind.Goals as goal
use Rattle.mes_double_live.proofs.live.Live.note_rescind.Goals.{in-Ok, in-Err-NoMemory, in-Err}

pub returns-clause-moves : goal.returns-clause-moves
returns-clause-moves c = elim c.match-rescind.branch [
  | in-Ok w ↦ moved _ _ _ _ c.self.view_is (same-master _ _ w.self-is) (rescind-moves _ _ _ _ w.in-Ok.ensures.ok)
  | in-Err-NoMemory w ↦ moved _ _ _ _ c.self.view_is (same-master _ _ w.self-is) (moves-same _ _ w.in-Err-NoMemory.ensures.err.0)
  | in-Err w ↦ moved _ _ _ _ c.self.view_is (same-master _ _ w.self-is) (moves-same _ _ w.in-Err.ensures.err.0)
]
