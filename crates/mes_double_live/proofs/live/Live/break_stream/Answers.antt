use Rattle.std.proofs.Common.{refl}
use Rattle.mes_double_live.proofs.MoveLemmas.{moved, break-moves}
use Rattle.mes_double_live.proofs.live.Live.break_stream.Goals as goal

pub returns-clause-moves : goal.returns-clause-moves
returns-clause-moves c = moved _ _ _ _ c.self.view_is refl (break-moves _ _ c.broken.ensures)
