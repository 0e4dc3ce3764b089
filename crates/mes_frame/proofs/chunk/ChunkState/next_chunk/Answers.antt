use Rattle.mes_frame.proofs.ChunkFraming.{framing_first}
use Rattle.mes_frame.proofs.chunk.ChunkState.next_chunk.Goals as goal

pub returns-in_default-clause-passes : goal.returns-in_default-clause-passes
returns-in_default-clause-passes c = λ w body represents. framing_first c.args.self.now w body c.args.piece.now represents
