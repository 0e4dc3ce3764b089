use Rattle.mes_frame.specs.ChunkState.{ChunkRepresents}
use Rattle.mes_frame.proofs.ChunkParts.{lift}
use Rattle.mes_frame.proofs.chunk.ChunkState.step.Goals as goal

pub returns-clause-steps : goal.returns-clause-steps
unfolding ChunkRepresents
returns-clause-steps c = λ w body represents. lift _ _ w body _ _ represents (c.after-phase.ensures.steps _ _ represents.is)
