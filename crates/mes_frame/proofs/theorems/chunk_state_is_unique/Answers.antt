use Rattle.mes_frame.proofs.ChunkParts.{open_of}
use Rattle.mes_frame.proofs.ChunkTotal.{no_end_of}
use Rattle.mes_frame.proofs.OneChunkReading.{one_state}
use Rattle.mes_frame.proofs.theorems.chunk_state_is_unique.Goals as goal

pub returns-clause-begun : goal.returns-clause-begun
returns-clause-begun c = open_of

pub returns-clause-one : goal.returns-clause-one
returns-clause-one c = one_state

pub returns-clause-sound : goal.returns-clause-sound
returns-clause-sound c = no_end_of
