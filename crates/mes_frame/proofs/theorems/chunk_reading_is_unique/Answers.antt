use Rattle.mes_frame.proofs.ChunkTotal.{some_reading}
use Rattle.mes_frame.proofs.OneChunkReading.{one_reading}
use Rattle.mes_frame.proofs.theorems.chunk_reading_is_unique.Goals as goal

pub returns-clause-some : goal.returns-clause-some
returns-clause-some c = some_reading

pub returns-clause-one : goal.returns-clause-one
returns-clause-one c = one_reading
