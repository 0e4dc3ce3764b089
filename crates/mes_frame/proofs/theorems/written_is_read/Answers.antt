use Rattle.mes_frame.proofs.Framings.{framing_is_chunked, written_is_record}
use Rattle.mes_frame.proofs.theorems.written_is_read.Goals as goal

pub returns-clause-chunks : goal.returns-clause-chunks
returns-clause-chunks c = framing_is_chunked

pub returns-clause-records : goal.returns-clause-records
returns-clause-records c = written_is_record
