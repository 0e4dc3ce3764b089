use Rattle.mes_stream.proofs.StreamLaw.{same_chunking, same_front, alike_whole, alike_front}
use Rattle.mes_stream.proofs.theorems.chunking_is_irrelevant.Goals as goal

pub returns-clause-stream : goal.returns-clause-stream
returns-clause-stream g c = λ limit w v body values. same_chunking g.R.RecordReader.spells limit w v body values

pub returns-clause-live : goal.returns-clause-live
returns-clause-live g c = λ limit w v body values. same_front g.R.RecordReader.spells limit w v body values

pub returns-clause-whole : goal.returns-clause-whole
returns-clause-whole g c = λ exact ahead limit. alike_whole g.R.RecordReader.spells g.R.RecordReader.breaks exact ahead limit

pub returns-clause-front : goal.returns-clause-front
returns-clause-front g c = λ exact ahead limit. alike_front g.R.RecordReader.spells g.R.RecordReader.breaks exact ahead limit
