use Rattle.mes_stream.proofs.PlainLaw.{one_plain}
use Rattle.mes_stream.proofs.SomeReading.{some_plain}
use Rattle.mes_stream.proofs.theorems.plain_reading_is_unique.Goals as goal

pub returns-clause-some : goal.returns-clause-some
returns-clause-some g c = λ decided ahead limit w. some_plain g.R.RecordReader.spells g.R.RecordReader.breaks decided ahead limit w

pub returns-clause-one : goal.returns-clause-one
returns-clause-one g c = λ exact ahead limit w reading other reads too. one_plain g.R.RecordReader.spells g.R.RecordReader.breaks exact ahead limit w reading other reads too
