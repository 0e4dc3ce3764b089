use Rattle.mes_stream.proofs.LinesLaw.{one_lines}
use Rattle.mes_stream.proofs.LinesSome.{some_lines}
use Rattle.mes_stream.proofs.theorems.line_reading_is_unique.Goals as goal

pub returns-clause-some : goal.returns-clause-some
returns-clause-some g c = λ decided ahead limit w. some_lines g.R.RecordReader.spells g.R.RecordReader.breaks decided ahead limit w

pub returns-clause-one : goal.returns-clause-one
returns-clause-one g c = λ exact ahead limit w reading other reads too. one_lines g.R.RecordReader.spells g.R.RecordReader.breaks exact ahead limit w reading other reads too
