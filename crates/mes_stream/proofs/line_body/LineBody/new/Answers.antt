use Rattle.mes_stream.proofs.LineLemmas.{line_new}
use Rattle.mes_stream.proofs.line_body.LineBody.new.Goals as goal

pub returns-clause-represents : goal.returns-clause-represents
returns-clause-represents g c = λ ahead s. line_new g.R.RecordReader.holds g.R.RecordReader.spells ahead c.args.limit c.args.body c.requires s
