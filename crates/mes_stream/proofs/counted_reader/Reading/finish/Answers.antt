use Rattle.mes_stream.specs.RecordValues.{IsRefused}
use Rattle.mes_stream.proofs.ReadingLemmas.{finish_other}
use Rattle.mes_stream.proofs.counted_reader.Reading.finish.Goals as goal

pub returns-in_default : goal.returns-in_default
returns-in_default g c = record {
  means = finish_other g.R.RecordReader.holds g.R.RecordReader.spells (IsRefused g.R.RecordReader.spells g.R.RecordReader.breaks) c.args.self.now c.args.end c.args.values.now.items c.outcome.result c.in_default.not-AtEnd c.outcome.ensures.means;
  used = c.outcome.ensures.used;
  kept = c.outcome.ensures.kept;
}
