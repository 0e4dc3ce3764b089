use Rattle.mes_stream.specs.RecordValues.{IsRefused}
use Rattle.mes_stream.proofs.ReadingLemmas.{gathers_more, gathers_last}
use Rattle.mes_stream.proofs.counted_reader.ReadingConsumerVecValue.consume.Goals as goal

pub returns-clause-more : goal.returns-clause-more
returns-clause-more g c = λ first start w h. gathers_more g.R.RecordReader.holds g.R.RecordReader.spells (IsRefused g.R.RecordReader.spells g.R.RecordReader.breaks) first c.args.self.now c.feed.new.self start.items c.args.values.now.items c.feed.new.values.items w c.args.piece.now c.feed.result h c.feed.ensures.takes

pub returns-clause-stop : goal.returns-clause-stop
returns-clause-stop g c = λ first start w h. gathers_last g.R.RecordReader.holds g.R.RecordReader.spells (IsRefused g.R.RecordReader.spells g.R.RecordReader.breaks) g.R.RecordReader.kept first c.args.self.now c.feed.new.self start.items c.args.values.now.items c.feed.new.values.items w c.args.piece.now c.feed.result h c.feed.ensures.takes c.feed.ensures.kept
