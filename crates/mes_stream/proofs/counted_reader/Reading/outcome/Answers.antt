use Rattle.std.proofs.Common.{refl}
use Rattle.mes_stream.proofs.StreamLemmas.{goes_behind}
use Rattle.mes_stream.proofs.counted_reader.Reading.outcome.Goals as goal

pub returns-in-Failed-clause-means : goal.returns-in-Failed-clause-means
returns-in-Failed-clause-means g c = λ ahead. rw c.in-Failed.is (λ framing limit w values s. rw c.stop_at-in-Failed.ensures (refl, goes_behind g.R.RecordReader.holds g.R.RecordReader.spells ahead.records c.args.self.now.stream framing limit w values s.0, s.1))

pub returns-in-Spent-clause-means : goal.returns-in-Spent-clause-means
returns-in-Spent-clause-means g c = λ ahead. rw c.in-Spent.is (λ framing limit w values s. rw c.stop_at-in-Spent.ensures (refl, goes_behind g.R.RecordReader.holds g.R.RecordReader.spells ahead.records c.args.self.now.stream framing limit w values s.0, s.1))
