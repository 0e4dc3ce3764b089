use Rattle.mes_stream.specs.Reading.{nothing_ahead}
use Rattle.mes_session_log.proofs.LogLemmas.{first_means, one_means, two_means}
use Rattle.mes_session_log.proofs.log_reading.Stage.outcome.Goals as goal

pub returns-in-First : goal.returns-in-First
returns-in-First c = rw c.in-First.is (first_means c.in-First.reading c.args.end c.outcome.result (c.outcome.ensures.means nothing_ahead))

pub returns-in-One : goal.returns-in-One
returns-in-One c = rw c.in-One.is (one_means c.in-One.reading c.args.end c.outcome-in-One.result c.outcome-in-One.ensures.means)

pub returns-in-Two : goal.returns-in-Two
returns-in-Two c = rw c.in-Two.is (two_means c.in-Two.reading c.args.end c.outcome-in-Two.result c.outcome-in-Two.ensures.means)
