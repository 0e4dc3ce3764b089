use Rattle.mes_session_log.proofs.LogLemmas.{one_takes, two_takes}
use Rattle.mes_session_log.proofs.log_reading.Stage.feed.Goals as goal

pub returns-in-One : goal.returns-in-One
returns-in-One c = λ limit w before h.
    rw c.of_log.ensures (one_takes c.in-One.reading c.feed.new.self limit w c.args.piece.now before c.args.entries.now.items c.feed.new.values.items c.feed.result c.feed.ensures.takes (rw c.in-One.is at h))

pub returns-in-Two : goal.returns-in-Two
returns-in-Two c = λ limit w before h.
    rw c.of_log-in-Two.ensures (two_takes c.in-Two.reading c.feed-in-Two.new.self limit w c.args.piece.now before c.args.entries.now.items c.feed-in-Two.new.values.items c.feed-in-Two.result c.feed-in-Two.ensures.takes (rw c.in-Two.is at h))
