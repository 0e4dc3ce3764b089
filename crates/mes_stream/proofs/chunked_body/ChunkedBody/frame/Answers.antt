use Rattle.std.proofs.Common.{append-nil, inl, refl}
use Rattle.mes_stream.proofs.BodyLemmas.{live_of}
use Rattle.mes_stream.proofs.chunked_body.ChunkedBody.frame.Goals as goal

pub returns-else-between-clause-reports : goal.returns-else-between-clause-reports
returns-else-between-clause-reports g c = λ ahead w values s none.
    rw (append-nil, c.ends_inside_record.ensures) (inl (s.content, (c.in-Closed.ensures.steps w s.content s.chunks).0, c.if-between.ensures.inside ahead s.content values s.body refl))

pub returns-in-Fault-clause-reports : goal.returns-in-Fault-clause-reports
returns-in-Fault-clause-reports g c = λ ahead w values s none.
    rw (append-nil, c.frame.ensures) (inl (inl (s.content, (c.in-Fault.ensures.steps w s.content s.chunks).0, live_of g.R.RecordReader.holds g.R.RecordReader.spells ahead c.args.self.now.body s.content values s.body)))

pub returns-then-between-clause-reports : goal.returns-then-between-clause-reports
returns-then-between-clause-reports g c = λ ahead w values s none.
    (s.content, (c.in-Closed.ensures.steps w s.content s.chunks).0, c.if-between.ensures.whole ahead s.content values s.body refl)
