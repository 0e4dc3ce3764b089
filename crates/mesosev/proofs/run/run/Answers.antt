use Rattle.mesosev.proofs.run.run.Goals as goal

pub returns-clause-runs : goal.returns-clause-runs
returns-clause-runs g c = (g.E.Sink.device c.run_args-ended.new.err, c.run_args-ended.result, c.run_args-ended.ensures.runs, rw c.is_closed.ensures at c.finish.ensures)

pub returns-clause-plain : goal.returns-clause-plain
returns-clause-plain g c = λ said plainly range.
    (g.E.Sink.device c.run_args-ended.new.err, c.run_args-ended.result, c.run_args-ended.ensures.plain said plainly range, rw c.is_closed.ensures at c.finish.ensures)
