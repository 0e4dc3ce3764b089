use Rattle.std.proofs.Common.{append-nil}
use Rattle.mes_stream.proofs.line_body.LineBody.consume.Goals as goal

pub returns-in-Err-clause-reports : goal.returns-in-Err-clause-reports
returns-in-Err-clause-reports g c = λ ahead b values s. rw append-nil (c.in-Err.ensures.err ahead _ b values s c.if-run-eq-LF.false)

pub returns-clause-before : goal.returns-clause-before
returns-clause-before g c = λ ahead b values s n early. c.take_part.ensures.before ahead b values (c.in_default.ensures.ok ahead b values s) n early
