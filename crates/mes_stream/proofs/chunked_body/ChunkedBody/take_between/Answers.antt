use Rattle.std.proofs.Common.{arith}
use Rattle.mes_stream.proofs.chunked_body.ChunkedBody.take_between.Goals as goal

pub returns-clause-before : goal.returns-clause-before
returns-clause-before g c = λ ahead w values s.
    let same = c.take_short-taken.ensures.none (omega (arith, c.if-taken-gt0.false)) in
    c.take_framing.ensures.before ahead w values (rw same s)
