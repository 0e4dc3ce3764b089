use Rattle.std.proofs.Common.{rules}
use Rattle.mes_double_http.proofs.BodyLemmas.{body-stops}
use Rattle.mes_double_http.proofs.body.take_body.Goals as goal

pub returns-in-Err : goal.returns-in-Err
returns-in-Err g c =
    body-stops c.in-Err.fault (g.S.Source.device c.args.reader.now).bytes (g.S.Source.device c.loop-body.reader).bytes (g.S.Source.device c.take_part.new.reader).bytes
    (g.S.Source.device c.args.reader.now).counts (g.S.Source.device c.loop-body.reader).counts (g.S.Source.device c.take_part.new.reader).counts
    c.loop-body.body.items c.in-Err.ensures.0 c.args.size _ (search rules) (search rules) c.loop-body.invariant c.in-Err.ensures.1 c.in-Err.ensures.2
