use Rattle.mes_double_http.proofs.BodyLemmas.{call-whole, call-stops}
use Rattle.mes_double_http.proofs.request.read_request.Goals as goal

pub returns-in-Ok : goal.returns-in-Ok
returns-in-Ok g c =
    let head = c.in_ok-announced.ensures in
    call-whole (g.S.Source.device c.args.reader.now).bytes (g.S.Source.device c.take_announced.new.reader).bytes (g.S.Source.device c.take_body.new.reader).bytes
    (g.S.Source.device c.args.reader.now).counts (g.S.Source.device c.take_announced.new.reader).counts (g.S.Source.device c.take_body.new.reader).counts
    head.0 c.in-Ok.body.items c.in-Ok.ensures.0 head.2.0 c.in_ok-announced.announced.length c.in_ok-announced.announced.stream
    head.1 head.2.1 head.2.2 head.2.3 c.in-Ok.ensures.1 c.in-Ok.ensures.2.0 c.in-Ok.ensures.2.1 c.in-Ok.ensures.2.2

pub returns-in-Err : goal.returns-in-Err
returns-in-Err g c =
    let head = c.in_ok-announced.ensures in
    call-stops c.in-Err.fault (g.S.Source.device c.args.reader.now).bytes (g.S.Source.device c.take_announced.new.reader).bytes (g.S.Source.device c.take_body.new.reader).bytes
    (g.S.Source.device c.args.reader.now).counts (g.S.Source.device c.take_announced.new.reader).counts (g.S.Source.device c.take_body.new.reader).counts
    head.0 c.in-Err.ensures.0 head.2.0 c.in_ok-announced.announced.length c.in_ok-announced.announced.stream
    head.1 head.2.1 head.2.2 head.2.3 c.in-Err.ensures.1 c.in-Err.ensures.2
