use Rattle.mes_session_log.proofs.LogLemmas.{log_through}
use Rattle.mes_session_log.proofs.read.read_log.Goals as goal

pub returns : goal.returns
returns g c =
    let h = c.read_device-end.ensures in
    let through = log_through c.new-reading.result c.read_device-end.new.consumer c.args.entries.now.items c.read_device-end.new.to.items c.args.limit c.args.max_reads
    (g.S.Source.device c.args.reader.now).counts (g.S.Source.device c.read_device-end.new.source).counts (g.S.Source.device c.read_device-end.new.source).bytes h.0 c.read_device-end.result c.outcome.result
    c.new-reading.ensures h.2 c.outcome.ensures in
    (h.0, through.0, h.1, through.1, through.2)
