use Rattle.std.proofs.Common.{arith}
use Rattle.mesosev_serve.proofs.WritingLemmas.{stream_written}
use Rattle.mesosev_serve.proofs.response_writer.write_stream.Goals as goal

pub returns : goal.returns
returns g c =
    stream_written c.args.most c.get.result c.args.id.now c.as_slice-2.result.now c.args.events.now (g.W.Sink.device c.args.writer.now)
    (g.W.Sink.device c.write_records.new.writer) c.write_records.result c.get.ensures.value (omega (arith, c.get.ensures.range))
    (rw (c.as_slice-2.ensures.value, ← c.in-Ok.ensures, ← c.as_slice.ensures.value) c.in_ok-records.ensures.ok) c.write_records.ensures
