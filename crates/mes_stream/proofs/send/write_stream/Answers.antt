use Rattle.std.proofs.Common.{arith}
use Rattle.std.proofs.lemmas.Result.{err_from_is_err_and}
use Rattle.mes_stream.proofs.SendLemmas.{stream_out, stream_stops}
use Rattle.mes_stream.proofs.send.write_stream.Goals as goal

pub returns-in_err-write_chunked-clause-err : goal.returns-in_err-write_chunked-clause-err
returns-in_err-write_chunked-clause-err g c =
    let p = err_from_is_err_and c.from_residual-in_err-write_chunked.result c.from_residual-in_err-write_chunked.ensures.1 in
    let err = c.in_err-write_chunked.ensures in
    rw (p.1, p.2) (stream_stops g.M.Part.kind g.W.Sink.device c.args.limit c.args.messages.now c.args.most c.as_slice.result.now c.args.writer.now c.write_chunked.new.writer
    c.in_err-write_chunked.field-0.0 (omega arith) (rw c.as_slice.ensures.value c.in_ok-body.ensures.ok) err.err err.err_counts err.calls)

pub returns-clause-ok : goal.returns-clause-ok
returns-clause-ok g c =
    let ok = c.in_ok-write_chunked.ensures in
    stream_out g.M.Part.kind g.W.Sink.device c.args.limit c.args.messages.now c.args.most c.as_slice.result.now c.args.writer.now c.write_chunked.new.writer
    (omega arith) (rw c.as_slice.ensures.value c.in_ok-body.ensures.ok) ok.ok ok.ok_counts ok.calls
