use Rattle.std.proofs.Common.{arith}
use Rattle.std.proofs.lemmas.Result.{err_from_is_err_and}
use Rattle.mesosev_serve.proofs.WritingLemmas.{head_stops, chunks_stop, chunks_out}
use Rattle.mesosev_serve.proofs.response_writer.write_records.Goals as goal

pub returns-in_err-write_ok : goal.returns-in_err-write_ok
returns-in_err-write_ok g c =
    let p = err_from_is_err_and c.from_residual.result c.from_residual.ensures.1 in
    let err = c.in_err-write_ok.ensures in
    rw (p.1, p.2) (head_stops (Unit {0}) c.args.most c.args.id.now c.args.records.now (g.W.Sink.device c.args.writer.now)
    (g.W.Sink.device c.write_ok.new.writer) c.in_err-write_ok.field-0.0 (omega arith) err.err err.err_counts err.calls)

pub returns-in_err-write_chunked : goal.returns-in_err-write_chunked
returns-in_err-write_chunked g c =
    let p = err_from_is_err_and c.from_residual-in_err-write_chunked.result c.from_residual-in_err-write_chunked.ensures.1 in
    let ok = c.in_ok-write_ok.ensures in
    let err = c.in_err-write_chunked.ensures in
    rw (p.1, p.2) (chunks_stop c.args.most c.args.id.now c.args.records.now (g.W.Sink.device c.args.writer.now)
    (g.W.Sink.device c.write_ok.new.writer) (g.W.Sink.device c.write_chunked.new.writer)
    ok.ok ok.ok_counts ok.calls (Unit {0}) c.in_err-write_chunked.field-0.0 err.err err.err_counts err.calls)

pub returns : goal.returns
returns g c =
    let head = c.in_ok-write_ok.ensures in
    let ok = c.in_ok-write_chunked.ensures in
    chunks_out c.args.most c.args.id.now c.args.records.now (g.W.Sink.device c.args.writer.now)
    (g.W.Sink.device c.write_ok.new.writer) (g.W.Sink.device c.write_chunked.new.writer)
    head.ok head.ok_counts head.calls (Unit {0}) tt ok.ok ok.ok_counts ok.calls
