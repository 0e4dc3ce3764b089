use Rattle.std.proofs.lemmas.Result.{err_from_is_err_and}
use Rattle.mes_frame.proofs.Chunking.{begins, some_left, none_left, splits, goes_on, chunk_stops, last_stops, flush_ends, ended_ok, ended_err, ended_calls}
use Rattle.mes_frame.proofs.chunk_writer.write_chunked.Goals as goal

pub loop-rest-init : goal.loop-rest-init
loop-rest-init g c = begins _ _ _ _ _ _ c.new-buffer.ensures.held c.new-buffer.ensures.sent

pub returns-in_err-write_piece-clause-err : goal.returns-in_err-write_piece-clause-err
returns-in_err-write_piece-clause-err g c =
    let p = err_from_is_err_and c.from_residual.result c.from_residual.ensures.1 in
    let left = some_left _ c.loop-rest-test.ensures in
    let split = splits _ _ _ _ _ c.requires.least left c.min.ensures c.split_at.ensures.front c.split_at.ensures.back in
    rw (p.1, p.2) (ended_err _ _ _ _ _ _ _ (chunk_stops _ _ _ _ _ _ _ _ _ _ _ _ _ _ c.requires.least split c.loop-rest.invariant c.in_err-write_piece.ensures.err))

pub returns-in_err-write_piece-clause-calls : goal.returns-in_err-write_piece-clause-calls
returns-in_err-write_piece-clause-calls g c =
    let left = some_left _ c.loop-rest-test.ensures in
    let split = splits _ _ _ _ _ c.requires.least left c.min.ensures c.split_at.ensures.front c.split_at.ensures.back in
    ended_calls _ _ _ _ _ (g.W.Sink.device c.write_piece.new.writer).counts _ (chunk_stops _ _ _ _ _ _ _ _ _ _ _ _ _ _ c.requires.least split c.loop-rest.invariant c.in_err-write_piece.ensures.err)

pub loop-rest-preserved : goal.loop-rest-preserved
loop-rest-preserved g c =
    let left = some_left _ c.loop-rest-test.ensures in
    let split = splits _ _ _ _ _ c.requires.least left c.min.ensures c.split_at.ensures.front c.split_at.ensures.back in
    goes_on _ _ _ _ _ _ _ _ _ _ _ _ _ _ _ split c.loop-rest.invariant c.in_ok-write_piece.ensures.ok

pub returns-in_err-hold-clause-err : goal.returns-in_err-hold-clause-err
returns-in_err-hold-clause-err g c =
    let p = err_from_is_err_and c.from_residual-in_err-hold.result c.from_residual-in_err-hold.ensures.1 in
    let none = none_left _ c.loop-rest-test.ensures in
    rw (p.1, p.2) (ended_err _ _ _ _ _ _ _ (last_stops _ _ _ _ _ _ _ _ _ _ _ _ none c.loop-rest.invariant c.in_err-hold.ensures.err))

pub returns-in_err-hold-clause-calls : goal.returns-in_err-hold-clause-calls
returns-in_err-hold-clause-calls g c =
    let none = none_left _ c.loop-rest-test.ensures in
    ended_calls _ _ _ _ _ (g.W.Sink.device c.hold.new.writer).counts _ (last_stops _ _ _ _ _ _ _ _ _ _ _ _ none c.loop-rest.invariant c.in_err-hold.ensures.err)

pub returns-clause-ok : goal.returns-clause-ok
returns-clause-ok g c =
    let none = none_left _ c.loop-rest-test.ensures in
    ended_ok _ _ _ _ (g.W.Sink.device c.args.writer.now).counts (g.W.Sink.device c.flush.new.writer).counts _ (flush_ends _ _ _ _ _ _ _ _ _ _ _ _ _ _ _ _ c.flush.result none c.loop-rest.invariant c.in_ok-hold.ensures.ok c.flush.ensures.ok c.flush.ensures.err)

pub returns-clause-err : goal.returns-clause-err
returns-clause-err g c =
    let none = none_left _ c.loop-rest-test.ensures in
    ended_err _ _ _ _ (g.W.Sink.device c.args.writer.now).counts (g.W.Sink.device c.flush.new.writer).counts _ (flush_ends _ _ _ _ _ _ _ _ _ _ _ _ _ _ _ _ c.flush.result none c.loop-rest.invariant c.in_ok-hold.ensures.ok c.flush.ensures.ok c.flush.ensures.err)

pub returns-clause-calls : goal.returns-clause-calls
returns-clause-calls g c =
    let none = none_left _ c.loop-rest-test.ensures in
    ended_calls _ _ _ _ _ (g.W.Sink.device c.flush.new.writer).counts _ (flush_ends _ _ _ _ _ _ _ _ _ _ _ _ _ _ _ _ c.flush.result none c.loop-rest.invariant c.in_ok-hold.ensures.ok c.flush.ensures.ok c.flush.ensures.err)
