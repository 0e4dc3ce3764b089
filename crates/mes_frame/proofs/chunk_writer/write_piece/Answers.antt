use Rattle.std.proofs.lemmas.Result.{err_from_is_err_and}
use Rattle.mes_frame.proofs.Parts.{passes_with, passes_then, stops_then, stops_long}
use Rattle.mes_frame.proofs.Pieces.{piece_behind, piece_ends, piece_stops}
use Rattle.mes_frame.proofs.chunk_writer.write_piece.Goals as goal

pub returns-in_err-hold-clause-err : goal.returns-in_err-hold-clause-err
returns-in_err-hold-clause-err g c =
    let p = err_from_is_err_and c.from_residual.result c.from_residual.ensures.1 in
    rw (p.1, p.2, ← piece_behind _ _ c.args.piece.now c.chunk_line-line.ensures) (stops_long _ _ _ _ _ _ _ _ (stops_long _ _ _ _ _ _ _ _ c.in_err-hold.ensures.err))

pub returns-in_err-hold-2-clause-err : goal.returns-in_err-hold-2-clause-err
returns-in_err-hold-2-clause-err g c =
    let p = err_from_is_err_and c.from_residual-in_err-hold-2.result c.from_residual-in_err-hold-2.ensures.1 in
    let line = passes_with _ _ _ _ _ _ c.args.piece.now _ _ c.in_ok-hold.ensures.ok in
    rw (p.1, p.2, ← piece_behind _ _ c.args.piece.now c.chunk_line-line.ensures) (stops_long _ _ _ _ _ _ _ _ (stops_then _ _ _ _ _ _ _ _ _ _ _ line c.in_err-hold-2.ensures.err))

pub returns-clause-ok : goal.returns-clause-ok
returns-clause-ok g c =
    let line = passes_with _ _ _ _ _ _ c.args.piece.now _ _ c.in_ok-hold.ensures.ok in
    let piece = passes_then _ _ _ _ _ _ _ _ _ _ _ _ line c.in_ok-hold-2.ensures.ok in
    piece_ends c.hold-3.result _ _ _ _ _ _ _ _ _ _ _ _ _ _ c.chunk_line-line.ensures piece c.hold-3.ensures.ok

pub returns-clause-err : goal.returns-clause-err
returns-clause-err g c =
    let line = passes_with _ _ _ _ _ _ c.args.piece.now _ _ c.in_ok-hold.ensures.ok in
    let piece = passes_then _ _ _ _ _ _ _ _ _ _ _ _ line c.in_ok-hold-2.ensures.ok in
    piece_stops c.hold-3.result _ _ _ _ _ _ _ _ _ _ _ _ c.chunk_line-line.ensures piece c.hold-3.ensures.err
