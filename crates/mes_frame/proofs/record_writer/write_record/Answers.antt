use Rattle.std.proofs.Common.{[], ◌∷◌, append_assoc, decimal, length}
use Rattle.std.proofs.lemmas.Result.{err_from_is_err_and}
use Rattle.mes_frame.proofs.Parts.{part_out, stops_behind, front_of}
use Rattle.mes_frame.proofs.record_writer.write_record.Goals as goal

pub returns-in_err-write_part-clause-err : goal.returns-in_err-write_part-clause-err
returns-in_err-write_part-clause-err g c =
    let p = err_from_is_err_and c.from_residual-in_err-write_part.result c.from_residual-in_err-write_part.ensures.1 in
    let line = c.in_ok-sent.ensures in
    let payload = c.args.payload.now in
    let whole = append_assoc (decimal (length payload)) (10 ∷ []) payload in
    let front = stops_behind _ _ _ _ _ _ _ 0 _ _ (part_out _ _ _ _ _ 0 _ line.ok line.ok_counts line.ok_sent line.calls) c.in_err-write_part.ensures.err in
    rw (p.1, p.2, ← whole) (front_of _ _ _ _ (rw c.record_line-line.ensures at front))
