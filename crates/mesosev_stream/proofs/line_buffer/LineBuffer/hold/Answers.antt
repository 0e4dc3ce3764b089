use Rattle.std.proofs.Common.{◌≡◌, [], ◌∙◌}
use Rattle.std.proofs.lemmas.Result.{err_from_is_err_and}
use Rattle.mes_frame.proofs.Parts.{none_held, both_out, out_stops, part_out, part_stops}
use Rattle.mesosev_stream.proofs.line_buffer.LineBuffer.hold.Goals as goal

pub returns-in_err-self-clause-err : goal.returns-in_err-self-clause-err
returns-in_err-self-clause-err g c =
    let p = err_from_is_err_and c.from_residual-in_err-self.result c.from_residual-in_err-self.ensures.1 in
    let left = c.append.ensures.left c.if-append.false in
    let stop = c.in_err-self.ensures in
    rw (p.1, p.2, ← left, ← c.append.ensures.sent)
    (out_stops _ _ _ _ _ _ _ _ _ _ _ c.in_ok-flush.ensures.ok (rw c.append-2.ensures.sent at (part_stops _ _ _ _ _ _ _ stop.err stop.err_counts stop.calls)))

pub returns-in_ok-self-clause-ok : goal.returns-in_ok-self-clause-ok
returns-in_ok-self-clause-ok g c =
    let out = c.in_ok-self.ensures in
    let left = c.append.ensures.left c.if-append.false in
    let none : c.append-2.new.self.held.items ≡ [] = c.append-2.ensures.left c.if-not-append.true ∙ c.in_ok-flush.ensures.ok_held in
    rw (← left, ← c.append.ensures.sent)
    (none_held _ _ _ _ _ _ _ _ none (both_out _ _ _ _ _ _ _ _ _ _ _ c.in_ok-flush.ensures.ok (rw c.append-2.ensures.sent at (part_out _ _ _ _ _ _ _ out.ok out.ok_counts out.ok_sent out.calls))))
