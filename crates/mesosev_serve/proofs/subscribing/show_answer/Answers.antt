use Rattle.std.proofs.Common.{refl, inl, inr}
use Rattle.mesosev_serve.proofs.subscribing.show_answer.Goals as goal

pub returns-in-Ok : goal.returns-in-Ok
returns-in-Ok g c =
    let h = c.in-Ok.ensures in
    (h.0, g.R.Source.device c.read_head.new.reader, h.1, inl (c.in-Ok.field-0, h.2.0, h.2.1, c.show_stream.ensures))

pub returns-in-Err : goal.returns-in-Err
returns-in-Err g c =
    let h = c.in-Err.ensures in
    (h.0, g.R.Source.device c.read_head.new.reader, h.1, inr (c.in-Err.fault, h.2, refl, c.report_refused.ensures))
