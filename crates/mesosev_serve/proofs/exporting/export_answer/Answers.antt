use Rattle.std.proofs.Common.{refl, inl, inr}
use Rattle.mesosev_serve.proofs.exporting.export_answer.Goals as goal

pub returns-in-Ok : goal.returns-in-Ok
returns-in-Ok g c =
    let h = c.in-Ok.ensures in
    (h.0, g.R.Source.device c.read_head.new.reader, h.1, inl (c.in-Ok.field-0, h.2.0, h.2.1, c.export.ensures))

pub returns-in-Err : goal.returns-in-Err
returns-in-Err g c =
    let h = c.in-Err.ensures in
    (h.0, g.R.Source.device c.read_head.new.reader, h.1, inr (c.in-Err.fault, h.2, refl, refl, c.tell_refused.ensures.told, c.tell_refused.ensures.status))
