use Rattle.std.proofs.Common.{◌∙◌, sym}
use Rattle.mesosev_net.proofs.LoopLemmas.{answered, unanswered}
use Rattle.mesosev_net.proofs.both_ends.answer.Goals as goal

pub returns-then-is_whole : goal.returns-then-is_whole
returns-then-is_whole g c =
    answered _ _ _ _ _ _ _ _ _ _ _ c.serve_one-served.result _ _ _ c.in-Ok.ensures (sym c.is_whole.ensures ∙ c.if-is_whole.true) c.serve_one-served.ensures c.show.ensures

pub returns : goal.returns
returns g c =
    unanswered _ _ _ _ _ _ _ _ _ _ _ c.serve_one-served.result _ _ _ c.in-Ok.ensures (sym c.is_whole.ensures ∙ c.if-is_whole.false) c.serve_one-served.ensures c.report_unanswered.ensures
