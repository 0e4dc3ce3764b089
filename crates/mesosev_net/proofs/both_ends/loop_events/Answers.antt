use Rattle.std.proofs.Common.{refl}
use Rattle.mesosev_net.proofs.LoopLemmas.{sent_some, stopped_some}
use Rattle.mesosev_net.proofs.both_ends.loop_events.Goals as goal

pub returns-in-Ok-send_subscribe : goal.returns-in-Ok-send_subscribe
returns-in-Ok-send_subscribe g c =
    sent_some _ _ _ _ _ _ _ _ _ _ c.in-Ok-framework_info.ensures refl c.in-Ok-send_subscribe.ensures c.answer.ensures

pub returns : goal.returns
returns g c = stopped_some _ _ _ _ _ _ _ _ _ _ _ c.in-Ok-framework_info.ensures refl c.in-Err-send_subscribe.ensures c.report_unsent.ensures
