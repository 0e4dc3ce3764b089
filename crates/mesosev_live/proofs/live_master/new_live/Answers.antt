use Rattle.std.proofs.Common.{◌∙◌}
use Rattle.mesosev_live.proofs.LiveDeskLemmas.{started_is}
use Rattle.mesosev_live.proofs.live_master.new_live.Goals as goal

pub returns : goal.returns
returns c =
    started_is _ _ _ _ _ _ _ _ _ _ _ _ _ c.new.ensures c.with_interval-master.ensures c.in_ok-plan.ensures c.in_ok-framework.ensures c.in_ok-ids.ensures c.from_u128.ensures
    c.interval_of.ensures (c.get.ensures.value ∙ c.chunk_of-most.ensures) c.finish_time.ensures
