use Rattle.mesosev_live.proofs.LiveDeskLemmas.{promises_kept}
use Rattle.mesosev_live.proofs.live_master.run_live.Goals as goal

pub returns-clause-promises : goal.returns-clause-promises
returns-clause-promises g c = promises_kept _ _ _ _ c.in_ok-live.live c.serve_desk.result.desk c.in_ok-live.ensures c.serve_desk.ensures.kept
