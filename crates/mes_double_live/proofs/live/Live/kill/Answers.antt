use Rattle.std.proofs.lemmas.Result.{on_ok_weaker}
use Rattle.mes_double_live.proofs.OpenLemmas.{makes-begins}
use Rattle.mes_double_live.proofs.live.Live.kill.Goals as goal

pub returns-clause-begins : goal.returns-clause-begins
returns-clause-begins c = on_ok_weaker _ (makes-begins _ _ _ _ c.kill_task-is_known.ensures.killed) c.send_unknown.ensures.steps
