use Rattle.std.proofs.lemmas.Result.{on_ok_weaker}
use Rattle.mes_double_live.proofs.WaitLemmas.{sent-delivers}
use Rattle.mes_double_live.proofs.live.Live.send.Goals as goal

pub returns-clause-delivers : goal.returns-clause-delivers
returns-clause-delivers c = on_ok_weaker _ (sent-delivers _ _ _ _ (c.obeys.ensures.ignored c.if-obeys.false)) c.push.ensures.pushed
