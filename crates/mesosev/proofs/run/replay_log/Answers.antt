use Rattle.std.proofs.Common.{refl}
use Rattle.mesosev.proofs.run.replay_log.Goals as goal

pub returns-then-json : goal.returns-then-json
returns-then-json g c = rw c.if-json.true c.replay_json.ensures

pub returns-else-json : goal.returns-else-json
returns-else-json g c = rw c.if-json.false (c.replay.ensures, refl)
