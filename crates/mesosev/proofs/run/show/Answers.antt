use Rattle.std.proofs.Common.{refl}
use Rattle.mesosev.proofs.run.show.Goals as goal

pub returns-then-json : goal.returns-then-json
returns-then-json g c = rw c.if-json.true c.export_all.ensures

pub returns-else-json : goal.returns-else-json
returns-else-json g c = rw c.if-json.false (c.follow_all.ensures, refl)
