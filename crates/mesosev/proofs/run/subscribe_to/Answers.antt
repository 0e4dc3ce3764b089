use Rattle.std.proofs.Common.{refl}
use Rattle.mesosev.proofs.run.subscribe_to.Goals as goal

pub returns-then-json : goal.returns-then-json
returns-then-json g c = λ input. rw c.if-json.true (c.subscribe_json.ensures, refl)

pub returns-else-json : goal.returns-else-json
returns-else-json g c = λ input. rw c.if-json.false (c.subscribe.ensures, refl, refl)
