use Rattle.std.proofs.Common.{refl}
use Rattle.mesosev_c.proofs.whole.end_all.Goals as goal

pub returns-in-Ok : goal.returns-in-Ok
returns-in-Ok c = λ framing limit w events s. (c.in-Ok.ensures 0 framing limit w events s, refl)
