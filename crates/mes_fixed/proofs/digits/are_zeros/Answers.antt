use Rattle.std.proofs.Common.{IsTrue, ◌↔◌, rules}
use Rattle.mes_fixed.proofs.DigitValues.{EachNought, noughts_iff}
use Rattle.mes_fixed.proofs.digits.are_zeros.Goals as goal

pub returns : goal.returns
returns c =
    let each : IsTrue c.all.result ↔ EachNought c.args.digits.now = search rules in
    noughts_iff c.all.result c.args.digits.now c.requires each
