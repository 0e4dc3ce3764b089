use Rattle.std.proofs.Common.{subst}
use Rattle.mes_fixed.specs.Number.{IsNumber}
use Rattle.mes_json.proofs.NumberLemmas.{number_had}
use Rattle.mes_json.proofs.number_text.NumText.as_str.Goals as goal

pub returns-clause-number : goal.returns-clause-number
returns-clause-number c = subst IsNumber c.self.view_is (number_had _ c.self.invariant)
