use Rattle.std.proofs.Common.{◌∙◌}
use Rattle.mes_double_master.proofs.ThereLemmas.{some_named}
use Rattle.mes_double_master.proofs.master.handling.all_there.Goals as goal

pub returns : goal.returns
returns c = c.are_there.ensures ∙ some_named c.args.offers.now c.args.ids.now c.is_empty.result c.is_empty.ensures c.if-is_empty.false
