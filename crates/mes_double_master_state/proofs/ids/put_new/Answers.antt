use Rattle.std.proofs.Common.{◌∙◌}
use Rattle.mes_double_master_state.proofs.IdLemmas.{insert_new}
use Rattle.mes_double_master_state.proofs.ids.put_new.Goals as goal

pub returns : goal.returns
returns c = c.put_ids.ensures ∙ insert_new c.args.ids.now.keys c.args.more.items c.requires.new
