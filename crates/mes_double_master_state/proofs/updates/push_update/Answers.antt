use Rattle.std.proofs.Common.{◌∙◌}
use Rattle.indexmap.proofs.CallerLemmas.{insert_entry-new}
use Rattle.mes_session_state.specs.Held.{same_key}
use Rattle.mes_double_master_state.proofs.UpdateLemmas.{not_there}
use Rattle.mes_double_master_state.proofs.updates.push_update.Goals as goal

pub returns : goal.returns
returns c =
    c.put_entry.ensures
    ∙ insert_entry-new same_key c.args.owing.now c.args.key c.args.status (not_there (same_key c.args.key) c.args.owing.now.entries c.requires.other)
