use Rattle.std.proofs.Common.{◌∙◌}
use Rattle.indexmap.specs.IndexMap.{insert_entry}
use Rattle.mes_double_master_state.specs.Ids.{same_id}
use Rattle.mes_double_master_state.proofs.updates.note.Goals as goal

pub returns-clause-ok : goal.returns-clause-ok
returns-clause-ok c =
    c.put_last.ensures ∙ (λ i. insert_entry same_id (c.reserve.ensures.entries i) (c.in_ok-task.ensures i) (c.in_ok-copied.ensures i))
