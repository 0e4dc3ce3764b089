use Rattle.std.proofs.Common.{◌∙◌}
use Rattle.indexmap.specs.IndexSet.{insert_all}
use Rattle.mes_session_fit.specs.Launched.{launched, launched_by}
use Rattle.mes_double_master_state.specs.Ids.{same_id}
use Rattle.mes_double_master_state.proofs.IdLemmas.{insert_tasks}
use Rattle.mes_double_master_state.proofs.ids.launch.Goals as goal

pub returns-clause-ok : goal.returns-clause-ok
returns-clause-ok c =
    c.put_ids.ensures
    ∙ (λ i. insert_all same_id (c.reserve.ensures.same i) (c.in_ok-ids.ensures i))
    ∙ insert_tasks c.args.known.now.keys (launched launched_by c.args.operations.now)
