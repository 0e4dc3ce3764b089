use Rattle.mes_model_schema.proofs.AppendLemmas.{both_members}
use Rattle.mes_model_schema.proofs.typed.TypedRefRowRefList.write_rows_text.Goals as goal

pub returns-clause-members : goal.returns-clause-members
returns-clause-members g c =
    both_members _ _ _ _ _ _ _ _ c.in_ok-own.ensures.members (rw (← c.COUNT.ensures) c.in_ok-rest.ensures.members) c.deeper.ensures
