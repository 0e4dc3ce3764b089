use Rattle.mes_model_schema.proofs.AppendLemmas.{both_members}
use Rattle.mes_msg_call.proofs.call_text.append_call.Goals as goal

pub returns-clause-members : goal.returns-clause-members
returns-clause-members g c = both_members _ _ _ _ _ _ _ _ c.in_ok-head.ensures.members c.in_ok-rest.ensures.members c.deeper.ensures
