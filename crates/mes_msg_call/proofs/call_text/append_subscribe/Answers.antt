use Rattle.mes_model_schema.proofs.AppendLemmas.{both_members}
use Rattle.mes_msg_call.proofs.call_text.append_subscribe.Goals as goal

pub returns-clause-members : goal.returns-clause-members
returns-clause-members c =
    let ahead = both_members _ _ _ _ _ _ _ _ c.in_ok-kind.ensures c.in_ok-framework.ensures.members c.deeper.ensures in
    both_members _ _ _ _ _ _ _ _ ahead c.in_ok-rest.ensures.members c.deeper-2.ensures
