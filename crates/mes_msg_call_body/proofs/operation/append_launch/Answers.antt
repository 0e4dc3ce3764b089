use Rattle.mes_model_schema.proofs.AppendLemmas.{one_member, both_members}
use Rattle.mes_msg_call_body.proofs.operation.append_launch.Goals as goal

pub returns-clause-members : goal.returns-clause-members
returns-clause-members c =
    let body = one_member _ _ _ _ _ _ c.in_ok-append_name.ensures.text c.in_ok-append_name.ensures.utf8 c.in_ok-second.ensures.text in
    both_members _ _ _ _ _ _ _ _ c.in_ok-first.ensures body c.deeper.ensures
