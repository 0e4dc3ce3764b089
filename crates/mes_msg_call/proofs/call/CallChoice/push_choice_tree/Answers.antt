use Rattle.mes_msg_call.proofs.CallLemmas.{put_last}
use Rattle.mes_msg_call.proofs.call.CallChoice.push_choice_tree.Goals as goal

pub returns-in_ok-push_optional_tree-in-Subscribe-clause-members : goal.returns-in_ok-push_optional_tree-in-Subscribe-clause-members
returns-in_ok-push_optional_tree-in-Subscribe-clause-members c =
    rw (c.in-Subscribe.is) (put_last c.put.result _ _ _ _ _ _ _ c.in_ok-push_type_tree-in-Subscribe.ensures.members c.in_ok-push_optional_tree-in-Subscribe.ensures.members c.put.ensures.members)
