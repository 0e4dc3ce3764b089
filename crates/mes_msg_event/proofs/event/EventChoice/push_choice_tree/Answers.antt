use Rattle.mes_model_schema.specs.Leaves.{texts}
use Rattle.mes_msg_event.proofs.event.EventChoice.push_choice_tree.Goals as goal

pub returns-in-Other-clause-members : goal.returns-in-Other-clause-members
unfolding texts
returns-in-Other-clause-members c = rw (c.in-Other.is, ← c.text.ensures.text) c.put.ensures.members
