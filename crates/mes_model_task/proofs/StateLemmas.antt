-- Lemmas: the state or the fault of a tree, from the text of its string.
use Rattle.std.proofs.Common.{◌≡◌, ℕ, List, refl}
use Rattle.std.specs.Prelude.{Ok}
use Rattle.mes_model_schema.specs.Tree.{Tree}
use Rattle.mes_model_schema.specs.Paths.{Place}
use Rattle.mes_model_schema.specs.Fields.{fault}
use Rattle.mes_model_schema.specs.Leaves.{text_of}
use Rattle.mes_model_schema.specs.declared.field.FieldFaultKind.TheVariants.{UnknownName}
use Rattle.mes_model_task.specs.TaskStates.{state_name, states, state_found, state_none}
use Rattle.mes_model_task.specs.declared.task_state.TaskState.{TaskState}

pub states_given : (at : List Place) (t : Tree) (name : List ℕ) (state : TaskState) → text_of at t ≡ Ok name → state_name state ≡ name
    → states.read at t ≡ Ok state
unfolding states
states_given at t name state text is = rw (text, state_found name state is) refl

pub states_unknown : (at : List Place) (t : Tree) (name : List ℕ) → text_of at t ≡ Ok name → ((state : TaskState) → state_name state ≡ name → ⊥)
    → states.read at t ≡ fault at UnknownName
unfolding states
states_unknown at t name text none = rw (text, state_none name none) refl
