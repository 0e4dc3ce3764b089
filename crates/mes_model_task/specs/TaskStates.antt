-- The states of a task and their names (TaskState in mesos.proto).
use Rattle.std.specs.Prelude.{◌≡◌, ℕ, List, [], ◌∷◌, bytes_eq, codes, if◌then◌else◌, Option, Some, None, Result, Ok}
use Rattle.std.proofs.Common.{inl, inr, Bool, true, false, length, refl, sym, ◌∙◌, ap, arith}
use Rattle.std.specs.Prelude.{Err}
use Rattle.mes_model_schema.specs.Tree.Tree.{boolean, string}
use Rattle.mes_model_schema.specs.Cursor.{as_text}
use Rattle.mes_model_schema.specs.Paths.{Place}
use Rattle.mes_model_schema.specs.Fields.{fault}
use Rattle.mes_model_schema.specs.Kinds.{Kind, Lawful, Within, ◌>>=◌}
use Rattle.mes_model_schema.specs.Leaves.{text_of}
use Rattle.mes_model_schema.specs.KindLaws.{text_is}
use Rattle.mes_model_schema.specs.FieldLaws.{bound, broken}
use Rattle.mes_model_schema.specs.StepLaws.{fault_there, expected_there, breaks_there}
use Rattle.mes_model_schema.specs.NameLaws.{names_equal}
use Rattle.mes_model_schema.specs.declared.field.FieldFault.{FieldFault}
use Rattle.mes_model_schema.specs.declared.field.FieldFaultKind.TheVariants.{WrongKind, UnknownName}
use Rattle.mes_model_task.specs.declared.task_state.TaskState.{TaskState}
use Rattle.mes_model_task.specs.declared.task_state.TaskState.TheVariants.{Staging, Starting, Running, Killing, Finished, Failed, Killed, Error, Lost, Dropped, Unreachable, Gone, GoneByOperator, Unknown}

abbrev pub state_name : TaskState → List ℕ
state_name Staging = codes "TASK_STAGING"
state_name Starting = codes "TASK_STARTING"
state_name Running = codes "TASK_RUNNING"
state_name Killing = codes "TASK_KILLING"
state_name Finished = codes "TASK_FINISHED"
state_name Failed = codes "TASK_FAILED"
state_name Killed = codes "TASK_KILLED"
state_name Error = codes "TASK_ERROR"
state_name Lost = codes "TASK_LOST"
state_name Dropped = codes "TASK_DROPPED"
state_name Unreachable = codes "TASK_UNREACHABLE"
state_name Gone = codes "TASK_GONE"
state_name GoneByOperator = codes "TASK_GONE_BY_OPERATOR"
state_name Unknown = codes "TASK_UNKNOWN"

abbrev pub all_states : List TaskState
all_states =
    Staging ∷ Starting ∷ Running ∷ Killing ∷ Finished ∷ Failed ∷ Killed ∷ Error ∷ Lost ∷ Dropped ∷ Unreachable ∷ Gone ∷ GoneByOperator ∷ Unknown ∷ []

-- the first state in the list that has the name
abbrev pub among : List ℕ → List TaskState → Option TaskState
among name [] = None
among name (state ∷ states) = if bytes_eq (state_name state) name then Some state else among name states

-- the state with this name, if there is one
unfoldable pub state_of : List ℕ → Option TaskState
state_of name = among name all_states

abbrev pub known_state : List Place → Option TaskState → Result TaskState FieldFault
known_state at None = fault at UnknownName
known_state at (Some state) = Ok state

-- the kind of states, in JSON the string with the name of the state
unfoldable pub states : Kind TaskState
states = record {
  Reads = λ t state. t ≡ string (state_name state);
  read = λ at t. text_of at t >>= λ name. known_state at (state_of name);
  tree = λ state. string (state_name state);
}

-- ---- the laws of the names of states, and of the kind of states

pub found_by_name : (state : TaskState) → state_of (state_name state) ≡ Some state
unfolding state_of
found_by_name Staging = refl
found_by_name Starting = refl
found_by_name Running = refl
found_by_name Killing = refl
found_by_name Finished = refl
found_by_name Failed = refl
found_by_name Killed = refl
found_by_name Error = refl
found_by_name Lost = refl
found_by_name Dropped = refl
found_by_name Unreachable = refl
found_by_name Gone = refl
found_by_name GoneByOperator = refl
found_by_name Unknown = refl

among_named : (name : List ℕ) (states : List TaskState) (state : TaskState) → among name states ≡ Some state → state_name state ≡ name
among_named name [] state e = absurd (cc)
among_named name (first ∷ rest) state e = by_test (bytes_eq (state_name first) name) refl e (among_named name rest state) where
  by_test : (b : Bool) → bytes_eq (state_name first) name ≡ b → (if b then Some first else among name rest) ≡ Some state
      → (among name rest ≡ Some state → state_name state ≡ name) → state_name state ≡ name
  by_test true same found later = let is : first ≡ state = cc in ap state_name (sym is) ∙ names_equal (state_name first) name same
  by_test false other found later = later found

-- the state that is found for a name has that name
pub state_named : (name : List ℕ) (state : TaskState) → state_of name ≡ Some state → state_name state ≡ name
unfolding state_of
state_named name state e = among_named name all_states state e

pub state_found : (name : List ℕ) (state : TaskState) → state_name state ≡ name → state_of name ≡ Some state
state_found name state is = ap state_of (sym is) ∙ found_by_name state

-- if no state has the name, no state is found
pub state_none : (name : List ℕ) → ((state : TaskState) → state_name state ≡ name → ⊥) → state_of name ≡ None
state_none name none = by_answer (state_of name) refl where
  by_answer : (found : Option TaskState) → state_of name ≡ found → found ≡ None
  by_answer None e = refl
  by_answer (Some state) e = absurd (none state (state_named name state e))

known_only : (at : List Place) (found : Option TaskState) (state : TaskState) → known_state at found ≡ Ok state → found ≡ Some state
known_only at (Some other) state e = cc
known_only at None state e = absurd (cc)

known_there : (at : List Place) (found : Option TaskState) (f : FieldFault) → known_state at found ≡ Err f → length f.path ≡ length at
known_there at (Some state) f e = absurd (cc)
known_there at None f e = fault_there at UnknownName f e

pub lawful_states : Lawful states 0
unfolding states
lawful_states = record {
  sound = λ at t state e.
      let named = bound (text_of at t) _ _ e in
      text_is at t named.0 named.1 ∙ ap (λ (name : List ℕ). string name) (sym (state_named named.0 state (known_only at (state_of named.0) state named.2)));
  complete = λ at t state e. rw e (rw (found_by_name state) refl);
  no_null = λ state e. absurd (cc);
  sample = (string (state_name Unknown), Unknown, refl);
  within = within;
  reached = breaks_there states (boolean true) WrongKind (λ e. absurd (cc)) (λ at. refl);
} where
  within : Within states 0
  within at t f e = elim (broken (text_of at t) _ f e) [
    | inl h ↦ omega (arith, expected_there at (as_text t) f h)
    | inr h ↦ omega (arith, known_there at (state_of h.0) f h.2)
  ]
