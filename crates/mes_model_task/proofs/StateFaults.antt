-- Lemmas: the first fault of a state is another JSON type, or a string that is no name of a state.
use Rattle.std.proofs.Common.{◌≡◌, ◌⊎◌, inl, inr, ◌↔◌, ℕ, List, Option, Some, None, refl, sym, ◌∙◌, ap}
use Rattle.std.specs.Prelude.{Ok, Err}
use Rattle.mes_model_schema.specs.Tree.{Tree}
use Rattle.mes_model_schema.specs.Tree.Tree.{string}
use Rattle.mes_model_schema.specs.Paths.{Place}
use Rattle.mes_model_schema.specs.Kinds.{Breaks}
use Rattle.mes_model_schema.specs.Leaves.{text_of}
use Rattle.mes_model_schema.specs.KindLaws.{text_is}
use Rattle.mes_model_schema.specs.FieldLaws.{broken, breaks_first}
use Rattle.mes_model_schema.specs.FirstFaults.{IsAt, IsRead, IsString, ValueBreaks}
use Rattle.mes_model_schema.specs.declared.field.FieldFault.{FieldFault}
use Rattle.mes_model_schema.specs.declared.field.FieldFaultKind.TheVariants.{UnknownName}
use Rattle.mes_model_schema.proofs.ValueFaults.{is_at, told_at, string_told}
use Rattle.mes_model_task.specs.TaskStates.{state_name, state_of, known_state, states, state_named, lawful_states}
use Rattle.mes_model_task.specs.declared.task_state.TaskState.{TaskState}

known_told : (at : List Place) (found : Option TaskState) (f : FieldFault) → known_state at found ≡ Err f → IsAt at UnknownName f
known_told at None f e = is_at {V = TaskState} at UnknownName f e
known_told at (Some state) f e = absurd (cc)

pub state_is_broken : (at : List Place) (t : Tree) (f : FieldFault) → Breaks states at t f ↔ ValueBreaks IsString UnknownName states at t f
unfolding states
state_is_broken at t f = (to, from) where
  unread : Breaks states at t f → ¬ IsRead states t
  unread e read = let both : Ok read.0 ≡ Err f = sym (lawful_states.complete at t read.0 read.1) ∙ e in absurd (cc)

  to : Breaks states at t f → ValueBreaks IsString UnknownName states at t f
  to e = elim (broken (text_of at t) _ f e) [
    | inl h ↦ inl ((string_told at t f).0 h)
    | inr h ↦ inr ((h.0, text_is at t h.0 h.1), unread e, known_told at (state_of h.0) f h.2)
  ]

  by_state : (s : List ℕ) → t ≡ string s → ¬ IsRead states t → IsAt at UnknownName f → (found : Option TaskState) → state_of s ≡ found
      → known_state at found ≡ Err f
  by_state s is none place None e = told_at {V = TaskState} at UnknownName f place
  by_state s is none place (Some state) e = absurd (none (state, is ∙ ap (λ (n : List ℕ). string n) (sym (state_named s state e))))

  from : ValueBreaks IsString UnknownName states at t f → Breaks states at t f
  from (inl h) = breaks_first (text_of at t) _ f ((string_told at t f).1 h)
  from (inr h) = rw (h.0.1) (by_state h.0.0 h.0.1 h.1 h.2 (state_of h.0.0) refl)
