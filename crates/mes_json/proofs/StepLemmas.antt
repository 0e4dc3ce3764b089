-- Soundness: after any step of the state machine, and after a run, the bytes so far have the form
-- that the grammar requires in the new state (`Held`).
use Rattle.std.proofs.Common.{◌≡◌, ℕ, Bool, true, false, List, [], ◌∷◌, ◌++◌, Option, Some, None, option_and_then, refl, sym, subst, append_assoc, append-nil}
use Rattle.mes_fixed.specs.Automaton.{is_final}
use Rattle.mes_json.specs.Tree.{Tree}
use Rattle.mes_json.specs.Tree.Tree.{number}
use Rattle.mes_json.specs.Grammar.{IsText}
use Rattle.mes_json.specs.Machine.{State, start, step, run, finish, finish_number, ends, kind_of}
use Rattle.mes_json.specs.Machine.State.{state}
use Rattle.mes_json.specs.Machine.Token.{literal, digits}
use Rattle.mes_json.specs.Machine.ReaderState.{value, first_item, name, quoted, named, token, after}
use Rattle.mes_json.proofs.Held.{Held}
use Rattle.mes_json.proofs.SoundLemmas.{some_is, none_some, kind_is, on_value_sound}
use Rattle.mes_json.proofs.ObjectSteps.{on_name_sound, on_named_sound}
use Rattle.mes_json.proofs.ArraySteps.{on_first_item_sound}
use Rattle.mes_json.proofs.TokenSteps.{on_after_sound, number_held, on_token_sound}
use Rattle.mes_json.proofs.StringSteps.{on_quoted_sound}

pub step_sound : (d : ℕ) (s next : State) (b : List ℕ) (c : ℕ) → Held d s b → step d s c ≡ Some next → Held d next (b ++ c ∷ [])
step_sound d (state fs value) next b c h e = on_value_sound d fs (kind_of c) c next b (kind_is c) h e
step_sound d (state fs first_item) next b c h e = on_first_item_sound d fs (kind_of c) c next b (kind_is c) h e
step_sound d (state fs (name ms)) next b c h e = on_name_sound d fs ms (kind_of c) c next b (kind_is c) h e
step_sound d (state fs (quoted p m s)) next b c h e = on_quoted_sound d fs p m s b c next h e
step_sound d (state fs (named ms k)) next b c h e = on_named_sound d fs ms k (kind_of c) c next b (kind_is c) h e
step_sound d (state fs (token x)) next b c h e = on_token_sound d fs x b c next h e
step_sound d (state fs (after t)) next b c h e = on_after_sound d fs t (kind_of c) c next b (kind_is c) h e

held_on : (d : ℕ) (s last : State) (a b : List ℕ) → Held d s a → run d s b ≡ Some last → Held d last (a ++ b)
unfolding run
held_on d s last a [] h e = subst (λ (x : State). Held d x (a ++ [])) (some_is e) (subst (Held d s) (sym (append-nil a)) h)
held_on d s last a (c ∷ b) h e = by (step d s c) refl e (λ next is f. held_on d next last (a ++ c ∷ []) b (step_sound d s next a c h is) f)
  where
    by : (o : Option State) → step d s c ≡ o → option_and_then (λ next. run d next b) o ≡ Some last
        → ((next : State) → step d s c ≡ Some next → run d next b ≡ Some last → Held d last ((a ++ c ∷ []) ++ b)) → Held d last (a ++ c ∷ b)
    by None is f go = none_some f
    by (Some next) is f go = subst (Held d last) (append_assoc a (c ∷ []) b) (go next is f)

pub held_run : (d : ℕ) (s : State) (b : List ℕ) → run d start b ≡ Some s → Held d s b
held_run d s b e = held_on d start s [] b (d, (refl, tt)) e

-- a value outside all objects and arrays, with white space around it, is a JSON text
value_text : (d : ℕ) (b : List ℕ) (t : Tree) → Held d (state [] (after t)) b → IsText d b t
value_text d b t h = let v = h.1 in
    subst (λ (room : ℕ). IsText room b t) v.outside.0
    (record { before = v.front; inside = v.inside; after = v.spaces; is = v.is; spaces_before = v.outside.1; has = v.is_value; spaces_after = v.are_spaces })

finish_number_is : (x : Bool) (n : List ℕ) (t : Tree) → finish_number x n ≡ Some t → (x ≡ true) × (number n ≡ t)
finish_number_is true n t e = (refl, some_is e)
finish_number_is false n t e = none_some e

pub held_text : (d : ℕ) (s : State) (b : List ℕ) (t : Tree) → Held d s b → finish s ≡ Some t → IsText d b t
held_text d (state [] value) b t h e = none_some e
held_text d (state [] first_item) b t h e = none_some e
held_text d (state [] (name ms)) b t h e = none_some e
held_text d (state [] (quoted p m s)) b t h e = none_some e
held_text d (state [] (named ms k)) b t h e = none_some e
held_text d (state [] (token (literal a rest u))) b t h e = none_some e
held_text d (state [] (token (digits part n))) b t h e =
    let f = finish_number_is (is_final part) n t e in
    subst (λ (x : Tree). IsText d b x) f.1 (value_text d b (number n) (number_held d [] part n b h f.0))
held_text d (state [] (after u)) b t h e = subst (λ (x : Tree). IsText d b x) (some_is e) (value_text d b u h)
held_text d (state (f ∷ fs) a) b t h e = none_some e

pub finished : (d : ℕ) (b : List ℕ) (s : State) (t : Tree) → run d start b ≡ Some s → finish s ≡ Some t → IsText d b t
finished d b s t e f = held_text d s b t (held_run d s b e) f

pub text_from_run : (d : ℕ) (b : List ℕ) (t : Tree) → ends d start b ≡ Some t → IsText d b t
text_from_run d b t e = by (run d start b) refl e
  where
    by : (o : Option State) → run d start b ≡ o → option_and_then finish o ≡ Some t → IsText d b t
    by None is f = none_some f
    by (Some s) is f = finished d b s t is f
