-- The measure of the state that a tape represents.
use Rattle.std.proofs.Common.{◌≡◌, ℕ, ◌+◌, inl, inr, List, [], ◌∷◌, refl, ap, arith}
use Rattle.mes_json.specs.Tree.Members.{no_members}
use Rattle.mes_json.specs.Machine.{ReaderState, State, start}
use Rattle.mes_json.specs.Machine.Frame.{frame, array_frame}
use Rattle.mes_json.specs.Machine.ReaderState.{value, first_item, name, quoted, named, token, after}
use Rattle.mes_json.specs.Machine.State.{state}
use Rattle.mes_json.specs.Tape.{span, value_due, name_due, valued, in_object, ended, apply, spelled_from, spelled, Takes, TakesValue, TakesName, ArePlaced}
use Rattle.mes_json.specs.declared.tape.Node.{Node}
use Rattle.mes_json.specs.declared.tape.Node.TheVariants.{Null, Bool, Number, Text, Name, List as list, Map, End}
use Rattle.mes_json.proofs.MeasureLemmas.{Measure, of_at, of_state, with_item_adds, with_member_adds}

abbrev pub of_node : Measure → List ℕ → Node → ℕ
of_node m texts Null = m.mark
of_node m texts (Bool x) = m.mark
of_node m texts (Number from to) = m.text (span texts from to)
of_node m texts (Text from to) = m.text (span texts from to)
of_node m texts (Name from to) = m.text (span texts from to)
of_node m texts (list n) = m.mark
of_node m texts (Map n) = m.mark
of_node m texts End = m.mark

abbrev pub of_nodes : Measure → List ℕ → List Node → ℕ
of_nodes m texts [] = 0
of_nodes m texts (x ∷ xs) = of_node m texts x + of_nodes m texts xs

pub value_due_holds : (m : Measure) (s : State) → of_state m (value_due s) ≡ of_state m s
value_due_holds m (state fs value) = refl
value_due_holds m (state fs first_item) = omega arith
value_due_holds m (state fs (name ms)) = refl
value_due_holds m (state fs (quoted p mid s)) = refl
value_due_holds m (state fs (named ms k)) = omega arith
value_due_holds m (state fs (token x)) = refl
value_due_holds m (state [] (after t)) = refl
value_due_holds m (state (frame ms k ∷ fs) (after t)) = refl
value_due_holds m (state (array_frame ts ∷ fs) (after t)) = omega (arith, with_item_adds m ts t)

pub name_due_holds : (m : Measure) (s : State) → of_state m (name_due s) ≡ of_state m s
name_due_holds m (state fs value) = refl
name_due_holds m (state fs first_item) = refl
name_due_holds m (state fs (name ms)) = refl
name_due_holds m (state fs (quoted p mid s)) = refl
name_due_holds m (state fs (named ms k)) = refl
name_due_holds m (state fs (token x)) = refl
name_due_holds m (state [] (after t)) = refl
name_due_holds m (state (frame ms k ∷ fs) (after t)) = omega (arith, with_member_adds m ms k t)
name_due_holds m (state (array_frame ts ∷ fs) (after t)) = refl

value_holds : (m : Measure) (s : State) (a : ReaderState) → TakesValue s → of_state m (valued a (value_due s)) ≡ of_state m s + of_at m a
value_holds m s a h =
    let e = ap (λ (t : State). of_state m (valued a t)) h.1 in
    let f = ap (of_state m) h.1 in omega (arith, e, f, value_due_holds m s)

name_holds : (m : Measure) (s : State) (k : List ℕ) → TakesName s → of_state m (in_object (λ ms. named ms k) (name_due s)) ≡ of_state m s + m.text k
name_holds m s k h =
    let e = ap (λ (t : State). of_state m (in_object (λ ms. named ms k) t)) h.2 in
    let f = ap (of_state m) h.2 in omega (arith, e, f, name_due_holds m s)

end_holds : (m : Measure) (s : State) → Takes s End → of_state m (ended s) ≡ of_state m s + m.mark
end_holds m (state fs value) (inl h) = absurd (cc (h.2))
end_holds m (state fs value) (inr (inl h)) = absurd (cc (h.1))
end_holds m (state fs value) (inr (inr h)) = absurd (cc (h.3))
end_holds m (state fs first_item) h = omega arith
end_holds m (state fs (name ms)) h = omega arith
end_holds m (state fs (quoted p mid s)) (inl h) = absurd (cc (h.2))
end_holds m (state fs (quoted p mid s)) (inr (inl h)) = absurd (cc (h.1))
end_holds m (state fs (quoted p mid s)) (inr (inr h)) = absurd (cc (h.3))
end_holds m (state fs (named ms k)) (inl h) = absurd (cc (h.2))
end_holds m (state fs (named ms k)) (inr (inl h)) = absurd (cc (h.1))
end_holds m (state fs (named ms k)) (inr (inr h)) = absurd (cc (h.3))
end_holds m (state fs (token x)) (inl h) = absurd (cc (h.2))
end_holds m (state fs (token x)) (inr (inl h)) = absurd (cc (h.1))
end_holds m (state fs (token x)) (inr (inr h)) = absurd (cc (h.3))
end_holds m (state [] (after t)) (inl h) = absurd (cc (h.2))
end_holds m (state [] (after t)) (inr (inl h)) = absurd (cc (h.1))
end_holds m (state [] (after t)) (inr (inr h)) = absurd (cc (h.3))
end_holds m (state (frame ms k ∷ fs) (after t)) h = omega (arith, with_member_adds m ms k t)
end_holds m (state (array_frame ts ∷ fs) (after t)) h = omega (arith, with_item_adds m ts t)

apply_holds : (m : Measure) (texts : List ℕ) (x : Node) (s : State) → Takes s x → of_state m (apply texts x s) ≡ of_state m s + of_node m texts x
apply_holds m texts Null s h = value_holds m s _ h
apply_holds m texts (Bool x) s h = value_holds m s _ h
apply_holds m texts (Number from to) s h = value_holds m s _ h
apply_holds m texts (Text from to) s h = value_holds m s _ h
apply_holds m texts (Name from to) s h = name_holds m s (span texts from to) h
apply_holds m texts (list n) s h = value_holds m s _ h
apply_holds m texts (Map n) s h = omega (arith, value_holds m s (name no_members) h)
apply_holds m texts End s h = end_holds m s h

from_holds : (m : Measure) (texts : List ℕ) (s : State) (xs : List Node) → ArePlaced texts s xs → of_state m (spelled_from texts s xs) ≡ of_state m s + of_nodes m texts xs
from_holds m texts s [] h = omega arith
from_holds m texts s (x ∷ xs) h = omega (arith, from_holds m texts (apply texts x s) xs h.1, apply_holds m texts x s h.0)

pub tape_holds : (m : Measure) (texts : List ℕ) (xs : List Node) → ArePlaced texts start xs → of_state m (spelled texts xs) ≡ of_nodes m texts xs
tape_holds m texts xs h = omega (arith, from_holds m texts start xs h)
