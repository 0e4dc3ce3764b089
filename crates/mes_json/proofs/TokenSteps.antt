-- Soundness: after a step of the state machine in a literal or number, or after a value, the bytes
-- so far have the form that the grammar requires in the new state (`Held`).
use Rattle.std.proofs.Common.{◌≡◌, ℕ, inl, inr, true, List, [], ◌∷◌, ◌++◌, Option, Some, None, ◌==◌, refl, ap, sym, ◌∙◌, subst, append_assoc, append-nil, eqb-true}
use Rattle.mes_fixed.specs.Number.{IsNumber}
use Rattle.mes_fixed.specs.Automaton.{letter_of, number_next, is_final, Ends}
use Rattle.mes_fixed.specs.declared.automaton.NumberState.{NumberState}
use Rattle.mes_fixed.specs.declared.automaton.NumberState.TheVariants.{AtStart}
use Rattle.mes_fixed.proofs.Grammar.{number_ends}
use Rattle.mes_json.specs.Tree.{Tree}
use Rattle.mes_json.specs.Tree.Tree.{number}
use Rattle.mes_json.specs.Grammar.{IsValue}
use Rattle.mes_json.specs.Machine.{State, Frame, ByteClass, Token, on_after, close_object, close_array, next_of, due, on_digits, on_token, kind_of}
use Rattle.mes_json.specs.Machine.State.{state}
use Rattle.mes_json.specs.Machine.Frame.{frame, array_frame}
use Rattle.mes_json.specs.Machine.ByteClass.{blank, quote, opening, closing, opening_array, closing_array, colon, comma, other, begins}
use Rattle.mes_json.specs.Machine.Token.{literal, digits}
use Rattle.mes_json.specs.Machine.ReaderState.{token, after}
use Rattle.mes_json.proofs.Held.{HeldStack, HeldToken, Held}
use Rattle.mes_json.proofs.SoundLemmas.{some_is, none_some, pick, KindIs, kind_is, push, valued_space}
use Rattle.mes_json.proofs.ObjectSteps.{ready, object_closes, name_is_due}
use Rattle.mes_json.proofs.ArraySteps.{array_ready, array_closes, item_is_due}

close_object_sound : (d : ℕ) (fs : List Frame) (t : Tree) (next : State) (b : List ℕ) → Held d (state fs (after t)) b → close_object fs t ≡ Some next → Held d next (b ++ 125 ∷ [])
close_object_sound d [] t next b h e = none_some e
close_object_sound d (frame ms k ∷ fs) t next b h e = subst (λ (s : State). Held d s (b ++ 125 ∷ [])) (some_is e) (object_closes d fs ms k t h.0 b (ready d fs ms k t h.0 b h.1))
close_object_sound d (array_frame ts ∷ fs) t next b h e = none_some e

close_array_sound : (d : ℕ) (fs : List Frame) (t : Tree) (next : State) (b : List ℕ) → Held d (state fs (after t)) b → close_array fs t ≡ Some next → Held d next (b ++ 93 ∷ [])
close_array_sound d [] t next b h e = none_some e
close_array_sound d (frame ms k ∷ fs) t next b h e = none_some e
close_array_sound d (array_frame ts ∷ fs) t next b h e = subst (λ (s : State). Held d s (b ++ 93 ∷ [])) (some_is e) (array_closes d fs ts t h.0 b (array_ready d fs ts t h.0 b h.1))

next_of_sound : (d : ℕ) (fs : List Frame) (t : Tree) (next : State) (b : List ℕ) → Held d (state fs (after t)) b → next_of fs t ≡ Some next → Held d next (b ++ 44 ∷ [])
next_of_sound d [] t next b h e = none_some e
next_of_sound d (frame ms k ∷ fs) t next b h e = subst (λ (s : State). Held d s (b ++ 44 ∷ [])) (some_is e) (name_is_due d fs ms k t h.0 b (ready d fs ms k t h.0 b h.1))
next_of_sound d (array_frame ts ∷ fs) t next b h e = subst (λ (s : State). Held d s (b ++ 44 ∷ [])) (some_is e) (item_is_due d fs ts t h.0 b (array_ready d fs ts t h.0 b h.1))

pub on_after_sound : (d : ℕ) (fs : List Frame) (t : Tree) (k : ByteClass) (c : ℕ) (next : State) (b : List ℕ) → KindIs k c → Held d (state fs (after t)) b
    → on_after fs t k ≡ Some next → Held d next (b ++ c ∷ [])
on_after_sound d fs t blank c next b is h e = subst (λ (s : State). Held d s (b ++ c ∷ [])) (some_is e) (h.0, valued_space (HeldStack d fs h.0) t h.0 b c h.1 is)
on_after_sound d fs t quote c next b is h e = none_some e
on_after_sound d fs t opening c next b is h e = none_some e
on_after_sound d fs t closing c next b is h e = subst (λ (x : ℕ). Held d next (b ++ x ∷ [])) (sym is) (close_object_sound d fs t next b h e)
on_after_sound d fs t opening_array c next b is h e = none_some e
on_after_sound d fs t closing_array c next b is h e = subst (λ (x : ℕ). Held d next (b ++ x ∷ [])) (sym is) (close_array_sound d fs t next b h e)
on_after_sound d fs t colon c next b is h e = none_some e
on_after_sound d fs t comma c next b is h e = subst (λ (x : ℕ). Held d next (b ++ x ∷ [])) (sym is) (next_of_sound d fs t next b h e)
on_after_sound d fs t other c next b is h e = none_some e
on_after_sound d fs t (begins x) c next b is h e = none_some e

literal_goes_on : (d : ℕ) (fs : List Frame) (e : ℕ) (rest : List ℕ) (t : Tree) (b : List ℕ) → Held d (state fs (token (literal e rest t))) b
    → Held d (state fs (due rest t)) (b ++ e ∷ [])
literal_goes_on d fs e [] t b h = let x = h.1 in (
  h.0,
  record {
    front = x.front;
    inside = x.inside ++ e ∷ [];
    spaces = [];
    is = push b x.front x.inside e x.is ∙ ap (λ (y : List ℕ). x.front ++ y) (sym (append-nil (x.inside ++ e ∷ [])));
    outside = x.outside;
    is_value = x.held h.0;
    are_spaces = tt;
  },
)
literal_goes_on d fs e (a ∷ rest) t b h = let x = h.1 in (
  h.0,
  record {
    front = x.front;
    inside = x.inside ++ e ∷ [];
    is = push b x.front x.inside e x.is;
    outside = x.outside;
    held = λ room. subst (λ (y : List ℕ). IsValue t room y) (sym (append_assoc x.inside (e ∷ []) (a ∷ rest))) (x.held room);
  },
)

pub number_is : (part : NumberState) (n b : List ℕ) → HeldToken (digits part n) b → is_final part ≡ true → IsNumber n
number_is part n b h f = (number_ends n).1 (subst (Ends AtStart) (append-nil n) (h.1 [] f))

pub number_held : (d : ℕ) (fs : List Frame) (part : NumberState) (n b : List ℕ) → Held d (state fs (token (digits part n))) b → is_final part ≡ true
    → Held d (state fs (after (number n))) b
number_held d fs part n b h f = let x = h.1 in (
  h.0,
  record {
    front = x.front;
    inside = x.inside;
    spaces = [];
    is = x.is ∙ ap (λ (y : List ℕ). x.front ++ y) (sym (append-nil x.inside));
    outside = x.outside;
    is_value = (x.held.0, number_is part n x.inside x.held f);
    are_spaces = tt;
  },
)

number_goes_on : (d : ℕ) (fs : List Frame) (part next : NumberState) (n b : List ℕ) (c : ℕ) → Held d (state fs (token (digits part n))) b → number_next part (letter_of c) ≡ Some next
    → Held d (state fs (token (digits next (n ++ c ∷ [])))) (b ++ c ∷ [])
number_goes_on d fs part next n b c h e = let x = h.1 in (
  h.0,
  record {
    front = x.front;
    inside = x.inside ++ c ∷ [];
    is = push b x.front x.inside c x.is;
    outside = x.outside;
    held = (ap (λ (y : List ℕ). y ++ c ∷ []) x.held.0, λ q g. subst (Ends AtStart) (sym (append_assoc n (c ∷ []) q)) (x.held.1 (c ∷ q) (next, e, g)));
  },
)

on_digits_sound : (d : ℕ) (fs : List Frame) (part : NumberState) (n b : List ℕ) (c : ℕ) (next : State) (o : Option NumberState) → number_next part (letter_of c) ≡ o
    → Held d (state fs (token (digits part n))) b
    → on_digits fs part n c o ≡ Some next → Held d next (b ++ c ∷ [])
on_digits_sound d fs part n b c next (Some p) is h e = subst (λ (s : State). Held d s (b ++ c ∷ [])) (some_is e) (number_goes_on d fs part p n b c h is)
on_digits_sound d fs part n b c next None is h e =
    elim (pick (is_final part) _ _ next e) [
      | inl f ↦ on_after_sound d fs (number n) (kind_of c) c next b (kind_is c) (number_held d fs part n b h f.0) f.1
      | inr f ↦ none_some f.1
    ]

pub on_token_sound : (d : ℕ) (fs : List Frame) (x : Token) (b : List ℕ) (c : ℕ) (next : State) → Held d (state fs (token x)) b → on_token fs x c ≡ Some next
    → Held d next (b ++ c ∷ [])
on_token_sound d fs (literal a rest t) b c next h e =
    elim (pick (c == a) _ _ next e) [
      | inl f ↦ subst (λ (x : ℕ). Held d next (b ++ x ∷ [])) (sym (eqb-true c a f.0)) (subst (λ (s : State). Held d s (b ++ a ∷ [])) (some_is f.1) (literal_goes_on d fs a rest t b h))
      | inr f ↦ none_some f.1
    ]
on_token_sound d fs (digits part n) b c next h e = on_digits_sound d fs part n b c next (number_next part (letter_of c)) refl h e
