-- Soundness (`Held`): lemmas for all steps of the state machine, and the step at a value's first
-- byte.
use Rattle.std.proofs.Common.{◌≡◌, ℕ, zero, suc, ◌+◌, ◌<◌, ◌⊎◌, inl, inr, Bool, true, false, ◌||◌, List, [], ◌∷◌, ◌++◌, length, Option, Some, None, if◌then◌else◌, ◌==◌, nat_lt, refl, ap, sym, ◌∙◌, subst, arith, append_assoc, ltb-true, eqb-true}
use Rattle.std.proofs.lemmas.Bool.Decides.{nat_tests}
use Rattle.mes_fixed.specs.Automaton.{letter_of, number_next}
use Rattle.mes_fixed.specs.declared.automaton.NumberState.{NumberState}
use Rattle.mes_fixed.specs.declared.automaton.NumberState.TheVariants.{AtStart}
use Rattle.mes_json.specs.Tree.{Tree, Items, Members}
use Rattle.mes_json.specs.Tree.Tree.{null, boolean}
use Rattle.mes_json.specs.Tree.Members.{no_members}
use Rattle.mes_json.specs.Grammar.{IsSpace, IsSpaces}
use Rattle.mes_json.specs.Grammar.IsChars.{none}
use Rattle.mes_json.specs.Machine.{State, Frame, ByteClass, Token, on_value, kind_unless, kind_of}
use Rattle.mes_json.specs.Machine.State.{state}
use Rattle.mes_json.specs.Machine.Frame.{frame, array_frame}
use Rattle.mes_json.specs.Machine.Token.{literal}
use Rattle.mes_json.specs.Machine.ByteClass.{blank, quote, opening, closing, opening_array, closing_array, colon, comma, other, begins}
use Rattle.mes_json.specs.Machine.ReaderState.{value, first_item, name, token}
use Rattle.mes_json.specs.Machine.Utf8State.{between}
use Rattle.mes_json.proofs.Held.{InQuotes, InObject, InArray, Named, HeldStack, HeldToken, Valued, Held}

pub some_is : {A : Type 0} {x y : A} → Some x ≡ Some y → x ≡ y
some_is e = cc

pub none_some : {A : Type 0} {x : A} {X : Type 0} → None ≡ Some x → X
none_some e = cc

pub pick : {A : Type 0} (t : Bool) (o u : Option A) (x : A) → (if t then o else u) ≡ Some x → ((t ≡ true) × (o ≡ Some x)) ⊎ ((t ≡ false) × (u ≡ Some x))
pick true o u x e = inl (refl, e)
pick false o u x e = inr (refl, e)

-- which bytes c have the class
abbrev pub KindIs : ByteClass → ℕ → Type 0
KindIs blank c = IsSpace c
KindIs quote c = c ≡ 34
KindIs opening c = c ≡ 123
KindIs closing c = c ≡ 125
KindIs opening_array c = c ≡ 91
KindIs closing_array c = c ≡ 93
KindIs colon c = c ≡ 58
KindIs comma c = c ≡ 44
KindIs other c = Unit {0}
KindIs (begins x) c = HeldToken x (c ∷ [])

pub choose : (P : ByteClass → Type 0) (t : Bool) (k l : ByteClass) → (t ≡ true → P k) → (t ≡ false → P l) → P (if t then k else l)
choose P true k l f g = f refl
choose P false k l f g = g refl

blank_is : (c : ℕ) → (c == 32 || c == 9 || c == 10 || c == 13) ≡ true → IsSpace c
blank_is c e = grind (arith, nat_tests)

kind_unless_is : (c : ℕ) (o : Option NumberState) → number_next AtStart (letter_of c) ≡ o → KindIs (kind_unless c o) c
kind_unless_is c (Some part) e = (refl, λ q h. (part, e, h))
kind_unless_is c None e =
    let P = λ (k : ByteClass). KindIs k c in
    choose P (c == 34) quote _ (λ e. eqb-true c 34 e) (λ _.
    choose P (c == 32 || c == 9 || c == 10 || c == 13) blank _ (λ e. blank_is c e) (λ _.
    choose P (c == 123) opening _ (λ e. eqb-true c 123 e) (λ _.
    choose P (c == 125) closing _ (λ e. eqb-true c 125 e) (λ _.
    choose P (c == 91) opening_array _ (λ e. eqb-true c 91 e) (λ _.
    choose P (c == 93) closing_array _ (λ e. eqb-true c 93 e) (λ _.
    choose P (c == 58) colon _ (λ e. eqb-true c 58 e) (λ _.
    choose P (c == 44) comma _ (λ e. eqb-true c 44 e) (λ _.
    choose P (c == 0x6E) (begins (literal 0x75 (0x6C ∷ 0x6C ∷ []) null)) _ (λ e room. ap (λ (x : ℕ). x ∷ 0x75 ∷ 0x6C ∷ 0x6C ∷ []) (eqb-true c 0x6E e)) (λ _.
    choose P (c == 0x74) (begins (literal 0x72 (0x75 ∷ 0x65 ∷ []) (boolean true))) _ (λ e room. ap (λ (x : ℕ). x ∷ 0x72 ∷ 0x75 ∷ 0x65 ∷ []) (eqb-true c 0x74 e)) (λ _.
    choose P (c == 0x66) (begins (literal 0x61 (0x6C ∷ 0x73 ∷ 0x65 ∷ []) (boolean false))) other (λ e room. ap (λ (x : ℕ). x ∷ 0x61 ∷ 0x6C ∷ 0x73 ∷ 0x65 ∷ []) (eqb-true c 0x66 e)) (λ _.
    tt)))))))))))

pub kind_is : (c : ℕ) → KindIs (kind_of c) c
kind_is c = kind_unless_is c (number_next AtStart (letter_of c)) refl

pub push : (b x y : List ℕ) (c : ℕ) → b ≡ x ++ y → b ++ c ∷ [] ≡ x ++ (y ++ c ∷ [])
push b x y c e = ap (λ (z : List ℕ). z ++ c ∷ []) e ∙ append_assoc x y (c ∷ [])

pub more_spaces : (b : List ℕ) (c : ℕ) → IsSpaces b → IsSpace c → IsSpaces (b ++ c ∷ [])
more_spaces [] c h s = (s, tt)
more_spaces (x ∷ b) c h s = (h.0, more_spaces b c h.1 s)

pub array_space : (Outside : ℕ → List ℕ → Type 0) (ts : Items) (room : ℕ) (b : List ℕ) (c : ℕ) → InArray Outside ts room b → IsSpace c → InArray Outside ts room (b ++ c ∷ [])
array_space Outside ts room b c h s = record {
  outer = h.outer;
  led = h.led;
  spaces = h.spaces ++ c ∷ [];
  is = push b h.outer (91 ∷ (h.led ++ h.spaces)) c h.is ∙ ap (λ (x : List ℕ). h.outer ++ 91 ∷ x) (append_assoc h.led h.spaces (c ∷ []));
  outside = h.outside;
  before = h.before;
  are_spaces = more_spaces h.spaces c h.are_spaces s;
}

pub object_space : (Outside : ℕ → List ℕ → Type 0) (ms : Members) (room : ℕ) (b : List ℕ) (c : ℕ) → InObject Outside ms room b → IsSpace c → InObject Outside ms room (b ++ c ∷ [])
object_space Outside ms room b c h s = record {
  outer = h.outer;
  led = h.led;
  spaces = h.spaces ++ c ∷ [];
  is = push b h.outer (123 ∷ (h.led ++ h.spaces)) c h.is ∙ ap (λ (x : List ℕ). h.outer ++ 123 ∷ x) (append_assoc h.led h.spaces (c ∷ []));
  outside = h.outside;
  before = h.before;
  are_spaces = more_spaces h.spaces c h.are_spaces s;
}

pub named_space : (Outside : ℕ → List ℕ → Type 0) (ms : Members) (k : List ℕ) (room : ℕ) (b : List ℕ) (c : ℕ) → Named Outside ms k room b → IsSpace c
    → Named Outside ms k room (b ++ c ∷ [])
named_space Outside ms k room b c h s = record {
  front = h.front;
  inside = h.inside;
  spaces = h.spaces ++ c ∷ [];
  is = push b h.front (h.inside ++ h.spaces) c h.is ∙ ap (λ (x : List ℕ). h.front ++ x) (append_assoc h.inside h.spaces (c ∷ []));
  object = h.object;
  is_name = h.is_name;
  are_spaces = more_spaces h.spaces c h.are_spaces s;
}

pub valued_space : (Outside : List ℕ → Type 0) (t : Tree) (room : ℕ) (b : List ℕ) (c : ℕ) → Valued Outside t room b → IsSpace c → Valued Outside t room (b ++ c ∷ [])
valued_space Outside t room b c h s = record {
  front = h.front;
  inside = h.inside;
  spaces = h.spaces ++ c ∷ [];
  is = push b h.front (h.inside ++ h.spaces) c h.is ∙ ap (λ (x : List ℕ). h.front ++ x) (append_assoc h.inside h.spaces (c ∷ []));
  outside = h.outside;
  is_value = h.is_value;
  are_spaces = more_spaces h.spaces c h.are_spaces s;
}

stack_space : (fs : List Frame) (d room : ℕ) (b : List ℕ) (c : ℕ) → HeldStack d fs room b → IsSpace c → HeldStack d fs room (b ++ c ∷ [])
stack_space [] d room b c h s = (h.0, more_spaces b c h.1 s)
stack_space (frame ms k ∷ fs) d room b c h s =
    record { front = h.front; spaces = h.spaces ++ c ∷ []; is = push b h.front (58 ∷ h.spaces) c h.is; name = h.name; are_spaces = more_spaces h.spaces c h.are_spaces s }
stack_space (array_frame ts ∷ fs) d room b c h s = array_space (HeldStack d fs) ts room b c h s

pub room_is : (fs : List Frame) (d room : ℕ) (b : List ℕ) → HeldStack d fs room b → length fs + room ≡ d
room_is [] d room b h = omega (arith, h.0)
room_is (frame ms k ∷ fs) d room b h = let e : length fs + suc room ≡ d = room_is fs d (suc room) h.name.object.outer h.name.object.outside in omega arith
room_is (array_frame ts ∷ fs) d room b h = let e : length fs + suc room ≡ d = room_is fs d (suc room) h.outer h.outside in omega arith

pub quote_starts : (Outside : List ℕ → Type 0) (b : List ℕ) → Outside b → InQuotes Outside between [] (b ++ 34 ∷ [])
quote_starts Outside b h =
    record { front = b; inside = []; is = refl; outside = h; in_string = record { whole = []; part = []; words = []; is = refl; chars = none refl refl; text = refl; part_of = refl } }

object_starts : (fs : List Frame) (d room : ℕ) (b : List ℕ) → HeldStack d fs room b → length fs < d → Held d (state fs (name no_members)) (b ++ 123 ∷ [])
object_starts fs d zero b h l = let e : length fs + 0 ≡ d = room_is fs d 0 b h in absurd (omega arith)
object_starts fs d (suc room) b h l = (room, record { outer = b; led = []; spaces = []; is = refl; outside = h; before = refl; are_spaces = tt })

array_starts : (fs : List Frame) (d room : ℕ) (b : List ℕ) → HeldStack d fs room b → length fs < d → Held d (state fs first_item) (b ++ 91 ∷ [])
array_starts fs d zero b h l = let e : length fs + 0 ≡ d = room_is fs d 0 b h in absurd (omega arith)
array_starts fs d (suc room) b h l = (room, record { outer = b; led = []; spaces = []; is = refl; outside = h; before = refl; are_spaces = tt })

token_starts : (fs : List Frame) (d room : ℕ) (b : List ℕ) (c : ℕ) (x : Token) → HeldStack d fs room b → HeldToken x (c ∷ []) → Held d (state fs (token x)) (b ++ c ∷ [])
token_starts fs d room b c x h is = (room, record { front = b; inside = c ∷ []; is = refl; outside = h; held = is })

pub on_value_sound : (d : ℕ) (fs : List Frame) (k : ByteClass) (c : ℕ) (next : State) (b : List ℕ) → KindIs k c → Held d (state fs value) b → on_value d fs k ≡ Some next
    → Held d next (b ++ c ∷ [])
on_value_sound d fs blank c next b is h e = subst (λ (s : State). Held d s (b ++ c ∷ [])) (some_is e) (h.0, stack_space fs d h.0 b c h.1 is)
on_value_sound d fs quote c next b is h e =
    subst (λ (x : ℕ). Held d next (b ++ x ∷ [])) (sym is) (subst (λ (s : State). Held d s (b ++ 34 ∷ [])) (some_is e) (h.0, quote_starts (HeldStack d fs h.0) b h.1))
on_value_sound d fs opening c next b is h e =
    elim (pick (nat_lt (length fs) d) _ _ next e) [
      | inl f ↦ subst (λ (x : ℕ). Held d next (b ++ x ∷ [])) (sym is)
          (subst (λ (s : State). Held d s (b ++ 123 ∷ [])) (some_is f.1) (object_starts fs d h.0 b h.1 (ltb-true (length fs) d f.0)))
      | inr f ↦ none_some f.1
    ]
on_value_sound d fs closing c next b is h e = none_some e
on_value_sound d fs opening_array c next b is h e =
    elim (pick (nat_lt (length fs) d) _ _ next e) [
      | inl f ↦ subst (λ (x : ℕ). Held d next (b ++ x ∷ [])) (sym is)
          (subst (λ (s : State). Held d s (b ++ 91 ∷ [])) (some_is f.1) (array_starts fs d h.0 b h.1 (ltb-true (length fs) d f.0)))
      | inr f ↦ none_some f.1
    ]
on_value_sound d fs closing_array c next b is h e = none_some e
on_value_sound d fs colon c next b is h e = none_some e
on_value_sound d fs comma c next b is h e = none_some e
on_value_sound d fs other c next b is h e = none_some e
on_value_sound d fs (begins x) c next b is h e = subst (λ (s : State). Held d s (b ++ c ∷ [])) (some_is e) (token_starts fs d h.0 b c x h.1 is)
