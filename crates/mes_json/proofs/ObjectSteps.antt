-- Soundness: after a step of the state machine in an object, the bytes so far have the form that
-- the grammar requires in the new state (`Held`).
use Rattle.std.proofs.Common.{◌≡◌, ℕ, suc, List, [], ◌∷◌, ◌++◌, Some, refl, ap, sym, ◌∙◌, subst, append_assoc, append-nil}
use Rattle.mes_json.specs.Tree.{Tree, Members}
use Rattle.mes_json.specs.Tree.Tree.{object}
use Rattle.mes_json.specs.Tree.Members.{no_members, member}
use Rattle.mes_json.specs.Grammar.{IsSpaces, IsString, IsMember, IsValue, AreMembers, MoreMembers}
use Rattle.mes_json.specs.Machine.{State, Frame, ByteClass, with_member, on_name, close_empty, on_named}
use Rattle.mes_json.specs.Machine.State.{state}
use Rattle.mes_json.specs.Machine.Frame.{frame}
use Rattle.mes_json.specs.Machine.ByteClass.{blank, quote, opening, closing, opening_array, closing_array, colon, comma, other, begins}
use Rattle.mes_json.specs.Machine.ReaderState.{value, name, named, after}
use Rattle.mes_json.proofs.Held.{Before, InObject, HeldStack, Valued, Held}
use Rattle.mes_json.proofs.SoundLemmas.{some_is, none_some, KindIs, push, object_space, named_space, quote_starts}

more_members : (ms : Members) (k : List ℕ) (t : Tree) (room : ℕ) (b m : List ℕ) → MoreMembers ms room b → IsMember (IsString k) (IsValue t room) m
    → MoreMembers (with_member ms k t) room (b ++ 44 ∷ m)
more_members no_members k t room b m e h = (m, ap (λ (x : List ℕ). x ++ 44 ∷ m) e, record { first = m; rest = []; is = sym (append-nil m); is_first = h; is_rest = refl })
more_members (member j u ms) k t room b m (rest, e, g) h = (
  rest ++ 44 ∷ m,
  ap (λ (x : List ℕ). x ++ 44 ∷ m) e,
  record {
    first = g.first;
    rest = g.rest ++ 44 ∷ m;
    is = ap (λ (x : List ℕ). x ++ 44 ∷ m) g.is ∙ append_assoc g.first g.rest (44 ∷ m);
    is_first = g.is_first;
    is_rest = more_members ms k t room g.rest m g.is_rest h;
  },
)

add_member : (ms : Members) (k : List ℕ) (t : Tree) (room : ℕ) (b m : List ℕ) → Before ms room b → IsMember (IsString k) (IsValue t room) m
    → AreMembers (with_member ms k t) room (b ++ m)
add_member no_members k t room b m e h = record { first = m; rest = []; is = ap (λ (x : List ℕ). x ++ m) e ∙ sym (append-nil m); is_first = h; is_rest = refl }
add_member (member j u ms) k t room b m (front, e, g) h =
    record {
      first = g.first;
      rest = g.rest ++ 44 ∷ m;
      is = ap (λ (x : List ℕ). x ++ m) e ∙ append_assoc front (44 ∷ []) m ∙ ap (λ (x : List ℕ). x ++ 44 ∷ m) g.is ∙ append_assoc g.first g.rest (44 ∷ m);
      is_first = g.is_first;
      is_rest = more_members ms k t room g.rest m g.is_rest h;
    }

before_next : (ms : Members) (k : List ℕ) (t : Tree) (room : ℕ) (b : List ℕ) → AreMembers (with_member ms k t) room b → Before (with_member ms k t) room (b ++ 44 ∷ [])
before_next no_members k t room b h = (b, refl, h)
before_next (member j u ms) k t room b h = (b, refl, h)

empty_closes : (fs : List Frame) (d room : ℕ) (b : List ℕ) → InObject (HeldStack d fs) no_members room b → Held d (state fs (after (object no_members))) (b ++ 125 ∷ [])
empty_closes fs d room b h = (
  suc room,
  record {
    front = h.outer;
    inside = 123 ∷ ((h.led ++ h.spaces) ++ 125 ∷ []);
    spaces = [];
    is = push b h.outer (123 ∷ (h.led ++ h.spaces)) 125 h.is ∙ ap (λ (x : List ℕ). h.outer ++ x) (sym (append-nil (123 ∷ ((h.led ++ h.spaces) ++ 125 ∷ []))));
    outside = h.outside;
    is_value = (h.led ++ h.spaces, refl, subst (λ (x : List ℕ). IsSpaces (x ++ h.spaces)) (sym h.before) h.are_spaces);
    are_spaces = tt;
  },
)

close_empty_sound : (d : ℕ) (fs : List Frame) (ms : Members) (next : State) (b : List ℕ) → Held d (state fs (name ms)) b → close_empty fs ms ≡ Some next
    → Held d next (b ++ 125 ∷ [])
close_empty_sound d fs no_members next b h e = subst (λ (s : State). Held d s (b ++ 125 ∷ [])) (some_is e) (empty_closes fs d h.0 b h.1)
close_empty_sound d fs (member k t ms) next b h e = none_some e

pub on_name_sound : (d : ℕ) (fs : List Frame) (ms : Members) (k : ByteClass) (c : ℕ) (next : State) (b : List ℕ) → KindIs k c → Held d (state fs (name ms)) b
    → on_name fs ms k ≡ Some next → Held d next (b ++ c ∷ [])
on_name_sound d fs ms blank c next b is h e = subst (λ (s : State). Held d s (b ++ c ∷ [])) (some_is e) (h.0, object_space (HeldStack d fs) ms h.0 b c h.1 is)
on_name_sound d fs ms quote c next b is h e =
    subst (λ (x : ℕ). Held d next (b ++ x ∷ [])) (sym is) (subst (λ (s : State). Held d s (b ++ 34 ∷ [])) (some_is e) (h.0, quote_starts (InObject (HeldStack d fs) ms h.0) b h.1))
on_name_sound d fs ms opening c next b is h e = none_some e
on_name_sound d fs ms closing c next b is h e = subst (λ (x : ℕ). Held d next (b ++ x ∷ [])) (sym is) (close_empty_sound d fs ms next b h e)
on_name_sound d fs ms opening_array c next b is h e = none_some e
on_name_sound d fs ms closing_array c next b is h e = none_some e
on_name_sound d fs ms colon c next b is h e = none_some e
on_name_sound d fs ms comma c next b is h e = none_some e
on_name_sound d fs ms other c next b is h e = none_some e
on_name_sound d fs ms (begins x) c next b is h e = none_some e

name_called : (d : ℕ) (fs : List Frame) (ms : Members) (k : List ℕ) (b : List ℕ) → Held d (state fs (named ms k)) b → Held d (state (frame ms k ∷ fs) value) (b ++ 58 ∷ [])
name_called d fs ms k b h = (h.0, record { front = b; spaces = []; is = refl; name = h.1; are_spaces = tt })

pub on_named_sound : (d : ℕ) (fs : List Frame) (ms : Members) (k : List ℕ) (kind : ByteClass) (c : ℕ) (next : State) (b : List ℕ) → KindIs kind c → Held d (state fs (named ms k)) b
    → on_named fs ms k kind ≡ Some next → Held d next (b ++ c ∷ [])
on_named_sound d fs ms k blank c next b is h e = subst (λ (s : State). Held d s (b ++ c ∷ [])) (some_is e) (h.0, named_space (HeldStack d fs) ms k h.0 b c h.1 is)
on_named_sound d fs ms k quote c next b is h e = none_some e
on_named_sound d fs ms k opening c next b is h e = none_some e
on_named_sound d fs ms k closing c next b is h e = none_some e
on_named_sound d fs ms k opening_array c next b is h e = none_some e
on_named_sound d fs ms k closing_array c next b is h e = none_some e
on_named_sound d fs ms k colon c next b is h e =
    subst (λ (x : ℕ). Held d next (b ++ x ∷ [])) (sym is) (subst (λ (s : State). Held d s (b ++ 58 ∷ [])) (some_is e) (name_called d fs ms k b h))
on_named_sound d fs ms k comma c next b is h e = none_some e
on_named_sound d fs ms k other c next b is h e = none_some e
on_named_sound d fs ms k (begins x) c next b is h e = none_some e

-- the bytes b end in an open object with the members ms and then a member with name k and value t
pub record Ready (d : ℕ) (fs : List Frame) (ms : Members) (k : List ℕ) (t : Tree) (room : ℕ) (b : List ℕ) : Type 0 where
  pub outer : List ℕ
  pub members : List ℕ
  pub is : b ≡ outer ++ 123 ∷ members
  pub outside : HeldStack d fs (suc room) outer
  pub are_members : AreMembers (with_member ms k t) room members

regroup : (outer led s x c y : List ℕ) → (((outer ++ 123 ∷ (led ++ s)) ++ x) ++ 58 ∷ c) ++ y ≡ outer ++ 123 ∷ (led ++ ((s ++ x) ++ 58 ∷ (c ++ y)))
regroup outer led s x c y = simp append_assoc

pub ready : (d : ℕ) (fs : List Frame) (ms : Members) (k : List ℕ) (t : Tree) (room : ℕ) (b : List ℕ) → Valued (HeldStack d (frame ms k ∷ fs) room) t room b
    → Ready d fs ms k t room b
ready d fs ms k t room b v =
    let c = v.outside in
    let n = c.name in
    let o = n.object in
    let m : List ℕ = (o.spaces ++ (n.inside ++ n.spaces)) ++ 58 ∷ (c.spaces ++ (v.inside ++ v.spaces)) in
    let is_member : IsMember (IsString k) (IsValue t room) m = record {
      name = o.spaces ++ (n.inside ++ n.spaces);
      value = c.spaces ++ (v.inside ++ v.spaces);
      is = refl;
      is_name = record { before = o.spaces; inside = n.inside; after = n.spaces; is = refl; spaces_before = o.are_spaces; has = n.is_name; spaces_after = n.are_spaces };
      is_value = record { before = c.spaces; inside = v.inside; after = v.spaces; is = refl; spaces_before = c.are_spaces; has = v.is_value; spaces_after = v.are_spaces };
    } in
    record {
      outer = o.outer;
      members = o.led ++ m;
      is = v.is ∙ ap (λ (x : List ℕ). x ++ (v.inside ++ v.spaces)) c.is ∙ ap (λ (x : List ℕ). (x ++ 58 ∷ c.spaces) ++ (v.inside ++ v.spaces)) n.is
          ∙ ap (λ (x : List ℕ). ((x ++ (n.inside ++ n.spaces)) ++ 58 ∷ c.spaces) ++ (v.inside ++ v.spaces)) o.is
          ∙ regroup o.outer o.led o.spaces (n.inside ++ n.spaces) c.spaces (v.inside ++ v.spaces);
      outside = o.outside;
      are_members = add_member ms k t room o.led m o.before is_member;
    }

pub object_closes : (d : ℕ) (fs : List Frame) (ms : Members) (k : List ℕ) (t : Tree) (room : ℕ) (b : List ℕ) → Ready d fs ms k t room b
    → Held d (state fs (after (object (with_member ms k t)))) (b ++ 125 ∷ [])
object_closes d fs ms k t room b r = (
  suc room,
  record {
    front = r.outer;
    inside = 123 ∷ (r.members ++ 125 ∷ []);
    spaces = [];
    is = push b r.outer (123 ∷ r.members) 125 r.is ∙ ap (λ (x : List ℕ). r.outer ++ x) (sym (append-nil (123 ∷ (r.members ++ 125 ∷ []))));
    outside = r.outside;
    is_value = (r.members, refl, r.are_members);
    are_spaces = tt;
  },
)

pub name_is_due : (d : ℕ) (fs : List Frame) (ms : Members) (k : List ℕ) (t : Tree) (room : ℕ) (b : List ℕ) → Ready d fs ms k t room b
    → Held d (state fs (name (with_member ms k t))) (b ++ 44 ∷ [])
name_is_due d fs ms k t room b r = (
  room,
  record {
    outer = r.outer;
    led = r.members ++ 44 ∷ [];
    spaces = [];
    is = push b r.outer (123 ∷ r.members) 44 r.is ∙ ap (λ (x : List ℕ). r.outer ++ 123 ∷ x) (sym (append-nil (r.members ++ 44 ∷ [])));
    outside = r.outside;
    before = before_next ms k t room r.members r.are_members;
    are_spaces = tt;
  },
)
