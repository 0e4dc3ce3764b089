-- Soundness: after a step of the state machine in an array, the bytes so far have the form that the
-- grammar requires in the new state (`Held`).
use Rattle.std.proofs.Common.{◌≡◌, ℕ, suc, List, [], ◌∷◌, ◌++◌, Some, refl, ap, sym, ◌∙◌, subst, append_assoc, append-nil}
use Rattle.mes_json.specs.Tree.{Tree, Items}
use Rattle.mes_json.specs.Tree.Tree.{array}
use Rattle.mes_json.specs.Tree.Items.{no_items, item}
use Rattle.mes_json.specs.Grammar.{IsSpaces, Spaced, IsValue, AreItems, MoreItems}
use Rattle.mes_json.specs.Machine.{State, Frame, ByteClass, with_item, on_first_item}
use Rattle.mes_json.specs.Machine.State.{state}
use Rattle.mes_json.specs.Machine.Frame.{array_frame}
use Rattle.mes_json.specs.Machine.ByteClass.{blank, quote, opening, closing, opening_array, closing_array, colon, comma, other, begins}
use Rattle.mes_json.specs.Machine.ReaderState.{value, first_item, after}
use Rattle.mes_json.proofs.Held.{BeforeItem, InArray, HeldStack, Valued, Held}
use Rattle.mes_json.proofs.SoundLemmas.{some_is, none_some, KindIs, push, array_space, on_value_sound}

more_items : (ts : Items) (t : Tree) (room : ℕ) (b m : List ℕ) → MoreItems ts room b → Spaced (IsValue t room) m → MoreItems (with_item ts t) room (b ++ 44 ∷ m)
more_items no_items t room b m e h = (m, ap (λ (x : List ℕ). x ++ 44 ∷ m) e, record { first = m; rest = []; is = sym (append-nil m); is_first = h; is_rest = refl })
more_items (item u ts) t room b m (rest, e, g) h = (
  rest ++ 44 ∷ m,
  ap (λ (x : List ℕ). x ++ 44 ∷ m) e,
  record {
    first = g.first;
    rest = g.rest ++ 44 ∷ m;
    is = ap (λ (x : List ℕ). x ++ 44 ∷ m) g.is ∙ append_assoc g.first g.rest (44 ∷ m);
    is_first = g.is_first;
    is_rest = more_items ts t room g.rest m g.is_rest h;
  },
)

add_item : (ts : Items) (t : Tree) (room : ℕ) (b m : List ℕ) → BeforeItem ts room b → Spaced (IsValue t room) m → AreItems (with_item ts t) room (b ++ m)
add_item no_items t room b m e h = record { first = m; rest = []; is = ap (λ (x : List ℕ). x ++ m) e ∙ sym (append-nil m); is_first = h; is_rest = refl }
add_item (item u ts) t room b m (front, e, g) h =
    record {
      first = g.first;
      rest = g.rest ++ 44 ∷ m;
      is = ap (λ (x : List ℕ). x ++ m) e ∙ append_assoc front (44 ∷ []) m ∙ ap (λ (x : List ℕ). x ++ 44 ∷ m) g.is ∙ append_assoc g.first g.rest (44 ∷ m);
      is_first = g.is_first;
      is_rest = more_items ts t room g.rest m g.is_rest h;
    }

before_next : (ts : Items) (t : Tree) (room : ℕ) (b : List ℕ) → AreItems (with_item ts t) room b → BeforeItem (with_item ts t) room (b ++ 44 ∷ [])
before_next no_items t room b h = (b, refl, h)
before_next (item u ts) t room b h = (b, refl, h)

empty_closes : (fs : List Frame) (d room : ℕ) (b : List ℕ) → InArray (HeldStack d fs) no_items room b → Held d (state fs (after (array no_items))) (b ++ 93 ∷ [])
empty_closes fs d room b h = (
  suc room,
  record {
    front = h.outer;
    inside = 91 ∷ ((h.led ++ h.spaces) ++ 93 ∷ []);
    spaces = [];
    is = push b h.outer (91 ∷ (h.led ++ h.spaces)) 93 h.is ∙ ap (λ (x : List ℕ). h.outer ++ x) (sym (append-nil (91 ∷ ((h.led ++ h.spaces) ++ 93 ∷ []))));
    outside = h.outside;
    is_value = (h.led ++ h.spaces, refl, subst (λ (x : List ℕ). IsSpaces (x ++ h.spaces)) (sym h.before) h.are_spaces);
    are_spaces = tt;
  },
)

pub on_first_item_sound : (d : ℕ) (fs : List Frame) (k : ByteClass) (c : ℕ) (next : State) (b : List ℕ) → KindIs k c → Held d (state fs first_item) b
    → on_first_item d fs k ≡ Some next → Held d next (b ++ c ∷ [])
on_first_item_sound d fs blank c next b is h e = subst (λ (s : State). Held d s (b ++ c ∷ [])) (some_is e) (h.0, array_space (HeldStack d fs) no_items h.0 b c h.1 is)
on_first_item_sound d fs quote c next b is h e = on_value_sound d (array_frame no_items ∷ fs) quote c next b is h e
on_first_item_sound d fs opening c next b is h e = on_value_sound d (array_frame no_items ∷ fs) opening c next b is h e
on_first_item_sound d fs closing c next b is h e = none_some e
on_first_item_sound d fs opening_array c next b is h e = on_value_sound d (array_frame no_items ∷ fs) opening_array c next b is h e
on_first_item_sound d fs closing_array c next b is h e =
    subst (λ (x : ℕ). Held d next (b ++ x ∷ [])) (sym is) (subst (λ (s : State). Held d s (b ++ 93 ∷ [])) (some_is e) (empty_closes fs d h.0 b h.1))
on_first_item_sound d fs colon c next b is h e = none_some e
on_first_item_sound d fs comma c next b is h e = none_some e
on_first_item_sound d fs other c next b is h e = none_some e
on_first_item_sound d fs (begins x) c next b is h e = on_value_sound d (array_frame no_items ∷ fs) (begins x) c next b is h e

-- the bytes b end in an open array with the items ts and then the item t
pub record ArrayReady (d : ℕ) (fs : List Frame) (ts : Items) (t : Tree) (room : ℕ) (b : List ℕ) : Type 0 where
  pub outer : List ℕ
  pub items : List ℕ
  pub is : b ≡ outer ++ 91 ∷ items
  pub outside : HeldStack d fs (suc room) outer
  pub are_items : AreItems (with_item ts t) room items

regroup : (outer led s y : List ℕ) → (outer ++ 91 ∷ (led ++ s)) ++ y ≡ outer ++ 91 ∷ (led ++ (s ++ y))
regroup outer led s y = simp append_assoc

pub array_ready : (d : ℕ) (fs : List Frame) (ts : Items) (t : Tree) (room : ℕ) (b : List ℕ) → Valued (HeldStack d (array_frame ts ∷ fs) room) t room b → ArrayReady d fs ts t room b
array_ready d fs ts t room b v =
    let a = v.outside in
    let m : List ℕ = a.spaces ++ (v.inside ++ v.spaces) in
    let is_item : Spaced (IsValue t room) m =
    record { before = a.spaces; inside = v.inside; after = v.spaces; is = refl; spaces_before = a.are_spaces; has = v.is_value; spaces_after = v.are_spaces } in
    record {
      outer = a.outer;
      items = a.led ++ m;
      is = v.is ∙ ap (λ (x : List ℕ). x ++ (v.inside ++ v.spaces)) a.is ∙ regroup a.outer a.led a.spaces (v.inside ++ v.spaces);
      outside = a.outside;
      are_items = add_item ts t room a.led m a.before is_item;
    }

pub array_closes : (d : ℕ) (fs : List Frame) (ts : Items) (t : Tree) (room : ℕ) (b : List ℕ) → ArrayReady d fs ts t room b
    → Held d (state fs (after (array (with_item ts t)))) (b ++ 93 ∷ [])
array_closes d fs ts t room b r = (
  suc room,
  record {
    front = r.outer;
    inside = 91 ∷ (r.items ++ 93 ∷ []);
    spaces = [];
    is = push b r.outer (91 ∷ r.items) 93 r.is ∙ ap (λ (x : List ℕ). r.outer ++ x) (sym (append-nil (91 ∷ (r.items ++ 93 ∷ []))));
    outside = r.outside;
    is_value = (r.items, refl, r.are_items);
    are_spaces = tt;
  },
)

pub item_is_due : (d : ℕ) (fs : List Frame) (ts : Items) (t : Tree) (room : ℕ) (b : List ℕ) → ArrayReady d fs ts t room b
    → Held d (state (array_frame (with_item ts t) ∷ fs) value) (b ++ 44 ∷ [])
item_is_due d fs ts t room b r = (
  room,
  record {
    outer = r.outer;
    led = r.items ++ 44 ∷ [];
    spaces = [];
    is = push b r.outer (91 ∷ r.items) 44 r.is ∙ ap (λ (x : List ℕ). r.outer ++ 91 ∷ x) (sym (append-nil (r.items ++ 44 ∷ [])));
    outside = r.outside;
    before = before_next ts t room r.items r.are_items;
    are_spaces = tt;
  },
)
