-- Completeness: the state machine reads the bytes around and between the items of an array.
use Rattle.std.proofs.Common.{◌≡◌, ℕ, zero, suc, ◌+◌, ◌<◌, inl, inr, true, false, List, [], ◌∷◌, ◌++◌, length, Some, None, option_and_then, if◌then◌else◌, refl, ap, sym, ◌∙◌, subst, arith, lt-ltb}
use Rattle.mes_json.specs.Tree.{Tree, Items}
use Rattle.mes_json.specs.Tree.Tree.{null, boolean, number, string, array, object}
use Rattle.mes_json.specs.Tree.Items.{no_items, item}
use Rattle.mes_json.specs.Grammar.{IsSpaces, IsValue, MoreItems}
use Rattle.mes_json.specs.Machine.{State, Frame, step, run, finish, ends, kind_of, with_item, on_value, on_first_item}
use Rattle.mes_json.specs.Machine.State.{state}
use Rattle.mes_json.specs.Machine.Frame.{array_frame}
use Rattle.mes_json.specs.Machine.ReaderState.{value, first_item, after}
use Rattle.mes_json.proofs.Reach.{Follows, Reaches, Leads, leads, by_byte, then_to, over_spaces}
use Rattle.mes_json.proofs.TokenReads.{number_starts}

-- at the first item of an array, the byte has the effect that it has at any value in the array
abbrev StartsValue : ℕ → Type 0
StartsValue c = (d : ℕ) (fs : List Frame) → on_first_item d fs (kind_of c) ≡ on_value d (array_frame no_items ∷ fs) (kind_of c)

abbrev Starts : List ℕ → Type 0
Starts b = (c : ℕ) × (rest : List ℕ) × (b ≡ c ∷ rest) × StartsValue c

value_starts : (t : Tree) (room : ℕ) (b : List ℕ) → IsValue t room b → Starts b
value_starts null room b h = (0x6E, _, h, λ d fs. refl)
value_starts (boolean true) room b h = (0x74, _, h, λ d fs. refl)
value_starts (boolean false) room b h = (0x66, _, h, λ d fs. refl)
value_starts (number n) room b h = let s = number_starts n h.1 in (s.1, s.2, h.0 ∙ s.3, λ d fs. ap (on_first_item d fs) s.4 ∙ sym (ap (on_value d (array_frame no_items ∷ fs)) s.4))
value_starts (string s) room b h = (34, _, h.is, λ d fs. refl)
value_starts (array ts) zero b h = absurd h
value_starts (array ts) (suc room) b h = (91, _, h.1, λ d fs. refl)
value_starts (object ms) zero b h = absurd h
value_starts (object ms) (suc room) b h = (123, _, h.1, λ d fs. refl)

pub over_first : (t : Tree) (d : ℕ) (fs : List Frame) (room : ℕ) (b : List ℕ) (last : State) → IsValue t room b
    → Leads d (state (array_frame no_items ∷ fs) value) b last → Leads d (state fs first_item) b last
unfolding run
over_first t d fs room b last h f = λ q g.
    let s = value_starts t room b h in
    let same : run d (state fs first_item) ((s.0 ∷ s.1) ++ q) ≡ run d (state (array_frame no_items ∷ fs) value) ((s.0 ∷ s.1) ++ q) =
    ap (option_and_then (λ next. run d next (s.1 ++ q))) (s.3 d fs) in
    ap (λ (x : List ℕ). ends d (state fs first_item) (x ++ q)) s.2 ∙ ap (option_and_then finish) same
    ∙ sym (ap (λ (x : List ℕ). ends d (state (array_frame no_items ∷ fs) value) (x ++ q)) s.2) ∙ f q g

-- the items ts and then the items `others`
abbrev pub joined_items : Items → Items → Items
joined_items no_items others = others
joined_items (item t ts) others = item t (joined_items ts others)

pub joined_items_none : (ts : Items) → joined_items ts no_items ≡ ts
joined_items_none no_items = refl
joined_items_none (item t ts) = ap (item t) (joined_items_none ts)

pub joined_items_next : (ts : Items) (t : Tree) (others : Items) → joined_items (with_item ts t) others ≡ joined_items ts (item t others)
joined_items_next no_items t others = refl
joined_items_next (item u ts) t others = ap (item u) (joined_items_next ts t others)

pub follows_more_items : (ts : Items) (room : ℕ) (b : List ℕ) → MoreItems ts room b → (q : List ℕ) → Follows ((b ++ 93 ∷ []) ++ q)
follows_more_items no_items room b e q = subst (λ (x : List ℕ). Follows ((x ++ 93 ∷ []) ++ q)) (sym e) (inr (inr (inl refl)))
follows_more_items (item t ts) room b (rest, e, h) q = subst (λ (x : List ℕ). Follows ((x ++ 93 ∷ []) ++ q)) (sym e) (inr (inl refl))

pub opens_array : (d : ℕ) (fs : List Frame) (room : ℕ) → length fs + suc room ≡ d → step d (state fs value) 91 ≡ Some (state fs first_item)
opens_array d fs room e =
    let l : length fs < d = omega arith in
    ap (λ t. if t then Some (state fs first_item) else None) (lt-ltb (length fs) d l)

pub close_empty_array : (d : ℕ) (fs : List Frame) (b : List ℕ) → IsSpaces b → Reaches d (state fs first_item) (b ++ 93 ∷ []) (state fs (after (array no_items)))
close_empty_array d fs b h = then_to d _ _ _ b (93 ∷ []) (over_spaces d _ (λ c e. ap (on_first_item d fs) e) b h) (by_byte d _ _ 93 refl)

pub close_last_item : (d : ℕ) (fs : List Frame) (so : Items) (t : Tree) (b : List ℕ) → b ≡ []
    → Leads d (state (array_frame so ∷ fs) (after t)) (b ++ 93 ∷ []) (state fs (after (array (joined_items (with_item so t) no_items))))
close_last_item d fs so t b e =
    subst (λ (x : List ℕ). Leads d (state (array_frame so ∷ fs) (after t)) (x ++ 93 ∷ []) (state fs (after (array (joined_items (with_item so t) no_items))))) (sym e)
    (subst (λ (ts : Items). Leads d (state (array_frame so ∷ fs) (after t)) (93 ∷ []) (state fs (after (array ts)))) (sym (joined_items_none (with_item so t)))
    (leads d _ _ (93 ∷ []) (by_byte d _ _ 93 refl)))
