-- Completeness: the state machine reads every text of the grammar, and returns its tree.
use Rattle.std.proofs.Common.{◌≡◌, ℕ, zero, suc, ◌+◌, ◌<◌, inl, inr, List, [], ◌∷◌, ◌++◌, length, Some, None, if◌then◌else◌, refl, ap, sym, ◌∙◌, subst, arith, append_assoc, append-nil, lt-ltb}
use Rattle.mes_json.specs.Tree.{Tree, Items, Members}
use Rattle.mes_json.specs.Tree.Tree.{null, boolean, number, string, array, object}
use Rattle.mes_json.specs.Tree.Items.{no_items, item}
use Rattle.mes_json.specs.Tree.Members.{no_members, member}
use Rattle.mes_json.specs.Grammar.{IsSpaces, IsString, Spaced, IsMember, IsValue, AreItems, MoreItems, AreMembers, MoreMembers, IsText}
use Rattle.mes_json.specs.Machine.{State, Frame, start, step, run, ends, with_item, with_member, kind_of, on_value, on_first_item, on_name, on_after}
use Rattle.mes_json.specs.Machine.State.{state}
use Rattle.mes_json.specs.Machine.Frame.{frame, array_frame}
use Rattle.mes_json.specs.Machine.ByteClass.{blank}
use Rattle.mes_json.specs.Machine.ReaderState.{value, first_item, name, after}
use Rattle.mes_json.proofs.Reach.{Follows, Reaches, Leads, leads, by_byte, then_to, reach_then, lead_then, over_spaces, follows_spaces}
use Rattle.mes_json.proofs.StringReads.{over_string, over_spaced_name}
use Rattle.mes_json.proofs.TokenReads.{over_null, over_boolean, over_number}
use Rattle.mes_json.proofs.ArrayReads.{over_first, joined_items, joined_items_next, follows_more_items, opens_array, close_empty_array, close_last_item}

after_spaces : (d : ℕ) (fs : List Frame) (t : Tree) (b : List ℕ) → IsSpaces b → Reaches d (state fs (after t)) b (state fs (after t))
after_spaces d fs t b h = over_spaces d _ (λ c e. ap (on_after fs t) e) b h

over_spaced : (d : ℕ) (s : State) (fs : List Frame) (t : Tree) (It : List ℕ → Type 0) (b : List ℕ) → ((c : ℕ) → kind_of c ≡ blank → step d s c ≡ Some s)
    → ((x : List ℕ) → It x → Leads d s x (state fs (after t))) → Spaced It b → Leads d s b (state fs (after t))
over_spaced d s fs t It b same over h =
    subst (λ (x : List ℕ). Leads d s x (state fs (after t))) (sym h.is)
    (reach_then d _ _ _ h.before (h.inside ++ h.after) (over_spaces d s same h.before h.spaces_before)
    (lead_then d _ _ _ h.inside h.after (follows_spaces h.after h.spaces_after) (over h.inside h.has) (leads d _ _ h.after (after_spaces d fs t h.after h.spaces_after))))

over_spaced_value : (d : ℕ) (fs : List Frame) (t : Tree) (It : List ℕ → Type 0) (b : List ℕ) → ((x : List ℕ) → It x → Leads d (state fs value) x (state fs (after t)))
    → Spaced It b → Leads d (state fs value) b (state fs (after t))
over_spaced_value d fs t It b over h = over_spaced d (state fs value) fs t It b (λ c e. ap (on_value d fs) e) over h

over_member : (d : ℕ) (fs : List Frame) (ms : Members) (k : List ℕ) (t : Tree) (It : List ℕ → Type 0) (b : List ℕ)
    → ((x : List ℕ) → It x → Leads d (state (frame ms k ∷ fs) value) x (state (frame ms k ∷ fs) (after t)))
    → IsMember (IsString k) It b → Leads d (state fs (name ms)) b (state (frame ms k ∷ fs) (after t))
over_member d fs ms k t It b over h =
    subst (λ (x : List ℕ). Leads d (state fs (name ms)) x (state (frame ms k ∷ fs) (after t))) (sym h.is)
    (reach_then d _ _ _ h.name (58 ∷ h.value) (over_spaced_name d fs ms k h.name h.is_name)
    (reach_then d _ _ _ (58 ∷ []) h.value (by_byte d _ _ 58 refl) (over_spaced_value d (frame ms k ∷ fs) t It h.value over h.is_value)))

abbrev pub joined : Members → Members → Members
joined no_members others = others
joined (member k t ms) others = member k t (joined ms others)

pub joined_none : (ms : Members) → joined ms no_members ≡ ms
joined_none no_members = refl
joined_none (member k t ms) = ap (member k t) (joined_none ms)

pub joined_next : (ms : Members) (k : List ℕ) (t : Tree) (others : Members) → joined (with_member ms k t) others ≡ joined ms (member k t others)
joined_next no_members k t others = refl
joined_next (member j u ms) k t others = ap (member j u) (joined_next ms k t others)

follows_more : (ms : Members) (room : ℕ) (b : List ℕ) → MoreMembers ms room b → (q : List ℕ) → Follows ((b ++ 125 ∷ []) ++ q)
follows_more no_members room b e q = subst (λ (x : List ℕ). Follows ((x ++ 125 ∷ []) ++ q)) (sym e) (inr (inr (inr refl)))
follows_more (member k t ms) room b (rest, e, h) q = subst (λ (x : List ℕ). Follows ((x ++ 125 ∷ []) ++ q)) (sym e) (inr (inl refl))

opens : (d : ℕ) (fs : List Frame) (room : ℕ) → length fs + suc room ≡ d → step d (state fs value) 123 ≡ Some (state fs (name no_members))
opens d fs room e =
    let l : length fs < d = omega arith in
    ap (λ t. if t then Some (state fs (name no_members)) else None) (lt-ltb (length fs) d l)

close_none : (d : ℕ) (fs : List Frame) (b : List ℕ) → IsSpaces b → Reaches d (state fs (name no_members)) (b ++ 125 ∷ []) (state fs (after (object no_members)))
close_none d fs b h = then_to d _ _ _ b (125 ∷ []) (over_spaces d _ (λ c e. ap (on_name fs no_members) e) b h) (by_byte d _ _ 125 refl)

close_last : (d : ℕ) (fs : List Frame) (so : Members) (k : List ℕ) (t : Tree) (b : List ℕ) → b ≡ []
    → Leads d (state (frame so k ∷ fs) (after t)) (b ++ 125 ∷ []) (state fs (after (object (joined (with_member so k t) no_members))))
close_last d fs so k t b e =
    subst (λ (x : List ℕ). Leads d (state (frame so k ∷ fs) (after t)) (x ++ 125 ∷ []) (state fs (after (object (joined (with_member so k t) no_members))))) (sym e)
    (subst (λ (ms : Members). Leads d (state (frame so k ∷ fs) (after t)) (125 ∷ []) (state fs (after (object ms)))) (sym (joined_none (with_member so k t)))
    (leads d _ _ (125 ∷ []) (by_byte d _ _ 125 refl)))

-- over the bytes of a value, with nesting limit d and `room` more levels allowed
mutual
  over_tree : (t : Tree) (d : ℕ) (fs : List Frame) (room : ℕ) (b : List ℕ) → length fs + room ≡ d → IsValue t room b → Leads d (state fs value) b (state fs (after t))
  over_tree null d fs room b l h = leads d _ _ b (subst (λ (x : List ℕ). Reaches d (state fs value) x (state fs (after null))) (sym h) (over_null d fs))
  over_tree (boolean y) d fs room b l h = leads d _ _ b (subst (λ (x : List ℕ). Reaches d (state fs value) x (state fs (after (boolean y)))) (sym h) (over_boolean d fs y))
  over_tree (number n) d fs room b l h = subst (λ (x : List ℕ). Leads d (state fs value) x (state fs (after (number n)))) (sym h.0) (over_number d fs n h.1)
  over_tree (string s) d fs room b l h = leads d _ _ b (over_string d fs s b h)
  over_tree (array ts) d fs zero b l h = absurd h
  over_tree (array ts) d fs (suc room) b l h =
      subst (λ (x : List ℕ). Leads d (state fs value) x (state fs (after (array ts)))) (sym h.1)
      (reach_then d _ _ _ (91 ∷ []) (h.0 ++ 93 ∷ []) (by_byte d _ _ 91 (opens_array d fs room l)) (over_items ts d fs room h.0 l h.2))
  over_tree (object ms) d fs zero b l h = absurd h
  over_tree (object ms) d fs (suc room) b l h =
      subst (λ (x : List ℕ). Leads d (state fs value) x (state fs (after (object ms)))) (sym h.1)
      (reach_then d _ _ _ (123 ∷ []) (h.0 ++ 125 ∷ []) (by_byte d _ _ 123 (opens d fs room l)) (over_members ms d fs room h.0 l h.2))

  over_items : (ts : Items) (d : ℕ) (fs : List Frame) (room : ℕ) (b : List ℕ) → length fs + suc room ≡ d → AreItems ts room b
      → Leads d (state fs first_item) (b ++ 93 ∷ []) (state fs (after (array ts)))
  over_items no_items d fs room b l h = leads d _ _ (b ++ 93 ∷ []) (close_empty_array d fs b h)
  over_items (item t ts) d fs room b l h =
      subst (λ (x : List ℕ). Leads d (state fs first_item) x (state fs (after (array (item t ts))))) (sym (ap (λ (x : List ℕ). x ++ 93 ∷ []) h.is ∙ append_assoc h.first h.rest (93 ∷ [])))
      (lead_then d _ _ _ h.first (h.rest ++ 93 ∷ []) (λ q _. follows_more_items ts room h.rest h.is_rest q)
      (over_spaced d (state fs first_item) (array_frame no_items ∷ fs) t (IsValue t room) h.first (λ c e. ap (on_first_item d fs) e)
      (λ x g. over_first t d fs room x _ g (over_tree t d (array_frame no_items ∷ fs) room x (omega arith) g)) h.is_first)
      (over_more_items ts d fs no_items t room h.rest l h.is_rest))

  over_more_items : (ts : Items) (d : ℕ) (fs : List Frame) (so : Items) (t : Tree) (room : ℕ) (b : List ℕ) → length fs + suc room ≡ d → MoreItems ts room b
      → Leads d (state (array_frame so ∷ fs) (after t)) (b ++ 93 ∷ []) (state fs (after (array (joined_items (with_item so t) ts))))
  over_more_items no_items d fs so t room b l h = close_last_item d fs so t b h
  over_more_items (item u ts) d fs so t room b l h =
      subst (λ (x : List ℕ). Leads d (state (array_frame so ∷ fs) (after t)) x (state fs (after (array (joined_items (with_item so t) (item u ts))))))
      (sym (ap (λ (x : List ℕ). x ++ 93 ∷ []) h.1 ∙ ap (λ (x : List ℕ). 44 ∷ (x ++ 93 ∷ [])) h.2.is ∙ ap (λ (x : List ℕ). 44 ∷ x) (append_assoc h.2.first h.2.rest (93 ∷ []))))
      (subst (λ (x : Items). Leads d (state (array_frame so ∷ fs) (after t)) (44 ∷ (h.2.first ++ (h.2.rest ++ 93 ∷ []))) (state fs (after (array x)))) (joined_items_next (with_item so t) u ts)
      (reach_then d _ _ _ (44 ∷ []) (h.2.first ++ (h.2.rest ++ 93 ∷ [])) (by_byte d _ (state (array_frame (with_item so t) ∷ fs) value) 44 refl)
      (lead_then d _ _ _ h.2.first (h.2.rest ++ 93 ∷ []) (λ q _. follows_more_items ts room h.2.rest h.2.is_rest q)
      (over_spaced_value d (array_frame (with_item so t) ∷ fs) u (IsValue u room) h.2.first (λ x g. over_tree u d (array_frame (with_item so t) ∷ fs) room x (omega arith) g) h.2.is_first)
      (over_more_items ts d fs (with_item so t) u room h.2.rest l h.2.is_rest))))

  over_members : (ms : Members) (d : ℕ) (fs : List Frame) (room : ℕ) (b : List ℕ) → length fs + suc room ≡ d → AreMembers ms room b
      → Leads d (state fs (name no_members)) (b ++ 125 ∷ []) (state fs (after (object ms)))
  over_members no_members d fs room b l h = leads d _ _ (b ++ 125 ∷ []) (close_none d fs b h)
  over_members (member k t ms) d fs room b l h =
      subst (λ (x : List ℕ). Leads d (state fs (name no_members)) x (state fs (after (object (member k t ms))))) (sym (ap (λ (x : List ℕ). x ++ 125 ∷ []) h.is ∙ append_assoc h.first h.rest (125 ∷ [])))
      (lead_then d _ _ _ h.first (h.rest ++ 125 ∷ []) (λ q _. follows_more ms room h.rest h.is_rest q)
      (over_member d fs no_members k t (IsValue t room) h.first (λ x g. over_tree t d (frame no_members k ∷ fs) room x (omega arith) g) h.is_first)
      (over_more ms d fs no_members k t room h.rest l h.is_rest))

  over_more : (ms : Members) (d : ℕ) (fs : List Frame) (so : Members) (k : List ℕ) (t : Tree) (room : ℕ) (b : List ℕ) → length fs + suc room ≡ d → MoreMembers ms room b
      → Leads d (state (frame so k ∷ fs) (after t)) (b ++ 125 ∷ []) (state fs (after (object (joined (with_member so k t) ms))))
  over_more no_members d fs so k t room b l h = close_last d fs so k t b h
  over_more (member j u ms) d fs so k t room b l h =
      subst (λ (x : List ℕ). Leads d (state (frame so k ∷ fs) (after t)) x (state fs (after (object (joined (with_member so k t) (member j u ms))))))
      (sym (ap (λ (x : List ℕ). x ++ 125 ∷ []) h.1 ∙ ap (λ (x : List ℕ). 44 ∷ (x ++ 125 ∷ [])) h.2.is ∙ ap (λ (x : List ℕ). 44 ∷ x) (append_assoc h.2.first h.2.rest (125 ∷ []))))
      (subst (λ (x : Members). Leads d (state (frame so k ∷ fs) (after t)) (44 ∷ (h.2.first ++ (h.2.rest ++ 125 ∷ []))) (state fs (after (object x)))) (joined_next (with_member so k t) j u ms)
      (reach_then d _ _ _ (44 ∷ []) (h.2.first ++ (h.2.rest ++ 125 ∷ [])) (by_byte d _ (state fs (name (with_member so k t))) 44 refl)
      (lead_then d _ _ _ h.2.first (h.2.rest ++ 125 ∷ []) (λ q _. follows_more ms room h.2.rest h.2.is_rest q)
      (over_member d fs (with_member so k t) j u (IsValue u room) h.2.first (λ x g. over_tree u d (frame (with_member so k t) j ∷ fs) room x (omega arith) g) h.2.is_first)
      (over_more ms d fs (with_member so k t) j u room h.2.rest l h.2.is_rest))))

pub complete_text : (d : ℕ) (b : List ℕ) (t : Tree) → IsText d b t → ends d start b ≡ Some t
unfolding run
complete_text d b t h = ap (ends d start) (sym (append-nil b)) ∙ over_spaced_value d [] t (IsValue t d) b (λ x g. over_tree t d [] d x (omega arith) g) h [] tt ∙ ended
  where
    ended : ends d (state [] (after t)) [] ≡ Some t
    ended = refl

pub one_text : (d : ℕ) (b : List ℕ) (t u : Tree) → IsText d b t → IsText d b u → t ≡ u
one_text d b t u h k =
    let e : ends d start b ≡ Some t = complete_text d b t h in
    let f : ends d start b ≡ Some u = complete_text d b u k in
    let g : Some t ≡ Some u = sym e ∙ f in
    cc
