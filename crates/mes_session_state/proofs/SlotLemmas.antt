-- A change to the entries of the map changes the list of offers in the same way.
use Rattle.std.proofs.Common.{◌≡◌, ℕ, Bool, true, false, cond, not, ◌||◌, List, [], ◌∷◌, ◌++◌, map, filter, Option, Some, None, String, string_bytes, is_some, unwrap_or, option_copied, Bor, refl, sym, ◌∙◌, ap, ap₂, true≢false}
use Rattle.std.specs.List.{IsDistinct, AllByRecursion}
use Rattle.std.specs.Str.{bytes_eq}
use Rattle.std.specs.Option.{option_map}
use Rattle.std.specs.Map.{keys_of, lookup, set_value, remove_entry}
use Rattle.std.specs.Cmp.Lexicographic.{bytes_decides}
use Rattle.indexmap.specs.IndexMap.{insert_entry}
use Rattle.mes_model.specs.Id.{Id}
use Rattle.mes_model.specs.Offer.{Offer}
use Rattle.mes_session_state.specs.declared.slot.Slot.{Slot}
use Rattle.mes_session_state.specs.Keeping.{put}
use Rattle.mes_session_state.specs.Held.{name_of, offer_in, without_offer, without_offers, names}
use Rattle.mes_session_state.specs.Slots.{offers_in, AreNamed, AreSettled, marked_at, marked, stays}

cond-map : (b : Bool) (x : Slot) (r : Option Offer) (q : Option Slot) → r ≡ option_map (λ (s : Slot). s.offer) q → cond b (Some x.offer) r ≡ option_map (λ (s : Slot). s.offer) (cond b (Some x) q)
cond-map true x r q e = refl
cond-map false x r q e = e

pub not-none : {X : Type 0} (x : X) → Some x ≡ None → ⊥
not-none x h = true≢false (ap is_some h)

filter-all : (os : List Offer) → os ≡ filter (λ o. not false) os
filter-all [] = refl
filter-all (o ∷ os) = ap (λ ps. o ∷ ps) (filter-all os)

filter-both : (p q : Offer → Bool) (os : List Offer) → filter (λ o. not (q o)) (filter (λ o. not (p o)) os) ≡ filter (λ o. not (p o || q o)) os
filter-both p q [] = refl
filter-both p q (o ∷ os) = by (p o) (filter-both p q os)
  where
    by : (b : Bool) → filter (λ o. not (q o)) (filter (λ o. not (p o)) os) ≡ filter (λ o. not (p o || q o)) os
        → filter (λ o. not (q o)) (cond (not b) (o ∷ filter (λ o. not (p o)) os) (filter (λ o. not (p o)) os)) ≡ cond (not (b || q o)) (o ∷ filter (λ o. not (p o || q o)) os) (filter (λ o. not (p o || q o)) os)
    by true rest = rest
    by false rest = λ j. cond (not (q o)) (o ∷ rest j) (rest j)

map-copied : (r : Option (Bor Slot)) → option_map (λ (s : Bor Slot). s.now.offer) r ≡ option_map (λ (s : Slot). s.offer) (option_copied r)
map-copied None = refl
map-copied (Some s) = refl

module _ {A : Type 0} where
  abbrev pub same_text : String A → String A → Bool
  same_text a b = bytes_eq (string_bytes a) (string_bytes b)

  -- ---- the entry of an identifier has the offer with that identifier

  pub looked_up : (name : List ℕ) (es : List (String A × Slot)) → AreSettled es → offer_in (offers_in es) name ≡ option_map (λ (s : Slot). s.offer) (lookup (λ k. bytes_eq name (string_bytes k)) es)
  looked_up name [] h = refl
  looked_up name (e ∷ es) h =
      ap (λ n. cond (bytes_eq name n) (Some e.1.offer) (offer_in (offers_in es) name)) (sym h.0)
      ∙ cond-map (bytes_eq name (string_bytes e.0)) e.1 (offer_in (offers_in es) name) (lookup (λ k. bytes_eq name (string_bytes k)) es) (looked_up name es h.2)

  pub found : (name : List ℕ) (es : List (String A × Slot)) (hand : List Offer) → AreSettled es → offers_in es ≡ hand → (r : Option (Bor Slot))
      → option_copied r ≡ lookup (λ k. bytes_eq name (string_bytes k)) es → option_map (λ (s : Bor Slot). s.now.offer) r ≡ offer_in hand name
  found name es hand h is r e =
      map-copied r
      ∙ ap (option_map (λ (s : Slot). s.offer)) e
      ∙ sym (looked_up name es h)
      ∙ ap (λ os. offer_in os name) is

  -- ---- inserting an entry

  offers-cond : (b : Bool) (xs ys : List (String A × Slot)) → offers_in (cond b xs ys) ≡ cond b (offers_in xs) (offers_in ys)
  offers-cond true xs ys = refl
  offers-cond false xs ys = refl

  module _ (k : String A) (v : Slot) (own : string_bytes k ≡ name_of v.offer) where
    pub put_in : (es : List (String A × Slot)) → AreSettled es → offers_in (insert_entry same_text es k v) ≡ put bytes_eq name_of (offers_in es) v.offer
    put_in [] h = refl
    put_in (e ∷ es) h =
        let same : same_text k e.0 ≡ bytes_eq (name_of v.offer) (name_of e.1.offer) = ap₂ bytes_eq own h.0 in
        let rest = put_in es h.2 in
        offers-cond (same_text k e.0) ((e.0, v) ∷ es) (e ∷ insert_entry same_text es k v)
        ∙ (λ j. cond (same j) (v.offer ∷ offers_in es) (e.1.offer ∷ rest j))

    pub settled-put : v.leaves ≡ false → (es : List (String A × Slot)) → AreSettled es → AreSettled (insert_entry same_text es k v)
    settled-put unmarked [] h = (own, unmarked, tt)
    settled-put unmarked (e ∷ es) h = by (same_text k e.0) refl (settled-put unmarked es h.2)
      where
        by : (b : Bool) → same_text k e.0 ≡ b → AreSettled (insert_entry same_text es k v) → AreSettled (cond b ((e.0, v) ∷ es) (e ∷ insert_entry same_text es k v))
        by true t rest = (sym ((bytes_decides (string_bytes k) (string_bytes e.0)).0 t) ∙ own, unmarked, h.2)
        by false t rest = (h.0, h.1, rest)

  -- ---- appending an entry

  pub settled-append : (xs : List (String A × Slot)) (x : String A × Slot) → AreSettled xs → AreSettled (x ∷ []) → AreSettled (xs ++ x ∷ [])
  settled-append [] x h own = own
  settled-append (e ∷ es) x h own = (h.0, h.1, settled-append es x h.2 own)

  pub offers-append : (xs : List (String A × Slot)) (x : String A × Slot) → offers_in (xs ++ x ∷ []) ≡ offers_in xs ++ x.1.offer ∷ []
  offers-append [] x = refl
  offers-append (e ∷ es) x = ap (λ os. e.1.offer ∷ os) (offers-append es x)

  -- ---- marking entries for removal

  abbrev pub IsAbsent : List ℕ → List (String A × Slot) → Type 0
  IsAbsent name [] = Unit {0}
  IsAbsent name (e ∷ es) = (bytes_eq name (string_bytes e.0) ≡ false) × IsAbsent name es

  absent : (name : List ℕ) (key : String A) (es : List (String A × Slot)) → string_bytes key ≡ name → AllByRecursion (λ y. same_text key y ≡ false) (keys_of es) → IsAbsent name es
  absent name key [] is h = tt
  absent name key (e ∷ es) is h = (ap (λ n. bytes_eq n (string_bytes e.0)) (sym is) ∙ h.0, absent name key es is h.1)

  marked-other : (name : List ℕ) (e : String A × Slot) → bytes_eq name (string_bytes e.0) ≡ false → marked_at name e ≡ e
  marked-other name e other = ap (λ b. (e.0, record { offer = e.1.offer; leaves = b || e.1.leaves })) other

  marked-absent : (name : List ℕ) (es : List (String A × Slot)) → IsAbsent name es → map (marked_at name) es ≡ es
  marked-absent name [] h = refl
  marked-absent name (e ∷ es) h = ap₂ (λ f fs. f ∷ fs) (marked-other name e h.0) (marked-absent name es h.1)

  pub marked-none : (name : List ℕ) (es : List (String A × Slot)) → lookup (λ k. bytes_eq name (string_bytes k)) es ≡ None → es ≡ map (marked_at name) es
  marked-none name [] h = refl
  marked-none name (e ∷ es) h = by (bytes_eq name (string_bytes e.0)) refl h (marked-none name es)
    where
      by : (b : Bool) → bytes_eq name (string_bytes e.0) ≡ b → cond b (Some e.1) (lookup (λ k. bytes_eq name (string_bytes k)) es) ≡ None
          → (lookup (λ k. bytes_eq name (string_bytes k)) es ≡ None → es ≡ map (marked_at name) es) → (e ∷ es) ≡ map (marked_at name) (e ∷ es)
      by true t h rest = absurd (not-none e.1 h)
      by false t h rest = ap₂ (λ f fs. f ∷ fs) (sym (marked-other name e t)) (rest h)

  pub marked-some : (name : List ℕ) (es : List (String A × Slot)) (s : Slot) → IsDistinct same_text (keys_of es) → Some s ≡ lookup (λ k. bytes_eq name (string_bytes k)) es
      → set_value (λ k. bytes_eq name (string_bytes k)) es (record { offer = s.offer; leaves = true }) ≡ map (marked_at name) es
  unfolding IsDistinct
  marked-some name [] s d h = absurd (not-none s h)
  marked-some name (e ∷ es) s d h = by (bytes_eq name (string_bytes e.0)) refl h (marked-some name es s d.1)
    where
      by : (b : Bool) → bytes_eq name (string_bytes e.0) ≡ b → Some s ≡ cond b (Some e.1) (lookup (λ k. bytes_eq name (string_bytes k)) es)
          → (Some s ≡ lookup (λ k. bytes_eq name (string_bytes k)) es → set_value (λ k. bytes_eq name (string_bytes k)) es (record { offer = s.offer; leaves = true }) ≡ map (marked_at name) es)
          → cond b ((e.0, record { offer = s.offer; leaves = true }) ∷ es) (e ∷ set_value (λ k. bytes_eq name (string_bytes k)) es (record { offer = s.offer; leaves = true })) ≡ map (marked_at name) (e ∷ es)
      by true t h rest =
          let is : s ≡ e.1 = ap (λ o. unwrap_or o s) h in
          ap₂ (λ f fs. f ∷ fs)
          ((λ j. (e.0, record { offer = (is j).offer; leaves = true })) ∙ sym (ap (λ b. (e.0, record { offer = e.1.offer; leaves = b || e.1.leaves })) t))
          (sym (marked-absent name es (absent name e.0 es (sym ((bytes_decides name (string_bytes e.0)).0 t)) d.0)))
      by false t h rest = ap₂ (λ f fs. f ∷ fs) (sym (marked-other name e t)) (rest h)

  -- ---- removing one entry

  without-absent : (name : List ℕ) (es : List (String A × Slot)) → AreSettled es → IsAbsent name es → offers_in es ≡ without_offer name (offers_in es)
  without-absent name [] h other = refl
  without-absent name (e ∷ es) h other =
      let rest = without-absent name es h.2 other.1 in
      let differs : false ≡ bytes_eq name (name_of e.1.offer) = sym other.0 ∙ ap (bytes_eq name) h.0 in
      λ j. cond (not (differs j)) (e.1.offer ∷ rest j) (rest j)

  pub taken_out : (name : List ℕ) (es : List (String A × Slot)) → AreSettled es → IsDistinct same_text (keys_of es)
      → offers_in (remove_entry (λ k. bytes_eq name (string_bytes k)) es) ≡ without_offer name (offers_in es)
  unfolding IsDistinct
  taken_out name [] h d = refl
  taken_out name (e ∷ es) h d =
      by (bytes_eq name (string_bytes e.0)) refl (taken_out name es h.2 d.1)
    where
      by : (b : Bool) → bytes_eq name (string_bytes e.0) ≡ b → offers_in (remove_entry (λ k. bytes_eq name (string_bytes k)) es) ≡ without_offer name (offers_in es)
          → offers_in (cond b es (e ∷ remove_entry (λ k. bytes_eq name (string_bytes k)) es)) ≡ without_offer name (offers_in (e ∷ es))
      by true t rest =
          let here : true ≡ bytes_eq name (name_of e.1.offer) = sym t ∙ ap (bytes_eq name) h.0 in
          without-absent name es h.2 (absent name e.0 es (sym ((bytes_decides name (string_bytes e.0)).0 t)) d.0)
          ∙ (λ j. cond (not (here j)) (e.1.offer ∷ without_offer name (offers_in es)) (without_offer name (offers_in es)))
      by false t rest =
          let differs : false ≡ bytes_eq name (name_of e.1.offer) = sym t ∙ ap (bytes_eq name) h.0 in
          λ j. cond (not (differs j)) (e.1.offer ∷ rest j) (rest j)

  pub settled-taken_out : (test : String A → Bool) (es : List (String A × Slot)) → AreSettled es → AreSettled (remove_entry test es)
  settled-taken_out test [] h = tt
  settled-taken_out test (e ∷ es) h = by (test e.0) (settled-taken_out test es h.2)
    where
      by : (b : Bool) → AreSettled (remove_entry test es) → AreSettled (cond b es (e ∷ remove_entry test es))
      by true rest = h.2
      by false rest = (h.0, h.1, rest)

  -- ---- removing the entries that are marked

  named : (es : List (String A × Slot)) → AreSettled es → AreNamed es
  named [] h = tt
  named (e ∷ es) h = (h.0, named es h.2)

  named-marked_at : (name : List ℕ) (es : List (String A × Slot)) → AreNamed es → AreNamed (map (marked_at name) es)
  named-marked_at name [] h = tt
  named-marked_at name (e ∷ es) h = (h.0, named-marked_at name es h.1)

  named-marked : (ids : List Id) (es : List (String A × Slot)) → AreNamed es → AreNamed (marked ids es)
  named-marked [] es h = h
  named-marked (d ∷ ds) es h = named-marked ds (map (marked_at d.value) es) (named-marked_at d.value es h)

  settled-stays : (es : List (String A × Slot)) → AreNamed es → AreSettled (filter stays es)
  settled-stays [] h = tt
  settled-stays (e ∷ es) h = by e.1.leaves refl (settled-stays es h.1)
    where
      by : (b : Bool) → e.1.leaves ≡ b → AreSettled (filter stays es) → AreSettled (cond (not b) (e ∷ filter stays es) (filter stays es))
      by true m rest = rest
      by false m rest = (h.0, m, rest)

  all-stay : (es : List (String A × Slot)) → AreSettled es → filter stays es ≡ es
  all-stay [] h = refl
  all-stay (e ∷ es) h =
      let unmarked = h.1 in
      let rest = all-stay es h.2 in
      λ j. cond (not (unmarked j)) (e ∷ rest j) (rest j)

  stays-marked : (name : List ℕ) (es : List (String A × Slot)) → AreNamed es → offers_in (filter stays (map (marked_at name) es)) ≡ without_offer name (offers_in (filter stays es))
  stays-marked name [] h = refl
  stays-marked name (e ∷ es) h = by (bytes_eq name (string_bytes e.0)) e.1.leaves (ap (bytes_eq name) h.0) (stays-marked name es h.1)
    where
      by : (b l : Bool) → b ≡ bytes_eq name (name_of e.1.offer) → offers_in (filter stays (map (marked_at name) es)) ≡ without_offer name (offers_in (filter stays es))
          → offers_in (cond (not (b || l)) (marked_at name e ∷ filter stays (map (marked_at name) es)) (filter stays (map (marked_at name) es)))
          ≡ without_offer name (offers_in (cond (not l) (e ∷ filter stays es) (filter stays es)))
      by true true t rest = rest
      by true false t rest = rest ∙ (λ j. cond (not (t j)) (e.1.offer ∷ without_offer name (offers_in (filter stays es))) (without_offer name (offers_in (filter stays es))))
      by false true t rest = rest
      by false false t rest = λ j. cond (not (t j)) (e.1.offer ∷ rest j) (rest j)

  marked-go : (ids : List Id) (es : List (String A × Slot)) → AreNamed es → offers_in (filter stays (marked ids es)) ≡ without_offers ids (offers_in (filter stays es))
  marked-go [] es h = filter-all (offers_in (filter stays es))
  marked-go (d ∷ ds) es h =
      marked-go ds (map (marked_at d.value) es) (named-marked_at d.value es h)
      ∙ ap (without_offers ds) (stays-marked d.value es h)
      ∙ filter-both (λ o. bytes_eq d.value (name_of o)) (names ds) (offers_in (filter stays es))

  pub all_taken_out : (ids : List Id) (es : List (String A × Slot)) → AreSettled es → offers_in (filter stays (marked ids es)) ≡ without_offers ids (offers_in es)
  all_taken_out ids es h = marked-go ids es (named es h) ∙ ap (λ fs. without_offers ids (offers_in fs)) (all-stay es h)

  pub settled-all_taken_out : (ids : List Id) (es : List (String A × Slot)) → AreSettled es → AreSettled (filter stays (marked ids es))
  settled-all_taken_out ids es h = settled-stays (marked ids es) (named-marked ids es (named es h))
