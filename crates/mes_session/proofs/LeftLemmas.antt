-- A key has a value after a history if and only if an entry brings it and no later entry removes
-- it.
use Rattle.std.proofs.Common.{◌≡◌, ℕ, zero, suc, ◌<◌, Bool, true, false, ◌||◌, cond, ◌⊎◌, inl, inr, ◌↔◌, Option, Some, None, is_some, List, [], ◌∷◌, ◌++◌, length, reverse, slice_get, refl, sym, ◌∙◌, ap, subst, arith, length-append}
use Rattle.std.specs.List.{find, list_any}
use Rattle.std.specs.Option.{option_or}
use Rattle.std.proofs.lemmas.List.{reverse-append, reverse-reverse}
use Rattle.std.proofs.lemmas.List.Folds.{find-append, list_any-append}
use Rattle.std.proofs.lemmas.Option.{slice_get_within}
use mathlib.Core.List.{reverse-cons}
use Rattle.std.specs.Str.{bytes_eq}
use Rattle.mes_model.specs.Offer.{Offer}
use Rattle.mes_model.specs.OwedKey.{OwedKey}
use Rattle.mes_msg.specs.declared.entry.Entry.{Entry}
use Rattle.mes_session_state.specs.Held.{Held, name_of, offer_in, same_key, is_owed}
use Rattle.mes_session.specs.Kept.{since, value_of, IsLeftBy}
use Rattle.mes_session.specs.History.{offers_of, takes_offer, owed_by, acknowledges, Represents, IsOfferedBy, IsOwedBy}
use Rattle.mes_session.proofs.HistoryLemmas.{name-exact, name-self, key-exact, key-self, hand-idle, owed-idle}
use Rattle.mes_session.proofs.KeptLemmas.{kept-push}

module _ {X : Type 0} where
  get-last : (xs : List X) (y : X) → slice_get (xs ++ y ∷ []) (length xs) ≡ Some y
  get-last [] y = refl
  get-last (x ∷ xs) y = get-last xs y

  get-front : (xs : List X) (y : X) (i : ℕ) (x : X) → slice_get xs i ≡ Some x → slice_get (xs ++ y ∷ []) i ≡ Some x
  get-front [] y i x e = absurd (cc)
  get-front (z ∷ zs) y zero x e = e
  get-front (z ∷ zs) y (suc i) x e = get-front zs y i x e

  front-or-last : (xs : List X) (y : X) (i : ℕ) (x : X) → slice_get (xs ++ y ∷ []) i ≡ Some x → (slice_get xs i ≡ Some x) ⊎ ((i ≡ length xs) × (y ≡ x))
  front-or-last [] y zero x e = inr (refl, (let d : Some y ≡ Some x = e in cc))
  front-or-last [] y (suc i) x e = absurd (cc)
  front-or-last (z ∷ zs) y zero x e = inl e
  front-or-last (z ∷ zs) y (suc i) x e = elim (front-or-last zs y i x e) [
    | inl p ↦ inl p
    | inr p ↦ inr (ap suc p.0, p.1)
  ]

  any-reverse : (p : X → Bool) (xs : List X) → list_any p (reverse xs) ≡ list_any p xs
  any-reverse p [] = refl
  any-reverse p (x ∷ xs) = ap (list_any p) (reverse-cons x xs) ∙ list_any-append p (reverse xs) (x ∷ []) ∙ turn (list_any p (reverse xs)) (list_any p xs) (p x) (any-reverse p xs)
    where
      turn : (a b c : Bool) → a ≡ b → (a || (c || false)) ≡ (c || b)
      turn true true true e = refl
      turn true true false e = refl
      turn true false c e = absurd (cc)
      turn false true c e = absurd (cc)
      turn false false true e = refl
      turn false false false e = refl

  any-from_find : (p : X → Bool) (xs : List X) → (is_some (find p xs) ≡ true) → list_any p xs ≡ true
  any-from_find p [] s = absurd (cc)
  any-from_find p (x ∷ xs) s = go (p x) s (any-from_find p xs)
    where
      go : (b : Bool) → (is_some (cond b (Some x) (find p xs)) ≡ true) → ((is_some (find p xs) ≡ true) → list_any p xs ≡ true) → (b || list_any p xs) ≡ true
      go true t rest = refl
      go false t rest = rest t

  find-from_any : (p : X → Bool) (xs : List X) → list_any p xs ≡ true → (is_some (find p xs) ≡ true)
  find-from_any p [] e = absurd (cc)
  find-from_any p (x ∷ xs) e = go (p x) e (find-from_any p xs)
    where
      go : (b : Bool) → (b || list_any p xs) ≡ true → (list_any p xs ≡ true → (is_some (find p xs) ≡ true)) → (is_some (cond b (Some x) (find p xs)) ≡ true)
      go true d rest = refl
      go false d rest = rest d

  some-or : (a b : Option X) → (is_some (option_or a b) ≡ true) → (is_some a ≡ true) ⊎ (is_some b ≡ true)
  some-or None b s = inr s
  some-or (Some x) b s = inl refl

  or-first : (a b : Option X) → (is_some a ≡ true) → (is_some (option_or a b) ≡ true)
  or-first None b s = absurd (cc)
  or-first (Some x) b s = refl

  or-second : (a b : Option X) → (is_some b ≡ true) → (is_some (option_or a b) ≡ true)
  or-second None b s = s
  or-second (Some x) b s = refl

module _ {E X K : Type 0} (same : K → K → Bool) (key : X → K) (exact : (a b : K) → same a b ≡ true → a ≡ b) (self : (a : K) → same a a ≡ true)
    (brings : E → List X) (takes : K → E → Bool) (idle : (k : K) (e : E) → takes k e ≡ true → brings e ≡ []) where
  abbrev Left : List E → Type 0
  Left h = (k : K) → (is_some (value_of same key brings takes h k) ≡ true) ↔ ((i : ℕ) × IsLeftBy same key brings takes h k i)

  value-push : (h : List E) (e : E) (k : K) → value_of same key brings takes (h ++ e ∷ []) k ≡ option_or (find (λ x. same k (key x)) (reverse (brings e))) (cond (takes k e) None (value_of same key brings takes h k))
  value-push h e k =
      ap (λ (xs : List X). find (λ x. same k (key x)) (reverse xs)) (sym (kept-push same key exact self brings takes idle h e k))
      ∙ ap (find (λ x. same k (key x))) (reverse-append (cond (takes k e) [] (since same key brings takes h k)) (brings e))
      ∙ find-append (λ x. same k (key x)) (reverse (brings e)) (reverse (cond (takes k e) [] (since same key brings takes h k)))
      ∙ ap (option_or (find (λ x. same k (key x)) (reverse (brings e)))) (go (takes k e))
    where
      go : (b : Bool) → find (λ x. same k (key x)) (reverse (cond b [] (since same key brings takes h k))) ≡ cond b None (value_of same key brings takes h k)
      go true = refl
      go false = refl

  left-nil : Left []
  left-nil k = (λ s. absurd (let f : false ≡ true = s in cc), λ l. absurd (let e : slice_get [] l.0 ≡ Some l.1.entry = l.1.is in cc))

  left-push : (h : List E) (e : E) → Left h → Left (h ++ e ∷ [])
  left-push h e left k = (λ s. there (some-or _ _ (subst (λ (o : Option X). (is_some o ≡ true)) (value-push h e k) s)), λ l. subst (λ (o : Option X). (is_some o ≡ true)) (sym (value-push h e k)) (back l.0 l.1))
    where
      last : E → Type 0
      last x = (i : ℕ) × IsLeftBy same key brings takes (h ++ e ∷ []) k i

      old : (takes k e ≡ false) → (i : ℕ) × IsLeftBy same key brings takes h k i → (i : ℕ) × IsLeftBy same key brings takes (h ++ e ∷ []) k i
      old free l = (
        l.0,
        record {
          entry = l.1.entry;
          is = get-front h e l.0 l.1.entry l.1.is;
          brings_it = l.1.brings_it;
          stays = λ j later less at. elim (front-or-last h e j later at) [
            | inl p ↦ l.1.stays j later less p
            | inr p ↦ subst (λ (x : E). takes k x ≡ false) p.1 free
          ];
        },
      )

      kept : (b : Bool) → takes k e ≡ b → (is_some (cond b None (value_of same key brings takes h k)) ≡ true) → (i : ℕ) × IsLeftBy same key brings takes (h ++ e ∷ []) k i
      kept true is s = absurd (cc)
      kept false is s = old is ((left k).0 s)

      there : (is_some (find (λ x. same k (key x)) (reverse (brings e))) ≡ true) ⊎ (is_some (cond (takes k e) None (value_of same key brings takes h k)) ≡ true) → (i : ℕ) × IsLeftBy same key brings takes (h ++ e ∷ []) k i
      there (inl s) = (
        length h,
        record {
          entry = e;
          is = get-last h e;
          brings_it = sym (any-reverse (λ x. same k (key x)) (brings e)) ∙ any-from_find (λ x. same k (key x)) (reverse (brings e)) s;
          stays = λ j later less at. absurd (let w : j < length (h ++ e ∷ []) = slice_get_within (h ++ e ∷ []) j later at in omega (arith, length-append h (e ∷ [])));
        },
      )
      there (inr s) = kept (takes k e) refl s

      here : (b : Bool) → takes k e ≡ b → b ≡ false → (is_some (value_of same key brings takes h k) ≡ true) → (is_some (cond b None (value_of same key brings takes h k)) ≡ true)
      here true is f s = absurd (cc)
      here false is f s = s

      back : (i : ℕ) → IsLeftBy same key brings takes (h ++ e ∷ []) k i → (is_some (option_or (find (λ x. same k (key x)) (reverse (brings e))) (cond (takes k e) None (value_of same key brings takes h k))) ≡ true)
      back i l = elim (front-or-last h e i l.entry l.is) [
        | inl p ↦ or-second _ _ (here (takes k e) refl (l.stays (length h) e (slice_get_within h i l.entry p) (get-last h e))
            ((left k).1 (i, record { entry = l.entry; is = p; brings_it = l.brings_it; stays = λ j later less at. l.stays j later less (get-front h e j later at) })))
        | inr p ↦ or-first _ _ (find-from_any (λ x. same k (key x)) (reverse (brings e)) (any-reverse (λ x. same k (key x)) (brings e) ∙ subst (λ (x : E). list_any (λ y. same k (key y)) (brings x) ≡ true) (sym p.1) l.brings_it))
      ]

  left-reversed : (r : List E) → Left (reverse r)
  left-reversed [] = left-nil
  left-reversed (e ∷ r) = subst Left (sym (reverse-cons e r)) (left-push (reverse r) e (left-reversed r))

  pub value-left : (h : List E) → Left h
  value-left h = subst Left (reverse-reverse h) (left-reversed (reverse h))

-- ---- outstanding offers and unacknowledged updates

pub in-hand : (h : List Entry) (held : Held) (name : List ℕ) → Represents h held → is_some (offer_in held.hand name) ≡ true ↔ ((i : ℕ) × IsOfferedBy h name i)
in-hand h held name represents =
    subst (λ (o : Option Offer). is_some o ≡ true ↔ ((i : ℕ) × IsOfferedBy h name i)) (sym (represents.hand.found name))
    (value-left bytes_eq name_of name-exact name-self offers_of takes_offer hand-idle h name)

pub in-owed : (h : List Entry) (held : Held) (key : OwedKey) → Represents h held → is_owed key held.owed ≡ true ↔ ((i : ℕ) × IsOwedBy h key i)
in-owed h held key represents =
    let iff : is_some (find (λ k. same_key key k) held.owed) ≡ true ↔ ((i : ℕ) × IsOwedBy h key i) =
    subst (λ (o : Option OwedKey). is_some o ≡ true ↔ ((i : ℕ) × IsOwedBy h key i)) (sym (represents.owed.found key))
    (value-left same_key (λ (k : OwedKey). k) key-exact key-self owed_by acknowledges owed-idle h key) in
    (λ e. iff.0 (find-from_any (λ k. same_key key k) held.owed e), λ l. any-from_find (λ k. same_key key k) held.owed (iff.1 l))
