-- Lemmas about the retained items of a history after one more entry.
use Rattle.std.proofs.Common.{◌≡◌, ℕ, zero, suc, ◌+◌, ◌-◌, ◌≤◌, ◌<◌, Bool, true, false, not, cond, if◌then◌else◌, ◌⊎◌, inl, inr, Option, Some, None, List, [], ◌∷◌, ◌++◌, length, reverse, refl, sym, ◌∙◌, ap, subst, arith, append_assoc, append-nil, length-append, take, drop}
use Rattle.std.specs.List.{AllPairs, find, position_or_len, filter, fold, prefix_len, take_while, slice_index_or}
use Rattle.std.specs.Option.{option_or}
use Rattle.std.proofs.lemmas.List.Sums.{take_while-cons}
use Rattle.std.proofs.lemmas.List.{reverse-append, reverse-reverse, take-append-drop}
use Rattle.std.proofs.lemmas.List.Folds.{find-append}
use Rattle.std.proofs.lemmas.Grind.{flat_map-append}
use mathlib.Core.List.{reverse-cons}
use Rattle.mes_session.specs.Kept.{after_last, brought, since, place_of, IsKept}
use Rattle.mes_session_state.specs.Keeping.{put}

-- ---- `Up`: the numbers of the elements rise, from `low` to below `high`

module _ {X : Type 0} where
  abbrev pub Up : (X → ℕ) → ℕ → ℕ → List X → Type 0
  Up f low high [] = low ≤ high
  Up f low high (x ∷ xs) = (low ≤ f x) × Up f (f x + 1) high xs

  Up-within : (f : X → ℕ) (low high : ℕ) (xs : List X) → Up f low high xs → low ≤ high
  Up-within f low high [] u = u
  Up-within f low high (x ∷ xs) u = let h : f x + 1 ≤ high = Up-within f (f x + 1) high xs u.1 in omega arith

  Up-low : (f : X → ℕ) (low least high : ℕ) (xs : List X) → least ≤ low → Up f low high xs → Up f least high xs
  Up-low f low least high [] h u = omega arith
  Up-low f low least high (x ∷ xs) h u = (omega arith, u.1)

  Up-high : (f g : X → ℕ) (high most : ℕ) → high ≤ most → ((x : X) → f x < high → g x ≡ f x) → (low : ℕ) (xs : List X) → Up f low high xs → Up g low most xs
  Up-high f g high most h agree low [] u = omega arith
  Up-high f g high most h agree low (x ∷ xs) u =
      let w : f x + 1 ≤ high = Up-within f (f x + 1) high xs u.1 in
      let e : g x ≡ f x = agree x (omega arith) in
      (omega arith, subst (λ (n : ℕ). Up g (n + 1) most xs) (sym e) (Up-high f g high most h agree (f x + 1) xs u.1))

  Up-filter : (f g : X → ℕ) (p : X → Bool) → ((x : X) → p x ≡ true → g x ≡ f x) → (high low : ℕ) (xs : List X) → Up f low high xs → Up g low high (filter p xs)
  Up-filter f g p agree high low [] u = u
  Up-filter f g p agree high low (x ∷ xs) u = go (p x) refl (Up-filter f g p agree high (f x + 1) xs u.1)
    where
      go : (b : Bool) → p x ≡ b → Up g (f x + 1) high (filter p xs) → Up g low high (cond b (x ∷ filter p xs) (filter p xs))
      go true e rest = let same : g x ≡ f x = agree x e in (omega arith, subst (λ (n : ℕ). Up g (n + 1) high (filter p xs)) (sym same) rest)
      go false e rest = Up-low g (f x + 1) low high (filter p xs) (omega arith) rest

  -- ---- `Up` if and only if the numbers of each pair of elements rise

  Up-at : (f : X → ℕ) (low high : ℕ) (xs : List X) (i : ℕ) (d : X) → Up f low high xs → i < length xs → low ≤ f (slice_index_or xs i d)
  Up-at f low high [] i d u h = absurd (omega arith)
  Up-at f low high (x ∷ xs) zero d u h = u.0
  Up-at f low high (x ∷ xs) (suc i) d u h = let r : f x + 1 ≤ f (slice_index_or xs i d) = Up-at f (f x + 1) high xs i d u.1 (omega arith) in omega arith

  pub pairs-from_up : (f : X → ℕ) (low high : ℕ) (xs : List X) → Up f low high xs → AllPairs (λ x y. f x < f y) xs
  pairs-from_up f low high [] u i j d h k = absurd (omega arith)
  pairs-from_up f low high (x ∷ xs) u zero zero d h k = absurd (omega arith)
  pairs-from_up f low high (x ∷ xs) u zero (suc j) d h k = let r : f x + 1 ≤ f (slice_index_or xs j d) = Up-at f (f x + 1) high xs j d u.1 (omega arith) in omega arith
  pairs-from_up f low high (x ∷ xs) u (suc i) zero d h k = absurd (omega arith)
  pairs-from_up f low high (x ∷ xs) u (suc i) (suc j) d h k = pairs-from_up f (f x + 1) high xs u.1 i j d (omega arith) (omega arith)

  pub up-from_pairs : (f : X → ℕ) (high low : ℕ) (xs : List X) → low ≤ high → ((i : ℕ) (d : X) → i < length xs → low ≤ f (slice_index_or xs i d)) → ((i : ℕ) (d : X) → i < length xs → f (slice_index_or xs i d) < high)
      → AllPairs (λ x y. f x < f y) xs → Up f low high xs
  up-from_pairs f high low [] w l m p = w
  up-from_pairs f high low (x ∷ xs) w l m p =
      let here : low ≤ f x = l 0 x (omega arith) in
      let under : f x < high = m 0 x (omega arith) in (
        here,
        up-from_pairs f high (f x + 1) xs (omega arith)
            (λ i d h. let r : f x < f (slice_index_or xs i d) = p 0 (suc i) d (omega arith) (omega arith) in omega arith)
            (λ i d h. m (suc i) d (omega arith))
            (λ i j d h k. p (suc i) (suc j) d (omega arith) (omega arith)),
      )

-- ---- the first element that passes a test, and its index

module _ {X : Type 0} (p : X → Bool) where
  none-parts : (xs ys : List X) → find p (xs ++ ys) ≡ None → (find p xs ≡ None) × (find p ys ≡ None)
  none-parts [] ys e = (refl, e)
  none-parts (x ∷ xs) ys e = go (p x) e (none-parts xs ys)
    where
      go : (b : Bool) → cond b (Some x) (find p (xs ++ ys)) ≡ None → (find p (xs ++ ys) ≡ None → (find p xs ≡ None) × (find p ys ≡ None)) → (cond b (Some x) (find p xs) ≡ None) × (find p ys ≡ None)
      go true n rest = absurd (cc)
      go false n rest = rest n

  place-none : (xs : List X) → find p (reverse xs) ≡ None → position_or_len p xs ≡ length xs
  place-none [] e = refl
  place-none (x ∷ xs) e =
      let parts : (find p (reverse xs) ≡ None) × (find p (x ∷ []) ≡ None) = none-parts (reverse xs) (x ∷ []) (ap (find p) (sym (reverse-cons x xs)) ∙ e) in
      go (p x) parts.1 (place-none xs parts.0)
    where
      go : (b : Bool) → cond b (Some x) None ≡ None → position_or_len p xs ≡ length xs → cond (not b) (1 + position_or_len p xs) 0 ≡ suc (length xs)
      go true n rest = absurd (cc)
      go false n rest = omega arith

  place-new : (xs : List X) (y : X) → position_or_len p xs ≡ length xs → p y ≡ true → position_or_len p (xs ++ y ∷ []) ≡ length xs
  place-new [] y e t = rw t refl
  place-new (x ∷ xs) y e t = go (p x) e (λ h. place-new xs y h t)
    where
      go : (b : Bool) → cond (not b) (1 + position_or_len p xs) 0 ≡ suc (length xs) → (position_or_len p xs ≡ length xs → position_or_len p (xs ++ y ∷ []) ≡ length xs)
          → cond (not b) (1 + position_or_len p (xs ++ y ∷ [])) 0 ≡ suc (length xs)
      go true n rest = absurd (omega arith)
      go false n rest = let r : position_or_len p (xs ++ y ∷ []) ≡ length xs = rest (omega arith) in omega arith

  place-old : (xs ys : List X) → position_or_len p xs < length xs → position_or_len p (xs ++ ys) ≡ position_or_len p xs
  place-old [] ys h = absurd (omega arith)
  place-old (x ∷ xs) ys h = go (p x) h (place-old xs ys)
    where
      go : (b : Bool) → cond (not b) (1 + position_or_len p xs) 0 < suc (length xs) → (position_or_len p xs < length xs → position_or_len p (xs ++ ys) ≡ position_or_len p xs)
          → cond (not b) (1 + position_or_len p (xs ++ ys)) 0 ≡ cond (not b) (1 + position_or_len p xs) 0
      go true n rest = refl
      go false n rest = ap (λ (m : ℕ). 1 + m) (rest (omega arith))

  place-or_none : (xs : List X) → (position_or_len p xs < length xs) ⊎ (find p (reverse xs) ≡ None)
  place-or_none [] = inr refl
  place-or_none (x ∷ xs) = go (p x) refl (place-or_none xs)
    where
      last : find p (reverse (x ∷ xs)) ≡ option_or (find p (reverse xs)) (find p (x ∷ []))
      last = ap (find p) (reverse-cons x xs) ∙ find-append p (reverse xs) (x ∷ [])

      go : (b : Bool) → p x ≡ b → (position_or_len p xs < length xs) ⊎ (find p (reverse xs) ≡ None) → (cond (not b) (1 + position_or_len p xs) 0 < suc (length xs)) ⊎ (find p (reverse (x ∷ xs)) ≡ None)
      go true e rest = inl (omega arith)
      go false e (inl less) = inl (omega arith)
      go false e (inr none) = inr (last ∙ rw (none, e) refl)

  at-none : (xs : List X) → find p xs ≡ None → (i : ℕ) (d : X) → i < length xs → p (slice_index_or xs i d) ≡ true → ⊥
  at-none [] e i d h t = absurd (omega arith)
  at-none (x ∷ xs) e zero d h t = go (p x) e t
    where
      go : (b : Bool) → cond b (Some x) (find p xs) ≡ None → b ≡ true → ⊥
      go true n t = absurd (cc)
      go false n t = absurd (cc)
  at-none (x ∷ xs) e (suc i) d h t = at-none xs (none-parts (x ∷ []) xs e).1 i d (omega arith) t

-- ---- the retained items after adding an item, and after removing keys

module _ {K X : Type 0} (same : K → K → Bool) (key : X → K) (exact : (a b : K) → same a b ≡ true → a ≡ b) (self : (a : K) → same a a ≡ true) where
  pub find-put : (k : K) (x : X) (xs : List X) → find (λ y. same k (key y)) (put same key xs x) ≡ cond (same k (key x)) (Some x) (find (λ y. same k (key y)) xs)
  find-put k x [] = refl
  find-put k x (y ∷ ys) = go (same (key x) (key y)) refl (find-put k x ys)
    where
      both : (b c : Bool) (q : Option X) → c ≡ b → cond b (Some x) q ≡ cond b (Some x) (cond c (Some y) q)
      both true c q e = refl
      both false true q e = absurd (cc)
      both false false q e = refl

      apart : (b c : Bool) (q r : Option X) → (b ≡ true → c ≡ true → ⊥) → r ≡ cond b (Some x) q → cond c (Some y) r ≡ cond b (Some x) (cond c (Some y) q)
      apart true true q r n e = absurd (n refl refl)
      apart true false q r n e = e
      apart false true q r n e = refl
      apart false false q r n e = e

      go : (b : Bool) → same (key x) (key y) ≡ b
          → find (λ z. same k (key z)) (put same key ys x) ≡ cond (same k (key x)) (Some x) (find (λ z. same k (key z)) ys)
          → find (λ z. same k (key z)) (if b then x ∷ ys else y ∷ put same key ys x) ≡ cond (same k (key x)) (Some x) (cond (same k (key y)) (Some y) (find (λ z. same k (key z)) ys))
      go true e rest = both (same k (key x)) (same k (key y)) _ (ap (same k) (sym (exact (key x) (key y) e)))
      go false e rest = apart (same k (key x)) (same k (key y)) _ _ (λ s t.
          let u : key x ≡ key y = sym (exact k (key x) s) ∙ exact k (key y) t in
          let v : same (key x) (key y) ≡ true = ap (same (key x)) (sym u) ∙ self (key x) in
          cc) rest

  pub find-filter : (gone : K → Bool) (k : K) (xs : List X) → find (λ y. same k (key y)) (filter (λ y. not (gone (key y))) xs) ≡ cond (gone k) None (find (λ y. same k (key y)) xs)
  find-filter gone k [] = go (gone k)
    where
      go : (b : Bool) → (let none : Option X = None in none ≡ cond b None none)
      go true = refl
      go false = refl
  find-filter gone k (y ∷ ys) = go (gone (key y)) (same k (key y)) (gone k) refl refl refl (find-filter gone k ys)
    where
      go : (b c d : Bool) → gone (key y) ≡ b → same k (key y) ≡ c → gone k ≡ d
          → find (λ z. same k (key z)) (filter (λ z. not (gone (key z))) ys) ≡ cond d None (find (λ z. same k (key z)) ys)
          → find (λ z. same k (key z)) (cond (not b) (y ∷ filter (λ z. not (gone (key z))) ys) (filter (λ z. not (gone (key z))) ys)) ≡ cond d None (cond c (Some y) (find (λ z. same k (key z)) ys))
      go true true true e f g rest = rest
      go true true false e f g rest = absurd (let u : gone (key y) ≡ gone k = ap gone (sym (exact k (key y) f)) in cc)
      go true false d e f g rest = rest
      go false true true e f g rest = absurd (let u : gone (key y) ≡ gone k = ap gone (sym (exact k (key y) f)) in cc)
      go false true false e f g rest = rw f refl
      go false false d e f g rest = rw f rest

  Up-put : (place later : K → ℕ) (n : ℕ) (x : X) → ((k : K) → place k < n → later k ≡ place k) → (low : ℕ) (xs : List X) → Up (λ y. place (key y)) low n xs
      → (find (λ y. same (key x) (key y)) xs ≡ None → later (key x) ≡ n) → Up (λ y. later (key y)) low (n + 1) (put same key xs x)
  Up-put place later n x agree low [] u fresh = let e : later (key x) ≡ n = fresh refl in (omega arith, omega arith)
  Up-put place later n x agree low (y ∷ ys) u fresh = go (same (key x) (key y)) refl fresh (Up-put place later n x agree (place (key y) + 1) ys u.1)
    where
      within : place (key y) < n
      within = let w : place (key y) + 1 ≤ n = Up-within (λ z. place (key z)) (place (key y) + 1) n ys u.1 in omega arith

      old : later (key y) ≡ place (key y)
      old = agree (key y) within

      go : (b : Bool) → same (key x) (key y) ≡ b
          → (cond b (Some y) (find (λ z. same (key x) (key z)) ys) ≡ None → later (key x) ≡ n)
          → ((find (λ z. same (key x) (key z)) ys ≡ None → later (key x) ≡ n) → Up (λ z. later (key z)) (place (key y) + 1) (n + 1) (put same key ys x))
          → Up (λ z. later (key z)) low (n + 1) (if b then x ∷ ys else y ∷ put same key ys x)
      go true e f rest =
          let is : later (key x) ≡ place (key y) = ap later (exact (key x) (key y) e) ∙ old in (
            omega arith,
            subst (λ (m : ℕ). Up (λ (z : X). later (key z)) (m + 1) (n + 1) ys) (sym is)
                (Up-high (λ z. place (key z)) (λ z. later (key z)) n (n + 1) (omega arith) (λ z h. agree (key z) h) (place (key y) + 1) ys u.1),
          )
      go false e f rest = (omega (arith, old), subst (λ (m : ℕ). Up (λ (z : X). later (key z)) (m + 1) (n + 1) (put same key ys x)) (sym old) (rest f))

  -- ---- `At`: the retained items, from the items that were brought since each key was last removed

  pub record At (run : K → List X) (before : K → ℕ) (n : ℕ) (xs : List X) : Type 0 where
    pub sums : (k : K) → before k + length (run k) ≡ n
    pub found : (k : K) → find (λ x. same k (key x)) xs ≡ find (λ x. same k (key x)) (reverse (run k))
    pub order : Up (λ x. before (key x) + position_or_len (λ y. same (key x) (key y)) (run (key x))) 0 n xs

  At-along : (run other : K → List X) (before later : K → ℕ) (m n : ℕ) (xs : List X) → ((k : K) → run k ≡ other k) → ((k : K) → before k ≡ later k) → m ≡ n → At run before m xs → At other later n xs
  At-along run other before later m n xs e f d a =
      let p : run ≡ other = λ i k. e k i in
      let q : before ≡ later = λ i k. f k i in
      subst (λ (r : K → List X). At r later n xs) p (subst (λ (b : K → ℕ). At run b n xs) q (subst (λ (j : ℕ). At run before j xs) d a))

  At-add : (x : X) (run : K → List X) (before : K → ℕ) (n : ℕ) (xs : List X) → At run before n xs → At (λ k. run k ++ x ∷ []) before (n + 1) (put same key xs x)
  At-add x run before n xs a = record {
    sums = λ k. let s : before k + length (run k) ≡ n = a.sums k in omega (arith, length-append (run k) (x ∷ []));
    found = λ k. find-put k x xs ∙ ap (cond (same k (key x)) (Some x)) (a.found k) ∙ sym (ap (find (λ y. same k (key y))) (reverse-append (run k) (x ∷ [])));
    order = Up-put place (λ k. before k + position_or_len (λ y. same k (key y)) (run k ++ x ∷ [])) n x
        (λ k h. let s : before k + length (run k) ≡ n = a.sums k in ap (λ (m : ℕ). before k + m) (place-old (λ y. same k (key y)) (run k) (x ∷ []) (omega arith)))
        0 xs a.order
        (λ none. let k : K = key x in
        let s : before k + length (run k) ≡ n = a.sums k in
        let e : position_or_len (λ y. same k (key y)) (run k) ≡ length (run k) = place-none (λ y. same k (key y)) (run k) (sym (a.found k) ∙ none) in
        let f : position_or_len (λ y. same k (key y)) (run k ++ x ∷ []) ≡ length (run k) = place-new (λ y. same k (key y)) (run k) x e (self k) in
        omega arith);
  }
    where
      place : K → ℕ
      place k = before k + position_or_len (λ y. same k (key y)) (run k)

  At-add_all : (ys : List X) (run : K → List X) (before : K → ℕ) (n : ℕ) (xs : List X) → At run before n xs → At (λ k. run k ++ ys) before (n + length ys) (fold (put same key) xs ys)
  At-add_all [] run before n xs a = At-along run (λ k. run k ++ []) before before n (n + 0) xs (λ k. sym (append-nil (run k))) (λ k. refl) (omega arith) a
  At-add_all (y ∷ ys) run before n xs a =
      At-along (λ k. (run k ++ y ∷ []) ++ ys) (λ k. run k ++ y ∷ ys) before before (n + 1 + length ys) (n + length (y ∷ ys)) (fold (put same key) (put same key xs y) ys)
      (λ k. append_assoc (run k) (y ∷ []) ys) (λ k. refl) (omega arith)
      (At-add_all ys (λ k. run k ++ y ∷ []) before (n + 1) (put same key xs y) (At-add y run before n xs a))

  At-cut : (gone : K → Bool) (run : K → List X) (before : K → ℕ) (n : ℕ) (xs : List X) → At run before n xs
      → At (λ k. cond (gone k) [] (run k)) (λ k. cond (gone k) n (before k)) n (filter (λ x. not (gone (key x))) xs)
  At-cut gone run before n xs a = record {
    sums = λ k. sums_at k (gone k) (a.sums k);
    found = λ k. find-filter gone k xs ∙ found_at k (gone k) (a.found k);
    order = Up-filter (λ x. before (key x) + position_or_len (λ y. same (key x) (key y)) (run (key x)))
        (λ x. cond (gone (key x)) n (before (key x)) + position_or_len (λ y. same (key x) (key y)) (cond (gone (key x)) [] (run (key x))))
        (λ x. not (gone (key x))) (λ x e. stays (key x) (gone (key x)) e) n 0 xs a.order;
  }
    where
      sums_at : (k : K) (b : Bool) → before k + length (run k) ≡ n → cond b n (before k) + length (cond b [] (run k)) ≡ n
      sums_at k true s = omega arith
      sums_at k false s = s

      found_at : (k : K) (b : Bool) → find (λ x. same k (key x)) xs ≡ find (λ x. same k (key x)) (reverse (run k))
          → cond b None (find (λ x. same k (key x)) xs) ≡ find (λ x. same k (key x)) (reverse (cond b [] (run k)))
      found_at k true f = refl
      found_at k false f = f

      stays : (k : K) (b : Bool) → not b ≡ true
          → cond b n (before k) + position_or_len (λ y. same k (key y)) (cond b [] (run k)) ≡ before k + position_or_len (λ y. same k (key y)) (run k)
      stays k true e = absurd (cc)
      stays k false e = refl

-- ---- the retained items of a history and one more entry

module _ {E X K : Type 0} (same : K → K → Bool) (key : X → K) (exact : (a b : K) → same a b ≡ true → a ≡ b) (self : (a : K) → same a a ≡ true)
    (brings : E → List X) (takes : K → E → Bool) (idle : (k : K) (e : E) → takes k e ≡ true → brings e ≡ []) where
  brought-push : (h : List E) (e : E) → brought brings (h ++ e ∷ []) ≡ brought brings h ++ brings e
  brought-push h e = flat_map-append brings h (e ∷ []) ∙ ap (λ (ys : List X). brought brings h ++ ys) (append-nil (brings e))

  -- if the entry removes the key, no earlier items are left; then the entry's items are added
  pub kept-push : (h : List E) (e : E) (k : K) → cond (takes k e) [] (since same key brings takes h k) ++ brings e ≡ since same key brings takes (h ++ e ∷ []) k
  kept-push h e k =
      go (takes k e) refl
      ∙ sym (ap (λ (es : List E). brought brings (reverse es)) (take_while-cons (λ d. not (takes k d)) e (reverse h)))
      ∙ sym (ap (λ (es : List E). brought brings (reverse (take_while (λ d. not (takes k d)) es))) (reverse-append h (e ∷ [])))
    where
      go : (b : Bool) → takes k e ≡ b
          → cond b [] (since same key brings takes h k) ++ brings e ≡ brought brings (reverse (cond (not b) (e ∷ take_while (λ d. not (takes k d)) (reverse h)) []))
      go true is = idle k e is
      go false is = sym (brought-push (after_last (takes k) h) e) ∙ sym (ap (brought brings) (reverse-cons e (take_while (λ d. not (takes k d)) (reverse h))))

  kept-within : (h : List E) (k : K) → length (since same key brings takes h k) ≤ length (brought brings h)
  kept-within h k =
      let n : ℕ = prefix_len (λ e. not (takes k e)) (reverse h) in
      let parts : reverse (drop n (reverse h)) ++ reverse (take n (reverse h)) ≡ h =
      sym (reverse-append (take n (reverse h)) (drop n (reverse h))) ∙ ap (λ (es : List E). reverse es) (take-append-drop n (reverse h)) ∙ reverse-reverse h in
      let split : brought brings h ≡ brought brings (reverse (drop n (reverse h))) ++ since same key brings takes h k =
      sym (ap (brought brings) parts) ∙ flat_map-append brings (reverse (drop n (reverse h))) (reverse (take n (reverse h))) in
      omega (arith, ap (length {A = X}) split, length-append (brought brings (reverse (drop n (reverse h)))) (since same key brings takes h k))

  HistoryAt : List E → List X → Type 0
  HistoryAt h xs = At same key exact self (since same key brings takes h) (λ k. length (brought brings h) - length (since same key brings takes h k)) (length (brought brings h)) xs

  at-from_kept : (h : List E) (xs : List X) → IsKept same key brings takes h xs → HistoryAt h xs
  unfolding HistoryAt
  at-from_kept h xs a = record {
    sums = λ k. let w : length (since same key brings takes h k) ≤ length (brought brings h) = kept-within h k in omega arith;
    found = a.found;
    order = up-from_pairs (λ x. place_of same key brings takes h (key x)) (length (brought brings h)) 0 xs (omega arith) (λ i d w. omega arith) under a.order;
  }
    where
      under : (i : ℕ) (d : X) → i < length xs → place_of same key brings takes h (key (slice_index_or xs i d)) < length (brought brings h)
      under i d w =
          let x : X = slice_index_or xs i d in
          let s : length (since same key brings takes h (key x)) ≤ length (brought brings h) = kept-within h (key x) in
          elim (place-or_none (λ y. same (key x) (key y)) (since same key brings takes h (key x))) [
            | inl less ↦ omega arith
            | inr none ↦ absurd (at-none (λ y. same (key x) (key y)) xs (a.found (key x) ∙ none) i d w (self (key x)))
          ]

  kept-from_at : (h : List E) (xs : List X) → HistoryAt h xs → IsKept same key brings takes h xs
  unfolding HistoryAt
  kept-from_at h xs a = record {
    found = a.found;
    order = pairs-from_up (λ x. place_of same key brings takes h (key x)) 0 (length (brought brings h)) xs a.order;
  }

  pub IsKept-nil : IsKept same key brings takes [] []
  IsKept-nil = record { found = λ k. refl; order = λ i j d h w. absurd (omega arith) }

  -- an entry first removes items and then adds its own
  pub IsKept-push : (h : List E) (e : E) (xs : List X) → IsKept same key brings takes h xs
      → IsKept same key brings takes (h ++ e ∷ []) (fold (put same key) (filter (λ x. not (takes (key x) e)) xs) (brings e))
  unfolding HistoryAt
  IsKept-push h e xs a =
      let n : ℕ = length (brought brings h) in
      let cut = At-cut same key exact self (λ k. takes k e) (since same key brings takes h) (λ k. n - length (since same key brings takes h k)) n xs (at-from_kept h xs a) in
      let added = At-add_all same key exact self (brings e) (λ k. cond (takes k e) [] (since same key brings takes h k)) (λ k. cond (takes k e) n (n - length (since same key brings takes h k))) n (filter (λ x. not (takes (key x) e)) xs) cut in
      let more : n + length (brings e) ≡ length (brought brings (h ++ e ∷ [])) = omega (arith, ap (length {A = X}) (brought-push h e), length-append (brought brings h) (brings e)) in
      kept-from_at (h ++ e ∷ []) (fold (put same key) (filter (λ x. not (takes (key x) e)) xs) (brings e))
      (At-along same key exact self (λ k. cond (takes k e) [] (since same key brings takes h k) ++ brings e) (since same key brings takes (h ++ e ∷ []))
      (λ k. cond (takes k e) n (n - length (since same key brings takes h k))) (λ k. length (brought brings (h ++ e ∷ [])) - length (since same key brings takes (h ++ e ∷ []) k))
      (n + length (brings e)) (length (brought brings (h ++ e ∷ []))) (fold (put same key) (filter (λ x. not (takes (key x) e)) xs) (brings e))
      (kept-push h e)
      (λ k. omega (arith, added.sums k, ap (length {A = X}) (kept-push h e k)))
      more added)

  -- ---- a history has only one list of retained items

  find-low : (place : K → ℕ) (high : ℕ) (k : K) (z : X) (low : ℕ) (xs : List X) → Up (λ x. place (key x)) low high xs → find (λ x. same k (key x)) xs ≡ Some z → low ≤ place k
  find-low place high k z low [] u e = absurd (cc)
  find-low place high k z low (x ∷ xs) u e = go (same k (key x)) refl e (find-low place high k z (place (key x) + 1) xs u.1)
    where
      go : (b : Bool) → same k (key x) ≡ b → cond b (Some x) (find (λ y. same k (key y)) xs) ≡ Some z
          → (find (λ y. same k (key y)) xs ≡ Some z → place (key x) + 1 ≤ place k) → low ≤ place k
      go true is e rest = omega (arith, u.0, ap place (exact k (key x) is))
      go false is e rest = omega (arith, u.0, rest e)

  none-low : (place : K → ℕ) (high : ℕ) (k : K) (low : ℕ) (xs : List X) → Up (λ x. place (key x)) low high xs → place k < low → find (λ x. same k (key x)) xs ≡ None
  none-low place high k low xs u h = go (find (λ x. same k (key x)) xs) refl
    where
      go : (o : Option X) → find (λ x. same k (key x)) xs ≡ o → o ≡ None
      go None e = refl
      go (Some z) e = absurd (let w : low ≤ place k = find-low place high k z low xs u e in omega arith)

  pub only-one : (place : K → ℕ) (high low : ℕ) (xs ys : List X) → Up (λ x. place (key x)) low high xs → Up (λ x. place (key x)) low high ys
      → ((k : K) → find (λ x. same k (key x)) xs ≡ find (λ x. same k (key x)) ys) → xs ≡ ys
  only-one place high low [] [] u v alike = refl
  only-one place high low [] (y ∷ ys) u v alike = absurd (let e : None ≡ Some y = alike (key y) ∙ ap (λ (b : Bool). cond b (Some y) (find (λ x. same (key y) (key x)) ys)) (self (key y)) in cc)
  only-one place high low (x ∷ xs) [] u v alike = absurd (let e : Some x ≡ None = sym (ap (λ (b : Bool). cond b (Some x) (find (λ y. same (key x) (key y)) xs)) (self (key x))) ∙ alike (key x) in cc)
  only-one place high low (x ∷ xs) (y ∷ ys) u v alike = go (same (key x) (key y)) refl (only-one place high (place (key x) + 1) xs ys u.1)
    where
      first : Some x ≡ cond (same (key x) (key y)) (Some y) (find (λ z. same (key x) (key z)) ys)
      first = sym (ap (λ (b : Bool). cond b (Some x) (find (λ z. same (key x) (key z)) xs)) (self (key x))) ∙ alike (key x)

      second : cond (same (key y) (key x)) (Some x) (find (λ z. same (key y) (key z)) xs) ≡ Some y
      second = alike (key y) ∙ ap (λ (b : Bool). cond b (Some y) (find (λ z. same (key y) (key z)) ys)) (self (key y))

      tails : key x ≡ key y → Up (λ z. place (key z)) (place (key x) + 1) high ys → (k : K) (b : Bool) → same k (key x) ≡ b
          → cond b (Some x) (find (λ z. same k (key z)) xs) ≡ cond b (Some y) (find (λ z. same k (key z)) ys) → find (λ z. same k (key z)) xs ≡ find (λ z. same k (key z)) ys
      tails e w k true is both =
          let n : place k ≡ place (key x) = ap place (exact k (key x) is) in
          none-low place high k (place (key x) + 1) xs u.1 (omega arith) ∙ sym (none-low place high k (place (key x) + 1) ys w (omega arith))
      tails e w k false is both = both

      go : (b : Bool) → same (key x) (key y) ≡ b
          → (Up (λ z. place (key z)) (place (key x) + 1) high ys → ((k : K) → find (λ z. same k (key z)) xs ≡ find (λ z. same k (key z)) ys) → xs ≡ ys) → x ∷ xs ≡ y ∷ ys
      go true is rest =
          let e : key x ≡ key y = exact (key x) (key y) is in
          let w : Up (λ z. place (key z)) (place (key x) + 1) high ys = subst (λ (k : K). Up (λ (z : X). place (key z)) (place k + 1) high ys) (sym e) v.1 in
          let f : Some x ≡ Some y = first ∙ ap (λ (b : Bool). cond b (Some y) (find (λ z. same (key x) (key z)) ys)) is in
          let head : x ≡ y = cc in
          let tail : xs ≡ ys = rest w (λ k. tails e w k (same k (key x)) refl (alike k ∙ ap (λ (b : Bool). cond b (Some y) (find (λ z. same k (key z)) ys)) (ap (same k) (sym e)))) in
          cc
      go false is rest =
          let f : find (λ z. same (key x) (key z)) ys ≡ Some x = sym (first ∙ ap (λ (b : Bool). cond b (Some y) (find (λ z. same (key x) (key z)) ys)) is) in
          let less : place (key y) + 1 ≤ place (key x) = find-low place high (key x) x (place (key y) + 1) ys v.1 f in
          let more : (b : Bool) → same (key y) (key x) ≡ b → place (key x) + 1 ≤ place (key y) = λ b t. turn b t second in
          absurd (let m : place (key x) + 1 ≤ place (key y) = more (same (key y) (key x)) refl in omega arith)
        where
          turn : (b : Bool) → same (key y) (key x) ≡ b → cond (same (key y) (key x)) (Some x) (find (λ z. same (key y) (key z)) xs) ≡ Some y → place (key x) + 1 ≤ place (key y)
          turn true t s = absurd (let e : key y ≡ key x = exact (key y) (key x) t in let r : same (key x) (key y) ≡ true = ap (same (key x)) e ∙ self (key x) in cc)
          turn false t s = find-low place high (key y) y (place (key x) + 1) xs u.1 (sym (ap (λ (c : Bool). cond c (Some x) (find (λ z. same (key y) (key z)) xs)) t) ∙ s)

  pub IsKept-unique : (h : List E) (xs ys : List X) → IsKept same key brings takes h xs → IsKept same key brings takes h ys → xs ≡ ys
  unfolding HistoryAt
  IsKept-unique h xs ys a b =
      only-one (place_of same key brings takes h) (length (brought brings h)) 0 xs ys (at-from_kept h xs a).order (at-from_kept h ys b).order (λ k. a.found k ∙ sym (b.found k))
