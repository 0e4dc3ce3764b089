-- Lemmas about tests and sums over lists, and over lists of lists.
use Rattle.std.proofs.Common.{◌≡◌, ℕ, zero, suc, ◌+◌, ◌≤◌, ◌<◌, Bool, true, false, ◌||◌, ◌⊎◌, inl, inr, Some, List, [], ◌∷◌, ◌++◌, length, take, drop, get_or, slice_get, refl, sym, ◌∙◌, ap, arith}
use Rattle.std.specs.List.{list_any, flat_map, sum_by}
use Rattle.std.proofs.lemmas.Grind.{flat_map-append}
use Rattle.std.proofs.lemmas.List.Folds.{list_any-append}
use Rattle.std.proofs.lemmas.List.Sums.{sum_by-append, sum_by-cons}

pub or-cases : (a b : Bool) → (a || b) ≡ true → (a ≡ true) ⊎ (b ≡ true)
or-cases true b e = inl refl
or-cases false b e = inr e

module _ {X Y : Type 0} where
  pub any-flat_map : (p : Y → Bool) (f : X → List Y) (xs : List X) → list_any p (flat_map f xs) ≡ list_any (λ x. list_any p (f x)) xs
  any-flat_map p f [] = refl
  any-flat_map p f (x ∷ xs) = list_any-append p (f x) (flat_map f xs) ∙ ap (λ b. list_any p (f x) || b) (any-flat_map p f xs)

  pub sum-flat_map : (p : Y → ℕ) (f : X → List Y) (xs : List X) → sum_by p (flat_map f xs) ≡ sum_by (λ x. sum_by p (f x)) xs
  sum-flat_map p f [] = refl
  sum-flat_map p f (x ∷ xs) =
      sum_by-append p (f x) (flat_map f xs) ∙ ap (λ n. sum_by p (f x) + n) (sum-flat_map p f xs) ∙ sym (sum_by-cons (λ y. sum_by p (f y)) x xs)

module _ {X Y Z : Type 0} where
  pub flat_map-flat_map : (g : Y → List Z) (f : X → List Y) (xs : List X) → flat_map g (flat_map f xs) ≡ flat_map (λ x. flat_map g (f x)) xs
  flat_map-flat_map g f [] = refl
  flat_map-flat_map g f (x ∷ xs) = flat_map-append g (f x) (flat_map f xs) ∙ ap (λ (zs : List Z). flat_map g (f x) ++ zs) (flat_map-flat_map g f xs)

module _ {X : Type 0} where
  pub record Found (p : X → Bool) (xs : List X) : Type 0 where
    pub index : ℕ
    pub value : X
    pub is : slice_get xs index ≡ Some value
    pub passes : p value ≡ true

  pub any-found : (p : X → Bool) (xs : List X) → list_any p xs ≡ true → Found p xs
  any-found p [] e = absurd (cc)
  any-found p (x ∷ xs) e = elim (or-cases (p x) (list_any p xs) e) [
    | inl now ↦ record { index = 0; value = x; is = refl; passes = now }
    | inr later ↦ (let f : Found p xs = any-found p xs later in record { index = suc f.index; value = f.value; is = f.is; passes = f.passes })
  ]

  pub any-at : (p : X → Bool) (xs : List X) (i : ℕ) (x : X) → slice_get xs i ≡ Some x → p x ≡ true → list_any p xs ≡ true
  any-at p [] i x e t = absurd (cc)
  any-at p (y ∷ ys) zero x e t = let s : y ≡ x = cc in rw (s, t) refl
  any-at p (y ∷ ys) (suc i) x e t = rw (any-at p ys i x e t) (grind arith)

  pub get-take : (xs : List X) (n i : ℕ) (x : X) → slice_get (take n xs) i ≡ Some x → (i < n) × (slice_get xs i ≡ Some x)
  get-take xs zero i x e = absurd (cc)
  get-take [] (suc n) i x e = absurd (cc)
  get-take (y ∷ ys) (suc n) zero x e = (omega arith, e)
  get-take (y ∷ ys) (suc n) (suc i) x e = let r : (i < n) × (slice_get ys i ≡ Some x) = get-take ys n i x e in (omega arith, r.1)

  pub get-drop : (xs : List X) (n i : ℕ) (x : X) → n ≤ i → slice_get xs i ≡ Some x → (j : ℕ) × (slice_get (drop n xs) j ≡ Some x)
  get-drop xs zero i x h e = (i, e)
  get-drop [] (suc n) i x h e = absurd (cc)
  get-drop (y ∷ ys) (suc n) zero x h e = absurd (omega arith)
  get-drop (y ∷ ys) (suc n) (suc i) x h e = get-drop ys n i x (omega arith) e

  pub get-of : (xs : List X) (i : ℕ) (x : X) → slice_get xs i ≡ Some x → x ≡ get_or xs i x
  get-of [] i x e = absurd (cc)
  get-of (y ∷ ys) zero x e = cc
  get-of (y ∷ ys) (suc i) x e = get-of ys i x e

  pub get-at : (xs : List X) (i : ℕ) (x : X) → i < length xs → x ≡ get_or xs i x → slice_get xs i ≡ Some x
  get-at [] i x h e = absurd (omega arith)
  get-at (y ∷ ys) zero x h e = ap Some (sym e)
  get-at (y ∷ ys) (suc i) x h e = get-at ys i x (omega arith) e
