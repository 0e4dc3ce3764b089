-- Lemmas about `filter` on lists, and about lists with one more element.
use Rattle.std.proofs.Common.{◌≡◌, ℕ, zero, suc, Bool, true, false, ◌||◌, ◌&&◌, not, ◌⊎◌, inl, inr, filter, fold, length, slice_get, List, [], ◌∷◌, ◌++◌, Some, refl, sym, ap, ◌∙◌}

-- ---- Booleans

pub not-of : (b c : Bool) → b ≡ c → not b ≡ not c
not-of b c e = ap not e

pub or-swap : (a b : Bool) → (a || b) ≡ (b || a)
or-swap true true = refl
or-swap true false = refl
or-swap false true = refl
or-swap false false = refl

pub or-three : (a b c : Bool) → ((a || b) || c) ≡ (a || (b || c))
or-three true b c = refl
or-three false b c = refl

pub or-none : (a : Bool) → (a || false) ≡ a
or-none true = refl
or-none false = refl

pub and-none : (a : Bool) → (a && false) ≡ false
and-none true = refl
and-none false = refl

pub apart : {Z : Type 0} (b : Bool) → b ≡ true → b ≡ false → Z
apart true e f = absurd (cc)
apart false e f = absurd (cc)

module _ {X : Type 0} where
  -- ---- `filter` with a test that is always true, or always false

  pub filter-all : (xs : List X) → filter (λ x. true) xs ≡ xs
  filter-all [] = refl
  filter-all (x ∷ xs) = ap (λ (ys : List X). x ∷ ys) (filter-all xs)

  pub filter-none : (xs : List X) → filter (λ x. false) xs ≡ []
  filter-none [] = refl
  filter-none (x ∷ xs) = filter-none xs

  -- ---- `filter` with two tests, one after the other

  pub filter-two : (a b c : X → Bool) → ((x : X) → (b x && a x) ≡ c x) → (xs : List X) → filter a (filter b xs) ≡ filter c xs
  filter-two a b c same [] = refl
  filter-two a b c same (x ∷ xs) = by (b x) refl (a x) refl (filter-two a b c same xs)
    where
      by : (q : Bool) → b x ≡ q → (p : Bool) → a x ≡ p → filter a (filter b xs) ≡ filter c xs → filter a (filter b (x ∷ xs)) ≡ filter c (x ∷ xs)
      by true e true f rest = (let g : c x ≡ true = sym (same x) ∙ (λ i. e i && f i) in rw (e, f, g) (ap (λ (ys : List X). x ∷ ys) rest))
      by true e false f rest = (let g : c x ≡ false = sym (same x) ∙ (λ i. e i && f i) in rw (e, f, g) rest)
      by false e p f rest = (let g : c x ≡ false = sym (same x) ∙ (λ i. e i && a x) in rw (e, g) rest)

  pub filter-same : (a b : X → Bool) → ((x : X) → a x ≡ b x) → (xs : List X) → filter a xs ≡ filter b xs
  filter-same a b same [] = refl
  filter-same a b same (x ∷ xs) = by (a x) refl (filter-same a b same xs)
    where
      by : (p : Bool) → a x ≡ p → filter a xs ≡ filter b xs → filter a (x ∷ xs) ≡ filter b (x ∷ xs)
      by true e rest = (let g : b x ≡ true = sym (same x) ∙ e in rw (e, g) (ap (λ (ys : List X). x ∷ ys) rest))
      by false e rest = (let g : b x ≡ false = sym (same x) ∙ e in rw (e, g) rest)

  pub filter-turn : (a b : X → Bool) (xs : List X) → filter a (filter b xs) ≡ filter b (filter a xs)
  filter-turn a b xs =
      filter-two a b (λ x. b x && a x) (λ x. refl) xs ∙ sym (filter-two b a (λ x. b x && a x) (λ x. and-swap (a x) (b x)) xs)
    where
      and-swap : (p q : Bool) → (p && q) ≡ (q && p)
      and-swap true true = refl
      and-swap true false = refl
      and-swap false true = refl
      and-swap false false = refl

  -- ---- lists with one more element at the end

  pub get-last : (xs : List X) (y : X) → slice_get (xs ++ y ∷ []) (length xs) ≡ Some y
  get-last [] y = refl
  get-last (x ∷ xs) y = get-last xs y

  pub get-front : (xs ys : List X) (i : ℕ) (x : X) → slice_get xs i ≡ Some x → slice_get (xs ++ ys) i ≡ Some x
  get-front [] ys i x e = absurd (cc)
  get-front (z ∷ zs) ys zero x e = e
  get-front (z ∷ zs) ys (suc i) x e = get-front zs ys i x e

  pub front-or-last : (xs : List X) (y : X) (i : ℕ) (x : X) → slice_get (xs ++ y ∷ []) i ≡ Some x → (slice_get xs i ≡ Some x) ⊎ ((i ≡ length xs) × (y ≡ x))
  front-or-last [] y zero x e = inr (refl, (let d : Some y ≡ Some x = e in cc))
  front-or-last [] y (suc i) x e = absurd (cc)
  front-or-last (z ∷ zs) y zero x e = inl e
  front-or-last (z ∷ zs) y (suc i) x e = elim (front-or-last zs y i x e) [
    | inl p ↦ inl p
    | inr p ↦ inr (ap suc p.0, p.1)
  ]

  pub one-there : (xs : List X) (i : ℕ) (x y : X) → slice_get xs i ≡ Some x → slice_get xs i ≡ Some y → x ≡ y
  one-there xs i x y e f = (let g : Some x ≡ Some y = sym e ∙ f in cc)

module _ {S E : Type 0} (f : S → E → S) where
  pub fold-more : (s : S) (xs ys : List E) → fold f s (xs ++ ys) ≡ fold f (fold f s xs) ys
  fold-more s [] ys = refl
  fold-more s (x ∷ xs) ys = fold-more (f s x) xs ys
