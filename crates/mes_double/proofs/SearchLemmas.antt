-- Searches among numbers and lists, which find an element or show that there is none.
use Rattle.std.proofs.Common.{◌≡◌, ◌⊎◌, inl, inr, ℕ, zero, suc, ◌<◌, Bool, true, false, ltb, List, length, slice_get, Option, Some, None, refl, sym, subst, ◌∙◌, true≢false, arith}
use Rattle.std.proofs.lemmas.Bool.Decides.{Decides-ltb}
use Rattle.std.proofs.lemmas.Option.{slice_get_within}

pub is-true : (b : Bool) → Dec (b ≡ true)
is-true true = yes refl
is-true false = no (λ (e : false ≡ true). absurd (true≢false (sym e)))

pub is-false : (b : Bool) → Dec (b ≡ false)
is-false true = no (λ (e : true ≡ false). absurd (true≢false e))
is-false false = yes refl

pub is-none : {X : Type 0} (o : Option X) → Dec (o ≡ None)
is-none None = yes refl
is-none (Some x) = no (λ (e : Some x ≡ None). absurd (cc))

pub is-less : (a b : ℕ) → Dec (a < b)
is-less a b = by (ltb a b) refl
  where
    by : (t : Bool) → ltb a b ≡ t → Dec (a < b)
    by true e = yes ((Decides-ltb a b).0 e)
    by false e = no (λ (l : a < b). true≢false (sym ((Decides-ltb a b).1 l) ∙ e))

pub both : {P Q : Type 0} → Dec P → Dec Q → Dec (P ⊎ Q)
both (yes p) q = yes (inl p)
both (no f) (yes q) = yes (inr q)
both {P} {Q} (no f) (no g) = no by
  where
    by : P ⊎ Q → ⊥
    by (inl p) = f p
    by (inr q) = g q

-- ---- searches for a number with a property

-- the least number with the property, or a proof that no number has the property
pub data Search (P : ℕ → Type 0) : Type 0 where
  found : (n : ℕ) → P n → ((k : ℕ) → k < n → P k → ⊥) → Search P
  nowhere : ((n : ℕ) → P n → ⊥) → Search P

module _ (P : ℕ → Type 0) (either : (n : ℕ) → Dec (P n)) where
  before : (b : ℕ) → ((n : ℕ) × P n × ((k : ℕ) → k < n → P k → ⊥)) ⊎ ((k : ℕ) → k < b → P k → ⊥)
  before zero = inr (λ k l p. absurd (omega (arith, l)))
  before (suc b) = by (before b) (either b)
    where
      by : ((n : ℕ) × P n × ((k : ℕ) → k < n → P k → ⊥)) ⊎ ((k : ℕ) → k < b → P k → ⊥) → Dec (P b)
          → ((n : ℕ) × P n × ((k : ℕ) → k < n → P k → ⊥)) ⊎ ((k : ℕ) → k < suc b → P k → ⊥)
      by (inl h) e = inl h
      by (inr none) (yes p) = inl (b, p, none)
      by (inr none) (no f) = inr past
        where
          past : (k : ℕ) → k < suc b → P k → ⊥
          past k l p = apart (is-less k b)
            where
              apart : Dec (k < b) → ⊥
              apart (yes m) = none k m p
              apart (no m) = let same : k ≡ b = omega (arith, l, m) in f (subst P same p)

  pub search : (b : ℕ) → ((n : ℕ) → P n → n < b) → Search P
  search b within = by (before b)
    where
      by : ((n : ℕ) × P n × ((k : ℕ) → k < n → P k → ⊥)) ⊎ ((k : ℕ) → k < b → P k → ⊥) → Search P
      by (inl h) = found h.0 h.1 h.2
      by (inr none) = nowhere (λ n p. none n (within n p) p)

  pub some : (b : ℕ) → ((n : ℕ) → P n → n < b) → Dec ((n : ℕ) × P n)
  some b within = by (search b within)
    where
      by : Search P → Dec ((n : ℕ) × P n)
      by (found n p first) = yes (n, p)
      by (nowhere none) = no (λ h. none h.0 h.1)

-- ---- searches for an element of a list with a property

module _ {X : Type 0} (P : X → Type 0) (either : (x : X) → Dec (P x)) (xs : List X) where
  abbrev pub At : ℕ → Type 0
  At n = (x : X) × (slice_get xs n ≡ Some x) × P x

  at : (n : ℕ) → Dec (At n)
  at n = by (slice_get xs n) refl
    where
      here : (x : X) → slice_get xs n ≡ Some x → Dec (P x) → Dec (At n)
      here x e (yes p) = yes (x, e, p)
      here x e (no f) = no (λ (h : At n). let g : Some x ≡ Some h.0 = sym e ∙ h.1 in let same : h.0 ≡ x = cc in f (subst P same h.2))

      by : (o : Option X) → slice_get xs n ≡ o → Dec (At n)
      by None e = no (λ (h : At n). let f : None ≡ Some h.0 = sym e ∙ h.1 in absurd (cc))
      by (Some x) e = here x e (either x)

  pub search-list : Search At
  search-list = search At at (length xs) (λ n h. slice_get_within xs n h.0 h.1)
