-- Lemmas about the linear search for the first element of a list that passes a test.
use Rattle.std.proofs.Common.{◌≡◌, ℕ, zero, suc, ◌+◌, ◌<◌, Bool, true, false, ◌||◌, Some, List, [], ◌∷◌, length, take, get_or, slice_get, refl, sym, ◌∙◌, ap, subst, add-one, true≢false, arith}
use Rattle.std.specs.List.{list_any}
use Rattle.mes_session_fit.proofs.ListLemmas.{any-at, get-at, get-of}
use Rattle.mes_session_fit.proofs.LaunchedLemmas.{get-place, take-place}
use Rattle.mes_session_fit.specs.Launched.{launched, place}
use Rattle.mes_model.specs.TaskInfo.{TaskInfo}
use Rattle.std.proofs.lemmas.List.Folds.{list_any-append}
use Rattle.mes_session_state.specs.Looking.{IsFirstAt}

pub none-both : (a b : Bool) → (a || b) ≡ false → (a ≡ false) × (b ≡ false)
none-both true b e = absurd (true≢false e)
none-both false b e = (refl, e)

pub or-none : (a b : Bool) → a ≡ false → b ≡ false → (a || b) ≡ false
or-none a b e f = rw (e, f) refl

module _ {X : Type 0} where
  more-suc : (p : X → Bool) (xs : List X) (i : ℕ) (x : X) → slice_get xs i ≡ Some x → list_any p (take i xs) ≡ false → p x ≡ false → list_any p (take (suc i) xs) ≡ false
  more-suc p [] i x e h f = refl
  more-suc p (y ∷ ys) zero x e h f = let s : y ≡ x = cc in or-none (p y) false (ap p s ∙ f) refl
  more-suc p (y ∷ ys) (suc i) x e h f =
      let parts = none-both (p y) (list_any p (take i ys)) h in
      or-none (p y) (list_any p (take (suc i) ys)) parts.0 (more-suc p ys i x e parts.1 f)

  pub any-more : (p : X → Bool) (xs : List X) (i : ℕ) (x : X) → slice_get xs i ≡ Some x → list_any p (take i xs) ≡ false → p x ≡ false → list_any p (take (i + 1) xs) ≡ false
  any-more p xs i x e h f = rw add-one (more-suc p xs i x e h f)

  pub get-front : (xs : List X) (i k : ℕ) (x : X) → k < i → slice_get xs k ≡ Some x → slice_get (take i xs) k ≡ Some x
  get-front xs zero k x h e = absurd (omega arith)
  get-front [] (suc i) k x h e = e
  get-front (y ∷ ys) (suc i) zero x h e = e
  get-front (y ∷ ys) (suc i) (suc k) x h e = get-front ys i k x (omega arith) e

  pub get-within : (xs : List X) (i : ℕ) (x : X) → slice_get xs i ≡ Some x → i < length xs
  get-within [] i x e = absurd (cc)
  get-within (y ∷ ys) zero x e = omega arith
  get-within (y ∷ ys) (suc i) x e = let h : i < length ys = get-within ys i x e in omega arith

  pub none-before : (p : X → Bool) (xs : List X) (i : ℕ) → list_any p (take i xs) ≡ false → (k : ℕ) (x : X) → k < i → slice_get xs k ≡ Some x → p x ≡ true → ⊥
  none-before p xs i h k x below e t = true≢false (sym (any-at p (take i xs) k x (get-front xs i k x below e) t) ∙ h)

  pub none-at : (p : X → Bool) (xs : List X) → list_any p xs ≡ false → (k : ℕ) (x : X) → slice_get xs k ≡ Some x → p x ≡ true → ⊥
  none-at p xs h k x e t = true≢false (sym (any-at p xs k x e t) ∙ h)

  pub first-at : (p : X → Bool) (xs : List X) (i : ℕ) (x : X) → i < length xs → x ≡ get_or xs i x → p x ≡ true → list_any p (take i xs) ≡ false → IsFirstAt p xs i
  first-at p xs i x within is t h = (x, get-at xs i x within is, t, h)

module _ (p : TaskInfo → Bool) {G : Type 0} (of : G → List TaskInfo) (os : List G) (at : ℕ) (o : G) (within : at < length os) (is : o ≡ get_or os at o) where
  pub first-in : (tasks : List TaskInfo) → tasks ≡ of o → list_any p (launched of (take at os)) ≡ false → (j : ℕ) → IsFirstAt p tasks j → IsFirstAt p (launched of os) (place of os at j)
  first-in tasks part none j h =
      let first : IsFirstAt p (of o) j = subst (λ ts. IsFirstAt p ts j) part h in
      let inside : j < length (of o) = get-within (of o) j first.0 first.1 in (
        first.0,
        get-place of os at o within is j first.0 inside (get-of (of o) j first.0 first.1),
        first.2,
        ap (list_any p) (take-place of os at o within is j (omega (arith, inside))) ∙ list_any-append p (launched of (take at os)) (take j (of o)) ∙ or-none _ _ none first.3,
      )
