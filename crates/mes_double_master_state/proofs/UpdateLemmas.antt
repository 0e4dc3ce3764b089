-- Lemmas about the loops over the updates that a master has sent.
use Rattle.std.proofs.Common.{◌≡◌, ℕ, zero, suc, ◌+◌, ◌-◌, ◌<◌, Bool, true, false, map, filter_map, length, take, drop, get_or, slice_get, List, [], ◌∷◌, ◌++◌, Option, Some, None, is_some, option_map, refl, sym, ap, ◌∙◌, add-one, arith}
use Rattle.std.specs.Map.{values_of, lookup}
use Rattle.std.proofs.lemmas.List.{take_more}
use Rattle.mes_model.specs.OwedKey.{OwedKey}
use Rattle.mes_model.specs.TaskStatus.{TaskStatus}
use Rattle.mes_session_state.specs.Held.{is_owed}
use Rattle.mes_double_master_state.specs.Updates.{waiting}

module _ {X : Type 0} where
  pub drop-get : (xs : List X) (i : ℕ) (x : X) → slice_get xs i ≡ Some x → drop i xs ≡ x ∷ drop (suc i) xs
  drop-get [] i x e = absurd (cc)
  drop-get (y ∷ ys) zero x e = (let s : y ≡ x = cc in ap (λ (z : X). z ∷ ys) s)
  drop-get (y ∷ ys) (suc i) x e = drop-get ys i x e

  pub get-following : (x : X) (xs : List X) (n : ℕ) → (n ≡ 0 → ⊥) → slice_get (x ∷ xs) n ≡ slice_get xs (n - 1)
  get-following x xs zero some = absurd (some refl)
  get-following x xs (suc n) some = (let e : suc n - 1 ≡ n = omega arith in rw e refl)

module _ (owing : List (OwedKey × TaskStatus)) (acked : List OwedKey) (at : ℕ) (e : OwedKey × TaskStatus) (here : slice_get owing at ≡ Some e) where
  passed : is_owed e.0 acked ≡ true → waiting (drop at owing) acked ≡ waiting (drop (at + 1) owing) acked
  passed f = rw (drop-get owing at e here, f, add-one) refl

  met : is_owed e.0 acked ≡ false → waiting (drop at owing) acked ≡ e ∷ waiting (drop (at + 1) owing) acked
  met f = rw (drop-get owing at e here, f, add-one) refl

  module _ (before index : ℕ) where
    pub passes : is_owed e.0 acked ≡ true → slice_get (waiting (drop at owing) acked) before ≡ slice_get (waiting owing acked) index
        → slice_get (waiting (drop (at + 1) owing) acked) before ≡ slice_get (waiting owing acked) index
    passes f reported = sym (ap (λ (l : List (OwedKey × TaskStatus)). slice_get l before) (passed f)) ∙ reported

    pub reports : is_owed e.0 acked ≡ false → before ≡ 0 → slice_get (waiting (drop at owing) acked) before ≡ slice_get (waiting owing acked) index
        → Some e.1 ≡ option_map (λ (p : OwedKey × TaskStatus). p.1) (slice_get (waiting owing acked) index)
    reports f none reported =
        let first : slice_get (waiting (drop at owing) acked) before ≡ Some e =
        (λ i. slice_get (met f i) (none i)) in
        ap (option_map (λ (p : OwedKey × TaskStatus). p.1)) (sym first ∙ reported)

    pub goes_on : is_owed e.0 acked ≡ false → (before ≡ 0 → ⊥) → slice_get (waiting (drop at owing) acked) before ≡ slice_get (waiting owing acked) index
        → slice_get (waiting (drop (at + 1) owing) acked) (before - 1) ≡ slice_get (waiting owing acked) index
    goes_on f some reported =
        sym (get-following e (waiting (drop (at + 1) owing) acked) before some) ∙ sym (ap (λ (l : List (OwedKey × TaskStatus)). slice_get l before) (met f)) ∙ reported

module _ {X Y Z : Type 0} (g : Y → Z) where
  pub map-more : (f : X → Option Y) (xs ys : List X) → map g (filter_map f (xs ++ ys)) ≡ map g (filter_map f xs) ++ map g (filter_map f ys)
  map-more f [] ys = refl
  map-more f (x ∷ xs) ys = by (f x) refl (map-more f xs ys)
    where
      by : (o : Option Y) → f x ≡ o → map g (filter_map f (xs ++ ys)) ≡ map g (filter_map f xs) ++ map g (filter_map f ys)
          → map g (filter_map f (x ∷ xs ++ ys)) ≡ map g (filter_map f (x ∷ xs)) ++ map g (filter_map f ys)
      by None e rest = rw e rest
      by (Some y) e rest = rw e (ap (λ (l : List Z). g y ∷ l) rest)

  next-value : (es : List (X × Y)) (i : ℕ) (e : X × Y) → slice_get es i ≡ Some e → map g (values_of (take (suc i) es)) ≡ map g (values_of (take i es)) ++ g e.1 ∷ []
  next-value [] i e h = absurd (cc)
  next-value (x ∷ es) zero e h = (let s : x ≡ e = cc in ap (λ (z : X × Y). g z.1 ∷ []) s)
  next-value (x ∷ es) (suc i) e h = ap (λ (l : List Z). g x.1 ∷ l) (next-value es i e h)

  pub value-more : (es : List (X × Y)) (i : ℕ) (e : X × Y) → slice_get es i ≡ Some e → map g (values_of (take (i + 1) es)) ≡ map g (values_of (take i es)) ++ g e.1 ∷ []
  value-more es i e h = ap (λ (n : ℕ). map g (values_of (take n es))) (add-one i) ∙ next-value es i e h

  pub told-more : (f : X → Option Y) (xs : List X) (i : ℕ) (x : X) → i < length xs → x ≡ get_or xs i x
      → map g (filter_map f (take (i + 1) xs)) ≡ map g (filter_map f (take i xs)) ++ map g (filter_map f (x ∷ []))
  told-more f xs i x within is =
      ap (λ (l : List X). map g (filter_map f l)) (take_more xs i x within ∙ ap (λ (z : X). take i xs ++ z ∷ []) (sym is))
      ∙ map-more f (take i xs) (x ∷ [])

pub not_there : {K V : Type 0} (test : K → Bool) (es : List (K × V)) → is_some (lookup test es) ≡ false → lookup test es ≡ None
not_there test es e = by (lookup test es) refl
  where
    by : (o : Option _) → lookup test es ≡ o → lookup test es ≡ None
    by None f = f
    by (Some v) f = (let g : is_some (lookup test es) ≡ true = ap is_some f in absurd (cc))
