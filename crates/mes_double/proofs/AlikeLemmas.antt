-- Offers with the same identifier are the same offer: in the session, in events and in the master.
use Rattle.std.proofs.Common.{◌≡◌, ℕ, suc, ◌+◌, ◌≤◌, Bool, true, false, ◌||◌, filter, slice_get, List, [], ◌∷◌, ◌++◌, Option, Some, None, is_some, refl, sym, ap, subst, ◌∙◌, arith}
use Rattle.std.specs.List.{list_all}
use Rattle.std.specs.List.Sorted.{IsPermutation}
use Rattle.std.specs.Str.{bytes_eq}
use Rattle.std.proofs.lemmas.Bool.{and_parts, or_parts}
use Rattle.std.proofs.lemmas.List.Sorted.{IsPermutation-refl, IsPermutation-cons, IsPermutation-trans, IsPermutation-middle}
use Rattle.std.proofs.lemmas.Slice.Eq.{bytes_eq-Decides}
use Rattle.mes_model.specs.Id.{Id}
use Rattle.mes_model.specs.Offer.{Offer}
use Rattle.mes_session_state.specs.Keeping.{put}
use Rattle.mes_session_state.specs.Held.{name_of, offer_in, names, with_offers}
use Rattle.mes_session_state.specs.Refusals.{is_among, is_duplicated, offers_named}
use Rattle.mes_double_master.specs.Masters.{is_there}
use Rattle.mes_double_master.proofs.AgainLemmas.{same_text}
use Rattle.mes_double.proofs.ListLemmas.{apart}
use Rattle.mes_double.proofs.CountLemmas.{count, count-first, count-later, count-found, same-in}

-- if an outstanding offer has the identifier of x, it is x
abbrev pub IsSame : List Offer → Offer → Type 0
IsSame out x = 1 ≤ count (name_of x) out → offer_in out (name_of x) ≡ Some x

abbrev pub AllSame : List Offer → List Offer → Type 0
AllSame out [] = Unit {0}
AllSame out (x ∷ xs) = IsSame out x × AllSame out xs

pub same-append : (out xs ys : List Offer) → AllSame out xs → AllSame out ys → AllSame out (xs ++ ys)
same-append out [] ys a b = b
same-append out (x ∷ xs) ys a b = (a.0, same-append out xs ys a.1 b)

pub same-front : (out xs ys : List Offer) → AllSame out (xs ++ ys) → AllSame out xs
same-front out [] ys a = tt
same-front out (x ∷ xs) ys a = (a.0, same-front out xs ys a.1)

pub same-back : (out xs ys : List Offer) → AllSame out (xs ++ ys) → AllSame out ys
same-back out [] ys a = a
same-back out (x ∷ xs) ys a = same-back out xs ys a.1

pub same-filter : (out : List Offer) (p : Offer → Bool) (xs : List Offer) → AllSame out xs → AllSame out (filter p xs)
same-filter out p [] a = a
same-filter out p (x ∷ xs) a = by (p x) refl (same-filter out p xs a.1)
  where
    by : (b : Bool) → p x ≡ b → AllSame out (filter p xs) → AllSame out (filter p (x ∷ xs))
    by true e rest = rw e (a.0, rest)
    by false e rest = rw e rest

same-put : (out xs : List Offer) (x : Offer) → AllSame out xs → IsSame out x → AllSame out (put bytes_eq name_of xs x)
same-put out [] x a s = (s, tt)
same-put out (y ∷ ys) x a s = by (bytes_eq (name_of x) (name_of y)) refl (same-put out ys x a.1 s)
  where
    by : (b : Bool) → bytes_eq (name_of x) (name_of y) ≡ b → AllSame out (put bytes_eq name_of ys x) → AllSame out (put bytes_eq name_of (y ∷ ys) x)
    by true e rest = rw e (s, a.1)
    by false e rest = rw e (a.0, rest)

pub same-with : (out xs news : List Offer) → AllSame out xs → AllSame out news → AllSame out (with_offers xs news)
same-with out xs [] a b = a
same-with out xs (x ∷ news) a b = same-with out (put bytes_eq name_of xs x) news (same-put out xs x a b.0) b.1

pub same-each : (out other xs : List Offer) → ((x : Offer) → 1 ≤ count (name_of x) xs → IsSame out x → IsSame other x) → AllSame out xs → AllSame other xs
same-each out other [] f a = tt
same-each out other (x ∷ xs) f a = (f x (count-first x xs) a.0, same-each out other xs (λ y h. f y (count-later (name_of y) x xs h)) a.1)

-- ---- if outstanding offers are removed

module _ (q : Offer → Bool) (alike : (a b : Offer) → name_of a ≡ name_of b → q a ≡ q b) where
  none-left : (x : Offer) (os : List Offer) → q x ≡ false → 1 ≤ count (name_of x) (filter q os) → ⊥
  none-left x [] e h = omega (arith, h)
  none-left x (o ∷ os) e h = by (q o) refl (bytes_eq (name_of x) (name_of o)) refl h (none-left x os e)
    where
      by : (b : Bool) → q o ≡ b → (k : Bool) → bytes_eq (name_of x) (name_of o) ≡ k → 1 ≤ count (name_of x) (filter q (o ∷ os)) → (1 ≤ count (name_of x) (filter q os) → ⊥) → ⊥
      by false f k g h rest = rest (let d : 1 ≤ count (name_of x) (filter q os) = rw f at h in d)
      by true f true g h rest = apart (q x) (alike x o ((bytes_eq-Decides (name_of x) (name_of o)).0 g) ∙ f) e
      by true f false g h rest = rest (let d : 1 ≤ count (name_of x) (o ∷ filter q os) = rw f at h in let l : 1 ≤ 0 + count (name_of x) (filter q os) = rw g at d in omega (arith, l))

  found-still : (x : Offer) (os : List Offer) → q x ≡ true → offer_in os (name_of x) ≡ Some x → offer_in (filter q os) (name_of x) ≡ Some x
  found-still x [] e f = absurd (cc)
  found-still x (o ∷ os) e f = by (bytes_eq (name_of x) (name_of o)) refl (q o) refl f (found-still x os e)
    where
      by : (k : Bool) → bytes_eq (name_of x) (name_of o) ≡ k → (b : Bool) → q o ≡ b → offer_in (o ∷ os) (name_of x) ≡ Some x → (offer_in os (name_of x) ≡ Some x → offer_in (filter q os) (name_of x) ≡ Some x)
          → offer_in (filter q (o ∷ os)) (name_of x) ≡ Some x
      by true g true h f rest = rw h (rw g (let d : Some o ≡ Some x = rw g at f in d))
      by true g false h f rest = apart (q x) e (alike x o ((bytes_eq-Decides (name_of x) (name_of o)).0 g) ∙ h)
      by false g true h f rest = rw h (rw g (rest (let d : offer_in os (name_of x) ≡ Some x = rw g at f in d)))
      by false g false h f rest = rw h (rest (let d : offer_in os (name_of x) ≡ Some x = rw g at f in d))

  pub still-same : (out : List Offer) (x : Offer) → ((h : 1 ≤ count (name_of x) (filter q out)) → 1 ≤ count (name_of x) out) → IsSame out x → IsSame (filter q out) x
  still-same out x more s h = by (q x) refl
    where
      by : (b : Bool) → q x ≡ b → offer_in (filter q out) (name_of x) ≡ Some x
      by true e = found-still x out e (s (more h))
      by false e = absurd (none-left x out e h)

-- ---- if outstanding offers are added

found-put : (n : List ℕ) (os : List Offer) (x : Offer) → bytes_eq n (name_of x) ≡ false → offer_in (put bytes_eq name_of os x) n ≡ offer_in os n
found-put n [] x e = rw e refl
found-put n (o ∷ os) x e = by (bytes_eq (name_of x) (name_of o)) refl (bytes_eq n (name_of o)) refl (found-put n os x e)
  where
    by : (b : Bool) → bytes_eq (name_of x) (name_of o) ≡ b → (k : Bool) → bytes_eq n (name_of o) ≡ k → offer_in (put bytes_eq name_of os x) n ≡ offer_in os n
        → offer_in (put bytes_eq name_of (o ∷ os) x) n ≡ offer_in (o ∷ os) n
    by true f true g rest =
        apart (bytes_eq n (name_of x)) ((bytes_eq-Decides n (name_of x)).1 ((bytes_eq-Decides n (name_of o)).0 g ∙ sym ((bytes_eq-Decides (name_of x) (name_of o)).0 f))) e
    by true f false g rest = rw f (rw (e, g) refl)
    by false f true g rest = rw f (rw g refl)
    by false f false g rest = rw f (rw g rest)

pub found-with : (n : List ℕ) (os news : List Offer) → count n news ≡ 0 → offer_in (with_offers os news) n ≡ offer_in os n
found-with n os [] e = refl
found-with n os (x ∷ news) e = by (bytes_eq n (name_of x)) refl (found-with n (put bytes_eq name_of os x) news)
  where
    by : (b : Bool) → bytes_eq n (name_of x) ≡ b → (count n news ≡ 0 → offer_in (with_offers (put bytes_eq name_of os x) news) n ≡ offer_in (put bytes_eq name_of os x) n)
        → offer_in (with_offers os (x ∷ news)) n ≡ offer_in os n
    by true f rest = absurd (let g : 1 + count n news ≡ 0 = rw f at e in omega (arith, g))
    by false f rest = rest (let g : 0 + count n news ≡ 0 = rw f at e in omega (arith, g)) ∙ found-put n os x f

found-own : (os : List Offer) (x : Offer) → offer_in (put bytes_eq name_of os x) (name_of x) ≡ Some x
found-own [] x = rw (same_text (name_of x)) refl
found-own (o ∷ os) x = by (bytes_eq (name_of x) (name_of o)) refl (found-own os x)
  where
    by : (b : Bool) → bytes_eq (name_of x) (name_of o) ≡ b → offer_in (put bytes_eq name_of os x) (name_of x) ≡ Some x → offer_in (put bytes_eq name_of (o ∷ os) x) (name_of x) ≡ Some x
    by true e rest = rw e (rw (same_text (name_of x)) refl)
    by false e rest = rw e (rw e rest)

-- new offers without duplicates are found, by identifier, among the outstanding offers
pub new-same : (os news : List Offer) → ((x : List ℕ) → count x news ≤ 1) → AllSame (with_offers os news) news
new-same os [] once = tt
new-same os (x ∷ news) once =
    let none : count (name_of x) news ≡ 0 = (let o : count (name_of x) (x ∷ news) ≤ 1 = once (name_of x) in let g : 1 + count (name_of x) news ≤ 1 = rw (same_text (name_of x)) at o in omega (arith, g)) in
    (λ h. found-with (name_of x) (put bytes_eq name_of os x) news none ∙ found-own os x, new-same (put bytes_eq name_of os x) news (λ y. omega (arith, once y)))

pub more-same : (out news : List Offer) (x : Offer) → count (name_of x) news ≡ 0 → (1 ≤ count (name_of x) (with_offers out news) → 1 ≤ count (name_of x) out) → IsSame out x → IsSame (with_offers out news) x
more-same out news x none less s h = found-with (name_of x) out news none ∙ s (less h)

-- ---- the offers that a call names

-- the list has one offer for each identifier, in order
abbrev pub AreOf : List Id → List Offer → Type 0
AreOf [] [] = Unit {0}
AreOf [] (x ∷ xs) = ⊥
AreOf (d ∷ ds) [] = ⊥
AreOf (d ∷ ds) (x ∷ xs) = (name_of x ≡ d.value) × AreOf ds xs

-- an offer that is found by an identifier has this identifier, and is in the list
found-is : (n : List ℕ) (os : List Offer) (x : Offer) → offer_in os n ≡ Some x → name_of x ≡ n
found-is n [] x e = absurd (cc)
found-is n (o ∷ os) x e = by (bytes_eq n (name_of o)) refl e (found-is n os x)
  where
    by : (b : Bool) → bytes_eq n (name_of o) ≡ b → offer_in (o ∷ os) n ≡ Some x → (offer_in os n ≡ Some x → name_of x ≡ n) → name_of x ≡ n
    by true f e rest =
        (let g : Some o ≡ Some x = rw f at e in
        let same : o ≡ x = cc in
        ap name_of (sym same) ∙ sym ((bytes_eq-Decides n (name_of o)).0 f))
    by false f e rest = rest (let g : offer_in os n ≡ Some x = rw f at e in g)

found-same : (out : List Offer) (n : List ℕ) (os : List Offer) (x : Offer) → offer_in os n ≡ Some x → AllSame out os → IsSame out x
found-same out n [] x e a = absurd (cc)
found-same out n (o ∷ os) x e a = by (bytes_eq n (name_of o)) refl e (λ f. found-same out n os x f a.1)
  where
    by : (b : Bool) → bytes_eq n (name_of o) ≡ b → offer_in (o ∷ os) n ≡ Some x → (offer_in os n ≡ Some x → IsSame out x) → IsSame out x
    by true f e rest = (let g : Some o ≡ Some x = rw f at e in let same : o ≡ x = cc in subst (IsSame out) same a.0)
    by false f e rest = rest (let g : offer_in os n ≡ Some x = rw f at e in g)

module _ (out hand : List Offer) (all : AllSame out hand) where
  -- if all named offers are outstanding, the list of named offers has one for each identifier
  pub named-are : (ids : List Id) → ((i : ℕ) (d : Id) → slice_get ids i ≡ Some d → offer_in hand d.value ≡ None → ⊥) → AreOf ids (offers_named hand ids) × AllSame out (offers_named hand ids)
  named-are [] there = (tt, tt)
  named-are (d ∷ ds) there = by (offer_in hand d.value) refl (named-are ds (λ i e at. there (suc i) e at))
    where
      by : (o : Option Offer) → offer_in hand d.value ≡ o → AreOf ds (offers_named hand ds) × AllSame out (offers_named hand ds)
          → AreOf (d ∷ ds) (offers_named hand (d ∷ ds)) × AllSame out (offers_named hand (d ∷ ds))
      by None e rest = absurd (there 0 d refl e)
      by (Some x) e rest = rw e ((found-is d.value hand x e, rest.0), (found-same out d.value hand x e all, rest.1))

-- ---- if all named offers are outstanding, the offers taken are a permutation of the named ones

one-more : (d : Id) (ds : List Id) (x : Offer) (out : List Offer) → ((n : List ℕ) → count n out ≤ 1) → offer_in out d.value ≡ Some x → is_among d ds ≡ false
    → IsPermutation (x ∷ filter (names ds) out) (filter (names (d ∷ ds)) out)
one-more d ds x [] once e none = absurd (cc)
one-more d ds x (y ∷ ys) once e none =
    by (bytes_eq d.value (name_of y)) refl (names ds y) refl e (λ f. one-more d ds x ys (λ n. omega (arith, once n)) f none)
  where
    same-rest : bytes_eq d.value (name_of y) ≡ true → filter (names ds) ys ≡ filter (names (d ∷ ds)) ys
    same-rest f = same-in (names ds) (names (d ∷ ds)) ys (λ o h. (let g : bytes_eq d.value (name_of o) ≡ false = other o h (bytes_eq d.value (name_of o)) refl in sym (ap (λ (b : Bool). b || names ds o) g)))
      where
        other : (o : Offer) → 1 ≤ count (name_of o) ys → (b : Bool) → bytes_eq d.value (name_of o) ≡ b → bytes_eq d.value (name_of o) ≡ false
        other o h false g = g
        other o h true g =
            let e1 : d.value ≡ name_of o = (bytes_eq-Decides d.value (name_of o)).0 g in
            let e2 : d.value ≡ name_of y = (bytes_eq-Decides d.value (name_of y)).0 f in
            let same : bytes_eq (name_of o) (name_of y) ≡ true = (bytes_eq-Decides (name_of o) (name_of y)).1 (sym e1 ∙ e2) in
            absurd (let all : count (name_of o) (y ∷ ys) ≤ 1 = once (name_of o) in let two : 1 + count (name_of o) ys ≤ 1 = rw same at all in omega (arith, two, h))

    far : bytes_eq d.value (name_of y) ≡ true → names ds y ≡ false
    far f = go ds none
      where
        go : (es : List Id) → is_among d es ≡ false → names es y ≡ false
        go [] n = refl
        go (e ∷ es) n =
            let p : (bytes_eq d.value e.value ≡ false) × (is_among d es ≡ false) = or_parts _ _ n in
            let q : bytes_eq e.value (name_of y) ≡ false = turn (bytes_eq e.value (name_of y)) refl p.0 in
            (λ i. q i || go es p.1 i)
          where
            turn : (b : Bool) → bytes_eq e.value (name_of y) ≡ b → bytes_eq d.value e.value ≡ false → bytes_eq e.value (name_of y) ≡ false
            turn false g h = g
            turn true g h =
                apart (bytes_eq d.value e.value) ((bytes_eq-Decides d.value e.value).1 ((bytes_eq-Decides d.value (name_of y)).0 f ∙ sym ((bytes_eq-Decides e.value (name_of y)).0 g))) h

    swap : (u v : Offer) (os qs : List Offer) → IsPermutation (u ∷ os) qs → IsPermutation (u ∷ v ∷ os) (v ∷ qs)
    swap u v os qs moved = IsPermutation-trans (u ∷ v ∷ os) (v ∷ u ∷ os) (v ∷ qs) (two u v os) (IsPermutation-cons v (u ∷ os) qs moved)
      where
        two : (u v : Offer) (os : List Offer) → IsPermutation (u ∷ v ∷ os) (v ∷ u ∷ os)
        two u v os = IsPermutation-middle (u ∷ []) v os

    by : (b : Bool) → bytes_eq d.value (name_of y) ≡ b → (k : Bool) → names ds y ≡ k → offer_in (y ∷ ys) d.value ≡ Some x
        → (offer_in ys d.value ≡ Some x → IsPermutation (x ∷ filter (names ds) ys) (filter (names (d ∷ ds)) ys))
        → IsPermutation (x ∷ filter (names ds) (y ∷ ys)) (filter (names (d ∷ ds)) (y ∷ ys))
    by true f k g e rest =
        let same : y ≡ x = (let h : Some y ≡ Some x = rw f at e in cc) in
        let no : names ds y ≡ false = far f in
        rw (f, no) (subst (λ (z : Offer). IsPermutation (z ∷ filter (names ds) ys) (y ∷ filter (names (d ∷ ds)) ys)) same
        (subst (λ (l : List Offer). IsPermutation (y ∷ filter (names ds) ys) (y ∷ l)) (same-rest f) (IsPermutation-refl (y ∷ filter (names ds) ys))))
    by false f true g e rest = rw (f, g) (swap x y (filter (names ds) ys) (filter (names (d ∷ ds)) ys) (rest (let h : offer_in ys d.value ≡ Some x = rw f at e in h)))
    by false f false g e rest = rw (f, g) (rest (let h : offer_in ys d.value ≡ Some x = rw f at e in h))

none-named : (out : List Offer) → filter (names []) out ≡ []
none-named [] = refl
none-named (o ∷ out) = none-named out

pub taken-are : (ids : List Id) (xs out : List Offer) → ((n : List ℕ) → count n out ≤ 1) → AreOf ids xs → AllSame out xs → list_all (is_there out) ids ≡ true → is_duplicated ids ≡ false
    → IsPermutation xs (filter (names ids) out)
taken-are [] [] out once are same there apart_ids = subst (IsPermutation []) (sym (none-named out)) (IsPermutation-refl [])
taken-are [] (x ∷ xs) out once are same there apart_ids = absurd are
taken-are (d ∷ ds) [] out once are same there apart_ids = absurd are
taken-are (d ∷ ds) (x ∷ xs) out once are same there apart_ids =
    let parts : (is_there out d ≡ true) × (list_all (is_there out) ds ≡ true) = and_parts _ _ there in
    let distinct : (is_among d ds ≡ false) × (is_duplicated ds ≡ false) = or_parts _ _ apart_ids in
    let represents : 1 ≤ count (name_of x) out = subst (λ (n : List ℕ). 1 ≤ count n out) (sym are.0) (count-found d.value out (λ none. absurd (let f : is_some (offer_in out d.value) ≡ false = ap is_some none in let g : is_there out d ≡ true = parts.0 in cc))) in
    let found : offer_in out d.value ≡ Some x = subst (λ (n : List ℕ). offer_in out n ≡ Some x) are.0 (same.0 represents) in
    IsPermutation-trans (x ∷ xs) (x ∷ filter (names ds) out) (filter (names (d ∷ ds)) out)
    (IsPermutation-cons x xs (filter (names ds) out) (taken-are ds xs out once are.1 same.1 parts.1 distinct.1))
    (one-more d ds x out once found distinct.0)
