-- Lemmas about the number of offers in a list that have a given identifier.
use Rattle.std.proofs.Common.{◌≡◌, ℕ, ◌+◌, ◌≤◌, Bool, true, false, filter, List, [], ◌∷◌, ◌++◌, None, refl, sym, ap, ◌∙◌, arith}
use Rattle.std.specs.List.{list_any}
use Rattle.std.specs.Str.{bytes_eq}
use Rattle.std.proofs.lemmas.Slice.Eq.{bytes_eq-Decides}
use Rattle.mes_model.specs.Id.{Id}
use Rattle.mes_model.specs.Offer.{Offer}
use Rattle.mes_session_state.specs.Keeping.{put}
use Rattle.mes_session_state.specs.Held.{name_of, offer_in, names, with_offers, without_offers}
use Rattle.mes_double_master.specs.Sending.{offer_ids, is_duplicate}
use Rattle.mes_double_master.proofs.AgainLemmas.{same_text}
use Rattle.mes_double_master.proofs.RunLemmas.{times, times-append, Once, offered-once}

abbrev pub count : List ℕ → List Offer → ℕ
count x os = times x (offer_ids os)

pub count-append : (x : List ℕ) (front os : List Offer) → count x (front ++ os) ≡ count x front + count x os
count-append x [] os = omega arith
count-append x (o ∷ front) os = omega (arith, count-append x front os)

pub count-filter : (x : List ℕ) (p : Offer → Bool) (os : List Offer) → count x (filter p os) ≤ count x os
count-filter x p [] = omega arith
count-filter x p (o ∷ os) = by (p o) refl (count-filter x p os)
  where
    by : (b : Bool) → p o ≡ b → count x (filter p os) ≤ count x os → count x (filter p (o ∷ os)) ≤ count x (o ∷ os)
    by true e rest = rw e (omega (arith, rest))
    by false e rest = rw e (omega (arith, rest))

count-put : (x : List ℕ) (os : List Offer) (o : Offer) → count x (put bytes_eq name_of os o) ≤ count x os + count x (o ∷ [])
count-put x [] o = omega arith
count-put x (y ∷ ys) o = by (bytes_eq (name_of o) (name_of y)) refl (count-put x ys o)
  where
    by : (b : Bool) → bytes_eq (name_of o) (name_of y) ≡ b → count x (put bytes_eq name_of ys o) ≤ count x ys + count x (o ∷ [])
        → count x (put bytes_eq name_of (y ∷ ys) o) ≤ count x (y ∷ ys) + count x (o ∷ [])
    by true e rest = rw e (omega arith)
    by false e rest = rw e (omega (arith, rest))

pub count-with : (x : List ℕ) (os news : List Offer) → count x (with_offers os news) ≤ count x os + count x news
count-with x os [] = omega arith
count-with x os (o ∷ news) = omega (arith, count-put x os o, count-with x (put bytes_eq name_of os o) news)

pub count-first : (o : Offer) (os : List Offer) → 1 ≤ count (name_of o) (o ∷ os)
count-first o os = rw (same_text (name_of o)) (omega arith)

pub count-later : (x : List ℕ) (o : Offer) (os : List Offer) → 1 ≤ count x os → 1 ≤ count x (o ∷ os)
count-later x o os h = omega (arith, h)

pub count-found : (x : List ℕ) (os : List Offer) → (offer_in os x ≡ None → ⊥) → 1 ≤ count x os
count-found x [] some = absurd (some refl)
count-found x (o ∷ os) some = by (bytes_eq x (name_of o)) refl some (count-found x os)
  where
    by : (b : Bool) → bytes_eq x (name_of o) ≡ b → (offer_in (o ∷ os) x ≡ None → ⊥) → ((offer_in os x ≡ None → ⊥) → 1 ≤ count x os) → 1 ≤ count x (o ∷ os)
    by true e some rest = rw e (omega arith)
    by false e some rest = count-later x o os (rest (λ none. some (rw e none)))

pub new-apart : (offered : List Id) (news : List Offer) → Once offered → is_duplicate offered (offer_ids news) ≡ false → (x : List ℕ) → times x offered + count x news ≤ 1
new-apart offered news once none x = omega (arith, offered-once offered (offer_ids news) none once x, times-append x offered (offer_ids news))

pub names-alike : (ids : List Id) (a b : Offer) → name_of a ≡ name_of b → names ids a ≡ names ids b
names-alike ids a b e = ap (λ (n : List ℕ). list_any (λ (d : Id). bytes_eq d.value n) ids) e

pub count-without : (ids : List Id) (o : Offer) (os : List Offer) → names ids o ≡ true → 1 ≤ count (name_of o) (without_offers ids os) → ⊥
count-without ids o [] named h = omega (arith, h)
count-without ids o (y ∷ ys) named h = by (bytes_eq (name_of o) (name_of y)) refl (names ids y) refl h (count-without ids o ys named)
  where
    by : (b : Bool) → bytes_eq (name_of o) (name_of y) ≡ b → (k : Bool) → names ids y ≡ k → 1 ≤ count (name_of o) (without_offers ids (y ∷ ys)) → (1 ≤ count (name_of o) (without_offers ids ys) → ⊥) → ⊥
    by b e true f h rest = rest (let g : 1 ≤ count (name_of o) (without_offers ids ys) = rw f at h in g)
    by true e false f h rest =
        (let g : names ids o ≡ names ids y = names-alike ids o y ((bytes_eq-Decides (name_of o) (name_of y)).0 e) in absurd (cc))
    by false e false f h rest = rest (let g : 1 ≤ count (name_of o) (y ∷ without_offers ids ys) = rw f at h in let k : 1 ≤ 0 + count (name_of o) (without_offers ids ys) = rw e at g in omega (arith, k))

pub same-in : (a b : Offer → Bool) (os : List Offer) → ((o : Offer) → 1 ≤ count (name_of o) os → a o ≡ b o) → filter a os ≡ filter b os
same-in a b [] same = refl
same-in a b (o ∷ os) same = by (a o) refl (same-in a b os (λ x h. same x (count-later (name_of x) o os h)))
  where
    by : (p : Bool) → a o ≡ p → filter a os ≡ filter b os → filter a (o ∷ os) ≡ filter b (o ∷ os)
    by true e rest = (let g : b o ≡ true = sym (same o (count-first o os)) ∙ e in rw (e, g) (ap (λ (l : List Offer). o ∷ l) rest))
    by false e rest = (let g : b o ≡ false = sym (same o (count-first o os)) ∙ e in rw (e, g) rest)
