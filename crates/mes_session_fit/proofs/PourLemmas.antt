-- Lemmas about the amount of a key that remains in the offers while tasks take from it.
use Rattle.std.proofs.Common.{◌≡◌, ℕ, zero, suc, ◌+◌, ◌≤◌, ◌<◌, Some, List, [], ◌∷◌, ◌++◌, length, take, drop, get_or, slice_get, Bool, true, false, not, IsTrue, IsFalse, ◌↔◌, refl, sym, ◌∙◌, ap, add-one, arith}
use Rattle.std.specs.List.{list_any, flat_map, sum_by}
use Rattle.std.proofs.lemmas.Option.{slice_get_within}
use Rattle.std.proofs.lemmas.List.{take-append-drop}
use Rattle.std.proofs.lemmas.List.Sums.{sum_by-cons, sum_by-append}
use Rattle.std.proofs.lemmas.Grind.{flat_map-append}
use Rattle.mes_model.specs.Resource.{Resource}
use Rattle.mes_model.specs.Offer.{Offer}
use Rattle.mes_session_fit.specs.Keys.{Key, is_of}
use Rattle.mes_model.specs.TaskInfo.{TaskInfo}
use Rattle.mes_session_fit.specs.Fits.{amount_of, amount, offered, asked}
use Rattle.mes_session_fit.specs.Launched.{launched, place}
use Rattle.mes_session_fit.specs.Pouring.{from}
use Rattle.mes_session_fit.proofs.FitsLemmas.{none-of}
use Rattle.mes_session_fit.proofs.LaunchedLemmas.{drop-from}
use Rattle.mes_session_fit.proofs.ListLemmas.{sum-flat_map, get-of}

module _ {X : Type 0} where
  drop-suc : (xs : List X) (i : ℕ) (x : X) → i < length xs → x ≡ get_or xs i x → drop i xs ≡ x ∷ drop (suc i) xs
  drop-suc [] i x h e = absurd (omega arith)
  drop-suc (y ∷ ys) zero x h e = ap (λ z. z ∷ ys) (sym e)
  drop-suc (y ∷ ys) (suc i) x h e = drop-suc ys i x (omega arith) e

  drop-get : (xs : List X) (i : ℕ) (x : X) → i < length xs → x ≡ get_or xs i x → drop i xs ≡ x ∷ drop (i + 1) xs
  drop-get xs i x h e = rw add-one (drop-suc xs i x h e)

  drop-at : (xs : List X) (i : ℕ) (x : X) → slice_get xs i ≡ Some x → drop i xs ≡ x ∷ drop (i + 1) xs
  drop-at xs i x e = drop-get xs i x (slice_get_within xs i x e) (get-of xs i x e)

  drop-past : (xs : List X) (i : ℕ) → length xs ≤ i → drop i xs ≡ []
  drop-past [] zero h = refl
  drop-past [] (suc i) h = refl
  drop-past (y ∷ ys) zero h = absurd (omega arith)
  drop-past (y ∷ ys) (suc i) h = drop-past ys i (omega arith)

pub from-start : (os : List Offer) → from 0 os ≡ offered os
from-start [] = refl
from-start (o ∷ os) = refl

pub from-past : (os : List Offer) (offer resource : ℕ) → length os ≤ offer → from resource (drop offer os) ≡ []
from-past os offer resource h = ap (from resource) (drop-past os offer h)

module _ (k : Key) (os : List Offer) (offer resource : ℕ) (o : Offer) (is : slice_get os offer ≡ Some o) where
  from-next : length o.resources ≤ resource → from resource (drop offer os) ≡ from 0 (drop (offer + 1) os)
  from-next h =
      ap (from resource) (drop-at os offer o is)
      ∙ ap (λ (rs : List Resource). rs ++ offered (drop (offer + 1) os)) (drop-past o.resources resource h)
      ∙ sym (from-start (drop (offer + 1) os))

  from-one : (r : Resource) → resource < length o.resources → r ≡ get_or o.resources resource r → from resource (drop offer os) ≡ r ∷ from (resource + 1) (drop offer os)
  from-one r h e =
      ap (from resource) (drop-at os offer o is)
      ∙ ap (λ (rs : List Resource). rs ++ offered (drop (offer + 1) os)) (drop-get o.resources resource r h e)
      ∙ ap (λ (rs : List Resource). r ∷ rs) (sym (ap (from (resource + 1)) (drop-at os offer o is)))

  pub next-same : length o.resources ≤ resource → amount k (from 0 (drop (offer + 1) os)) ≡ amount k (from resource (drop offer os))
  next-same h = ap (amount k) (sym (from-next h))

  pub next-less : length o.resources ≤ resource → length (from 0 (drop (offer + 1) os)) + length (drop (offer + 1) os) < length (from resource (drop offer os)) + length (drop offer os)
  next-less h = omega (arith, ap (length {A = Resource}) (from-next h), ap (length {A = Offer}) (drop-at os offer o is))

  pub one-same : (r : Resource) → resource < length o.resources → r ≡ get_or o.resources resource r → amount_of k r + amount k (from (resource + 1) (drop offer os)) ≡ amount k (from resource (drop offer os))
  one-same r h e = sym (sum_by-cons (amount_of k) r (from (resource + 1) (drop offer os))) ∙ ap (amount k) (sym (from-one r h e))

  pub one-less : (r : Resource) → resource < length o.resources → r ≡ get_or o.resources resource r → length (from (resource + 1) (drop offer os)) + length (drop offer os) < length (from resource (drop offer os)) + length (drop offer os)
  one-less r h e = omega (arith, ap (length {A = Resource}) (from-one r h e))

pub sum-more : {X : Type 0} (f : X → ℕ) (xs : List X) (i : ℕ) (x : X) → i < length xs → x ≡ get_or xs i x → sum_by f (take i xs) + f x ≤ sum_by f xs
sum-more f [] i x h e = absurd (omega arith)
sum-more f (y ∷ ys) zero x h e = omega (arith, sum_by-cons f y ys, ap f e)
sum-more f (y ∷ ys) (suc i) x h e = omega (arith, sum_by-cons f y ys, sum_by-cons f y (take i ys), sum-more f ys i x (omega arith) e)

pub parts-more : {X Y : Type 0} (g : Y → ℕ) (f : X → List Y) (xs : List X) (i : ℕ) (x : X) → i < length xs → x ≡ get_or xs i x → sum_by g (flat_map f (take i xs)) + sum_by g (f x) ≤ sum_by g (flat_map f xs)
parts-more {X = X} g f xs i x h e = omega (arith, sum-more (λ (z : X). sum_by g (f z)) xs i x h e, sum-flat_map g f xs, sum-flat_map g f (take i xs))

asked-both : (k : Key) (ts us : List TaskInfo) → amount k (asked (ts ++ us)) ≡ amount k (asked ts) + amount k (asked us)
asked-both k ts us = ap (amount k) (flat_map-append (λ (t : TaskInfo). t.resources) ts us) ∙ sum_by-append (amount_of k) (asked ts) (asked us)

-- if no earlier task has the key, all tasks take as much of it as this task and the later ones
pub amount-from : {G : Type 0} (of : G → List TaskInfo) (os : List G) (at : ℕ) (o : G) → at < length os → o ≡ get_or os at o → (t : ℕ) (tasks : List TaskInfo) → tasks ≡ of o → t ≤ length (of o)
    → (k : Key) → list_any (is_of k) (asked (take (place of os at t) (launched of os))) ≡ false
    → amount k (asked (launched of os)) ≡ amount k (asked (drop t tasks)) + amount k (asked (launched of (drop (at + 1) os)))
amount-from of os at o within is t tasks are inside k none =
    let all = ap (λ ts. amount k (asked ts)) (take-append-drop (place of os at t) (launched of os)) in
    let following = ap (λ ts. amount k (asked ts)) (drop-from of os at o within is t inside) in
    let own = ap (λ ts. amount k (asked (drop t ts))) are in
    omega (
      arith,
      all,
      following,
      own,
      asked-both k (take (place of os at t) (launched of os)) (drop (place of os at t) (launched of os)),
      asked-both k (drop t (of o)) (launched of (drop (at + 1) os)),
      none-of k (asked (take (place of os at t) (launched of os))) none,
    )

-- taking `wanted` fails if and only if it exceeds the available amount
pub taken-all : (taken : Bool) (has wanted : ℕ) → (IsTrue taken → wanted ≤ has) → (IsFalse taken → has < wanted) → IsTrue (not taken) ↔ has < wanted
taken-all true has wanted enough short = (λ e. absurd (cc), λ h. absurd (omega (arith, enough refl)))
taken-all false has wanted enough short = (λ e. short refl, λ h. refl)
