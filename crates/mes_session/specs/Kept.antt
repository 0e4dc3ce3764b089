-- The items that the entries of a history brought and did not remove, each under a key, in the
-- order of arrival.
use Rattle.std.specs.Prelude.{◌≡◌, ℕ, ◌+◌, ◌-◌, ◌<◌, Bool, true, false, not, List, length, reverse, slice_get, Option, Some}
use Rattle.std.specs.List.{AllPairs, find, flat_map, list_any, position_or_len, take_while}

-- the entries after the last entry that passes the test, or all entries if none passes
module _ {E : Type 0} where
  abbrev pub after_last : (E → Bool) → List E → List E
  after_last test h = reverse (take_while (λ e. not (test e)) (reverse h))

-- all items that the entries bring, in order
module _ {E X : Type 0} (brings : E → List X) where
  abbrev pub brought : List E → List X
  brought h = flat_map brings h

module _ {E X K : Type 0} (same : K → K → Bool) (key : X → K) (brings : E → List X) (takes : K → E → Bool) where
  -- the items, of all keys, that were brought since the key k was last removed
  abbrev pub since : List E → K → List X
  since h k = brought brings (after_last (takes k) h)

  -- the value of a key: the last item of the key that was brought since the key was last removed
  abbrev pub value_of : List E → K → Option X
  value_of h k = find (λ x. same k (key x)) (reverse (since h k))

  -- the place of a key: the index, among all items brought, of the first item of the key since the
  -- key was last removed
  abbrev pub place_of : List E → K → ℕ
  place_of h k = (length (brought brings h) - length (since h k)) + position_or_len (λ x. same k (key x)) (since h k)

  -- xs are the retained items: the value of each key that has one, in the order of the places of
  -- the keys
  pub record IsKept (h : List E) (xs : List X) : Type 0 where
    pub found : (k : K) → find (λ x. same k (key x)) xs ≡ value_of h k
    pub order : AllPairs (λ x y. place_of h (key x) < place_of h (key y)) xs

  -- the entry at index i brings an item of the key, and no later entry removes the key
  pub record IsLeftBy (h : List E) (k : K) (i : ℕ) : Type 0 where
    pub entry : E
    pub is : slice_get h i ≡ Some entry
    pub brings_it : list_any (λ x. same k (key x)) (brings entry) ≡ true
    pub stays : (j : ℕ) (later : E) → i < j → slice_get h j ≡ Some later → takes k later ≡ false
