-- The entries of the map of outstanding offers: each is under an identifier and has a mark for
-- removal.
use Rattle.std.specs.Prelude.{◌≡◌, ℕ, Bool, false, not, ◌||◌, List, [], ◌∷◌, map, fold, String, string_bytes}
use Rattle.std.specs.Str.{bytes_eq}
use Rattle.mes_model.specs.Id.{Id}
use Rattle.mes_model.specs.Offer.{Offer}
use Rattle.mes_session_state.specs.declared.slot.Slot.{Slot}
use Rattle.mes_session_state.specs.Held.{name_of}

module _ {A : Type 0} where
  -- the offers of the entries, in order
  abbrev pub offers_in : List (String A × Slot) → List Offer
  offers_in entries = map (λ e. e.1.offer) entries

  -- each entry is under its offer's identifier
  abbrev pub AreNamed : List (String A × Slot) → Type 0
  AreNamed [] = Unit {0}
  AreNamed (e ∷ es) = (string_bytes e.0 ≡ name_of e.1.offer) × AreNamed es

  -- each entry is under its offer's identifier, and none is marked for removal
  abbrev pub AreSettled : List (String A × Slot) → Type 0
  AreSettled [] = Unit {0}
  AreSettled (e ∷ es) = (string_bytes e.0 ≡ name_of e.1.offer) × (e.1.leaves ≡ false) × AreSettled es

  -- an entry, marked for removal if it is under the identifier `name`
  abbrev pub marked_at : List ℕ → String A × Slot → String A × Slot
  marked_at name e = (e.0, record { offer = e.1.offer; leaves = bytes_eq name (string_bytes e.0) || e.1.leaves })

  -- all entries; those under one of the identifiers are marked for removal
  abbrev pub marked : List Id → List (String A × Slot) → List (String A × Slot)
  marked ids entries = fold (λ done (d : Id). map (marked_at d.value) done) entries ids

  -- the entry is not marked for removal
  abbrev pub stays : String A × Slot → Bool
  stays e = not e.1.leaves
