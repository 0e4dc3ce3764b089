-- Canonical texts appended to bytes, with their nesting depths, at most 2^64 - 1.
use Rattle.std.specs.Prelude.{◌≡◌, ℕ, ◌-◌, ◌^◌, min, List, [], ◌∷◌, ◌++◌, length}
use Rattle.mes_json.specs.Tree.{Tree, depth, depth_of_items, depth_of_members}
use Rattle.mes_json.specs.Canonical.{canonical, more_items, more_members}
use Rattle.mes_json.specs.View.{items_of, members_of}
use Rattle.mes_json.specs.Writable.{IsWritable, AreWritable, AreWritableMembers}

-- the smaller of the number and 2^64 - 1
abbrev pub counted : ℕ → ℕ
counted n = min n (2 ^ 64 - 1)

-- The canonical text of a writable tree is appended, and `deep` is the nesting depth of the tree.
pub record Appends (old : List ℕ) (t : Tree) (new : List ℕ) (deep : ℕ) : Type 0 where
  pub text : new ≡ old ++ canonical t
  pub writable : IsWritable t
  pub nests : deep ≡ counted (depth t)

-- The texts of items are appended, each after a comma. `deep` is their greatest nesting depth.
pub record AppendsItems (old : List ℕ) (ts : List Tree) (new : List ℕ) (deep : ℕ) : Type 0 where
  pub text : new ≡ old ++ more_items (items_of ts)
  pub writable : AreWritable (items_of ts)
  pub nests : deep ≡ counted (depth_of_items (items_of ts))

-- The texts of members are appended, each after a comma. `deep` is the greatest nesting depth of
-- their values.
pub record AppendsMembers (old : List ℕ) (ms : List (List ℕ × Tree)) (new : List ℕ) (deep : ℕ) : Type 0 where
  pub text : new ≡ old ++ more_members (members_of ms)
  pub writable : AreWritableMembers (members_of ms)
  pub nests : deep ≡ counted (depth_of_members (members_of ms))

-- The comma at `start` is replaced by the bracket `first`, which is appended if there is no comma.
-- Then the bracket `last` is appended.
pub record Closes (first start last : ℕ) (old new : List ℕ) : Type 0 where
  pub some : (front inside : List ℕ) → length front ≡ start → old ≡ front ++ 44 ∷ inside → new ≡ front ++ first ∷ (inside ++ last ∷ [])
  pub none : length old ≡ start → new ≡ old ++ first ∷ last ∷ []
