-- The members of an object that have been appended to a vector.
use Rattle.std.specs.Prelude.{◌≡◌, ◌++◌, ℕ, List, map}
use Rattle.mes_json.specs.Tree.{Tree}
use Rattle.mes_json.specs.View.{view}
use Rattle.mes_json.specs.declared.value.Json.{Json}

-- the name of a member and the tree of its value
abbrev pub member_view : List ℕ × Json → List ℕ × Tree
member_view m = (m.0, view m.1)

abbrev pub pairs_view : List (List ℕ × Json) → List (List ℕ × Tree)
pairs_view ms = map member_view ms

-- the list of new members begins with the old members
abbrev pub Continues : List (List ℕ × Tree) → List (List ℕ × Tree) → Type 0
Continues old new = (more : List (List ℕ × Tree)) × (new ≡ old ++ more)
